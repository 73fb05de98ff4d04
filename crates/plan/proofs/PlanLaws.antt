-- What the crates above may use of a plan: that nothing refuses it exactly where it is a GoodPlan (`good_bounds`, `bounds_good`), which refusals
-- there are and what each says (`plan_refusals`), that a plan made with no refusal is good (`of_good`, `blank_good`,
-- `straight_good`, `powers_good`, `ruler_good`), a plan with another shift, and the rows of a place.
use Rattle.std.specs.Prelude.{◌≡◌, ◌≢◌, ◌⊎◌, Bool, true, false, ◌&&◌, List, [], ◌∷◌, map, ℕ, zero, suc, ◌+◌, ◌-◌, ◌*◌, ◌/◌, ◌%◌, ◌^◌, ◌<◌, ◌≤◌, leb, ltb, eqb, length, get_or, set, take, replicate, Ok, Err, Result}
use Rattle.std.proofs.Math.Path.{refl}
use Rattle.std.proofs.Common.{sym, ◌∙◌, ap, subst, inl, inr, arith, mod-lt, mod-eq_of_lt, length-take, length-set, take-suc, get_or-take, get_or-set_same, get_or-set_other, leb-true, le-leb, eqb-true, eq-eqb, ltb-true, lt-ltb}
use Rattle.std.proofs.Math.Logic.{by_cases}
use Rattle.std.proofs.lemmas.List.{map-append, length-map, length-replicate}
use Rattle.std.proofs.Math.Decide.{ℕ_discrete}
use Rattle.std.proofs.Math.Nat.{add-mod_right}
use Rattle.math.specs.Gcd.{gcd_all, gap}
use Rattle.math.proofs.GcdLaws.{gcd_all_le}
use Rattle.math.specs.Members.{up_to}
use Rattle.math.specs.MembersLaws.{length_up_to, get_or_up_to, up_to_suc}
use Rattle.math.specs.Tests.{and_left, and_right}
use Rattle.math.specs.Padded.{zeros_at}
use Rattle.refusals.specs.Refusals.{check_number, test_of, unless, ◌then◌, Check}
use Rattle.refusals.proofs.RefusalLaws.{not_eleven, pass_not_stop, answer_not_stop, stop_same, unless_pass, then_pass}
use Rattle.refusals.specs.declared.Refusal.{Refusal}
use Rattle.refusals.specs.declared.Refusal.TheVariants.{Size, Shift, Family}
use Rattle.bounds.specs.Bounds.{size_fits, all_below, min_n, max_n, min_t, max_t, max_places}
use Rattle.shifts.specs.Shifts.{gaps}
use Rattle.shifts.specs.ShiftsLaws.{take_padded, below_all_below}
use Rattle.families.specs.Families.{powers_need}
use Rattle.ruler.specs.Ruler.{ruler_t, ruler_shifts}
use Rattle.ruler.proofs.RulerLaws.{ruler_length, ruler_below, ruler_fits}
use Rattle.plan.specs.Layout.{Layout, Valid, layout, divisor, message_count, bottom_row, top_row, top, bottom}
use Rattle.plan.specs.GoodPlan.{GoodPlan, plan_valid}
use Rattle.plan.specs.Plans.{raw_plan, plan_in, with_shift, layout_of, shifts_check, check_by, plan_check, no_plan, plan, answered, plan_of, blank_of, straight_of, powers_of, ruler_of, count_of, message_count_of}
use Rattle.plan.specs.declared.Plan.{Plan}
use Rattle.std.specs.Result.{result_unwrap_or}

-- n, t and n × t within bounds: what the test of the size says
pub record Fitting (n t : ℕ) : Type 0 where
  pub n_min : min_n ≤ n
  pub n_max : n ≤ max_n
  pub t_min : min_t ≤ t
  pub t_max : t ≤ max_t
  pub places_max : n * t ≤ max_places

pub good_fitting : {n t : ℕ} {s : List ℕ} → GoodPlan n t s → Fitting n t
good_fitting g = record { n_min = g.n_min; n_max = g.n_max; t_min = g.t_min; t_max = g.t_max; places_max = g.places_max }

pub size_fitting : (n t : ℕ) → size_fits n t ≡ true → Fitting n t
unfolding size_fits
size_fitting n t e =
    let e₄ = and_left (leb min_n n && leb n max_n && leb min_t t && leb t max_t) (leb (n * t) max_places) e in
    let e₃ = and_left (leb min_n n && leb n max_n && leb min_t t) (leb t max_t) e₄ in
    let e₂ = and_left (leb min_n n && leb n max_n) (leb min_t t) e₃ in
    record {
      n_min = leb-true min_n n (and_left (leb min_n n) (leb n max_n) e₂);
      n_max = leb-true n max_n (and_right (leb min_n n) (leb n max_n) e₂);
      t_min = leb-true min_t t (and_right (leb min_n n && leb n max_n) (leb min_t t) e₃);
      t_max = leb-true t max_t (and_right (leb min_n n && leb n max_n && leb min_t t) (leb t max_t) e₄);
      places_max = leb-true (n * t) max_places (and_right (leb min_n n && leb n max_n && leb min_t t && leb t max_t) (leb (n * t) max_places) e);
    }

pub fitting_size : {n t : ℕ} → Fitting n t → size_fits n t ≡ true
unfolding size_fits
fitting_size {n} {t} f =
    simp
    (le-leb min_n n f.n_min, le-leb n max_n f.n_max, le-leb min_t t f.t_min, le-leb t max_t f.t_max, le-leb (n * t) max_places f.places_max)

-- ---- a plan that passes

first_below : {t : ℕ} → 0 < t → (n : ℕ) (s : List ℕ) → all_below t (take n s) ≡ true → (j : ℕ) → j < n → get_or s j 0 < t
unfolding all_below
first_below h zero s e j lt = absurd (omega arith)
first_below h (suc n) [] e j lt = h
first_below {t} h (suc n) (p ∷ ps) e zero lt = ltb-true p t (and_left (ltb p t) (all_below t (take n ps)) e)
first_below {t} h (suc n) (p ∷ ps) e (suc j) lt = first_below h n ps (and_right (ltb p t) (all_below t (take n ps)) e) j (omega arith)

-- the tests of a plan that passes
tests_pass : (n t : ℕ) (s : List ℕ) → check_by n t s ≡ Ok tt → (size_fits n t ≡ true) × (length s ≡ n) × (all_below t s ≡ true)
unfolding check_by shifts_check
tests_pass n t s e =
    let a = then_pass (unless (size_fits n t) Size) _ e in
    let b = then_pass (unless (eqb (length s) n) Shift) _ a.1 in
    (unless_pass _ Size a.0, eqb-true (length s) n (unless_pass _ Shift b.0), unless_pass _ Shift b.1)

pass_tests : (n t : ℕ) (s : List ℕ) → size_fits n t ≡ true → length s ≡ n → all_below t s ≡ true → check_by n t s ≡ Ok tt
unfolding check_by shifts_check
pass_tests n t s a b c = simp (a, eq-eqb (length s) n b, c)

pub good_bounds : (p : Plan) → plan_check p ≡ Ok tt → GoodPlan p.n p.t p.shifts
unfolding plan_check
good_bounds p e =
    let tests = tests_pass p.n p.t (take p.n p.shifts) e in
    let size = size_fitting p.n p.t tests.0 in
    record {
      n_min = size.n_min;
      n_max = size.n_max;
      t_min = size.t_min;
      t_max = size.t_max;
      places_max = size.places_max;
      long = omega (arith, length-take p.n p.shifts, tests.1);
      below = first_below size.t_min p.n p.shifts tests.2;
    }

-- and the other way
pub bounds_good : (p : Plan) → GoodPlan p.n p.t p.shifts → plan_check p ≡ Ok tt
unfolding plan_check
bounds_good p g =
    pass_tests p.n p.t (take p.n p.shifts) (fitting_size (good_fitting g)) (omega (arith, length-take p.n p.shifts, g.long))
    (below_all_below p.t (take p.n p.shifts) first)
  where
    first : (j : ℕ) → j < length (take p.n p.shifts) → get_or (take p.n p.shifts) j 0 < p.t
    first j h =
        let l = length-take p.n p.shifts in
        let lt : j < p.n = omega arith in
        subst (λ (x : ℕ). x < p.t) (sym (get_or-take p.n p.shifts j 0 lt)) (g.below j lt)

pub good_valid : (p : Plan) → plan_check p ≡ Ok tt → Valid (layout_of p)
unfolding layout_of
good_valid p e = plan_valid (good_bounds p e)

-- ---- a plan that is refused

by_tests : (a b c : Bool) {x : Refusal} → (unless a Size then unless b Shift then unless c Shift) ≡ Err x →
    ((x ≡ Size) × (a ≡ false)) ⊎ ((x ≡ Shift) × (a ≡ true) × (b && c ≡ false))
by_tests true true true e = absurd (pass_not_stop _ e)
by_tests true true false e = inr (stop_same (sym e), refl, refl)
by_tests true false c e = inr (stop_same (sym e), refl, refl)
by_tests false b c e = inl (stop_same (sym e), refl)

-- a plan is refused by 1 or 2, and each says what it should
pub plan_refusals : (p : Plan) {x : Refusal} → plan_check p ≡ Err x →
    ((x ≡ Size) × (size_fits p.n p.t ≡ false))
    ⊎ ((x ≡ Shift) × (size_fits p.n p.t ≡ true) × (eqb (length (take p.n p.shifts)) p.n && all_below p.t (take p.n p.shifts) ≡ false))
unfolding plan_check check_by shifts_check
plan_refusals p e = by_tests (size_fits p.n p.t) (eqb (length (take p.n p.shifts)) p.n) (all_below p.t (take p.n p.shifts)) e

-- ---- the constructors: where nothing refuses, the plan is good

made_good : (n t : ℕ) (s : List ℕ) → size_fits n t ≡ true → length s ≡ n → all_below t s ≡ true → plan_check (plan n t s) ≡ Ok tt
unfolding plan_check plan
made_good n t s size count below = simp (take_padded s n count, pass_tests n t s size count below)

answered_good : (c : Check) (n t : ℕ) (s : List ℕ) {p : Plan} → (c ≡ Ok tt → plan_check (plan n t s) ≡ Ok tt) → answered c n t s ≡ Ok p → plan_check p ≡ Ok tt
unfolding answered
answered_good (Ok tt) n t s f e = subst (λ (q : Plan). plan_check q ≡ Ok tt) (ap (λ r. result_unwrap_or r no_plan) e) (f refl)
answered_good (Err x) n t s f e = absurd (answer_not_stop x (sym e))

pub of_good : (n t : ℕ) (s : List ℕ) {p : Plan} → plan_of n t s ≡ Ok p → plan_check p ≡ Ok tt
unfolding plan_of
of_good n t s = answered_good (check_by n t s) n t s (λ e. let tests = tests_pass n t s e in made_good n t s tests.0 tests.1 tests.2)

-- a family: its size, and its condition
both_pass : (a b : Bool) → (unless a Size then unless b Family) ≡ Ok tt → (a ≡ true) × (b ≡ true)
both_pass a b e = let h = then_pass (unless a Size) (unless b Family) e in (unless_pass a Size h.0, unless_pass b Family h.1)

pub blank_good : (n t : ℕ) {p : Plan} → blank_of n t ≡ Ok p → plan_check p ≡ Ok tt
unfolding blank_of
blank_good n t =
    answered_good (unless (size_fits n t) Size) n t (replicate n 0)
    (λ e.
    let size = unless_pass (size_fits n t) Size e in
    made_good n t (replicate n 0) size (length-replicate n 0)
    (below_all_below t (replicate n 0) (λ j h. rw (zeros_at n j) (size_fitting n t size).t_min)))

pub straight_good : (n t : ℕ) {p : Plan} → straight_of n t ≡ Ok p → plan_check p ≡ Ok tt
unfolding straight_of
straight_good n t =
    answered_good (unless (size_fits n t) Size then unless (leb n t) Family) n t (up_to n)
    (λ e.
    let h = both_pass (size_fits n t) (leb n t) e in
    made_good n t (up_to n) h.0 (length_up_to n) (below_all_below t (up_to n) (λ j l. inside (leb-true n t h.1) j (subst (λ (k : ℕ). j < k) (length_up_to n) l))))
  where
    inside : n ≤ t → (j : ℕ) → j < n → get_or (up_to n) j 0 < t
    inside h j lt = let e = get_or_up_to lt in omega arith

all_below_map : {t : ℕ} (f : ℕ → ℕ) → ((x : ℕ) → f x < t) → (l : List ℕ) → all_below t (map f l) ≡ true
unfolding all_below
all_below_map f h [] = refl
all_below_map {t} f h (x ∷ xs) = simp (lt-ltb (f x) t (h x), all_below_map f h xs)

pub powers_good : (n t q : ℕ) {p : Plan} → powers_of n t q ≡ Ok p → plan_check p ≡ Ok tt
unfolding powers_of
powers_good n t q =
    answered_good (unless (size_fits n t) Size then unless (powers_need n t q) Family) n t (map (λ j. q ^ j % t) (up_to n))
    (λ e.
    let size = (both_pass (size_fits n t) (powers_need n t q) e).0 in
    made_good n t (map (λ j. q ^ j % t) (up_to n)) size (length-map (up_to n) (λ j. q ^ j % t) ∙ length_up_to n)
    (all_below_map (λ j. q ^ j % t) (λ j. mod-lt (q ^ j) (size_fitting n t size).t_min) (up_to n)))

pub ruler_good : (n : ℕ) {p : Plan} → ruler_of n ≡ Ok p → plan_check p ≡ Ok tt
unfolding ruler_of
ruler_good n =
    answered_good (unless (leb 2 n && leb n 32) Size then unless (leb 3 n && leb n 14) Family) n (ruler_t n) (ruler_shifts n)
    (λ e.
    let need = (both_pass (leb 2 n && leb n 32) (leb 3 n && leb n 14) e).1 in
    let low = leb-true 3 n (and_left (leb 3 n) (leb n 14) need) in
    let high = leb-true n 14 (and_right (leb 3 n) (leb n 14) need) in
    made_good n (ruler_t n) (ruler_shifts n) (ruler_fits n low high) (ruler_length n low high) (ruler_below n low high))

-- the same of the test and the plan of an answer
pub answer_good : (r : Result Plan Refusal) → ((p : Plan) → r ≡ Ok p → plan_check p ≡ Ok tt) → test_of r ≡ Ok tt → plan_check (plan_in r) ≡ Ok tt
answer_good (Ok p) f e = f p refl
answer_good (Err x) f e = absurd (pass_not_stop x (sym e))

-- a good plan with another shift below t is good
pub shift_good : (p : Plan) (j x : ℕ) → plan_check p ≡ Ok tt → x < p.t → plan_check (with_shift p j x) ≡ Ok tt
unfolding with_shift
shift_good p j x e h =
    let g = good_bounds p e in
    bounds_good _
    (record {
      n_min = g.n_min;
      n_max = g.n_max;
      t_min = g.t_min;
      t_max = g.t_max;
      places_max = g.places_max;
      long = omega (arith, length-set p.shifts j x, g.long);
      below = below g;
    })
  where
    below : GoodPlan p.n p.t p.shifts → (i : ℕ) → i < p.n → get_or (set p.shifts j x) i 0 < p.t
    below g i less =
        by_cases (ℕ_discrete i j)
        (λ e. rw (e, get_or-set_same p.shifts j x 0 (omega (arith, g.long))) h)
        (λ n. rw (get_or-set_other p.shifts j i x 0 n) (g.below i less))

-- the shifts read one by one are the first n of the array
map_shifts : (f : ℕ → ℕ) (s : List ℕ) (n : ℕ) → n ≤ length s → map (λ j. f (get_or s j 0)) (up_to n) ≡ map f (take n s)
map_shifts f s zero h = none
  where
    none : map (λ j. f (get_or s j 0)) (up_to 0) ≡ []
    none = unfold up_to in refl
map_shifts f s (suc n) h =
    let ih = map_shifts f s n (omega arith) in
    simp (up_to_suc n, take-suc s n 0 h, map-append, ih)

-- the divisor of a plan by its first n shifts
pub divisor_is : (p : Plan) → 0 < p.n → p.n ≤ length p.shifts → gcd_all p.t (gaps (take p.n p.shifts)) ≡ divisor (layout_of p)
unfolding layout_of divisor gaps
divisor_is p h l =
    let first = get_or_up_to h in
    let same = get_or-take p.n p.shifts 0 0 h in
    rw (first, same, map_shifts (λ x. gap x (get_or p.shifts 0 0)) p.shifts p.n l)

-- g is at most t
pub divisor_most : {t g : ℕ} (s : List ℕ) → 0 < t → g ≡ gcd_all t (gaps s) → g ≤ t
divisor_most s h e = let m = gcd_all_le (gaps s) h in omega arith

-- the number of message places by g, and the answer of the message count: the number where the plan is good, else the refusal
pub messages_are : (n t : ℕ) (s : List ℕ) {g : ℕ} → GoodPlan n t s → g ≡ gcd_all t (gaps (take n s)) → n * t - (2 * t - g) ≡ message_count (layout n t s)
unfolding message_count layout_of
messages_are n t s good h =
    let d = h ∙ divisor_is (raw_plan n t s) (omega (arith, good.n_min)) good.long in
    ap (λ (x : ℕ). n * t - (2 * t - x)) d

pub count_is : (p : Plan) {k : ℕ} → plan_check p ≡ Ok tt → k ≡ message_count (layout_of p) → Ok k ≡ message_count_of p
unfolding message_count_of
count_is p e h = ap Ok h ∙ ap (λ (c : Check). count_of c (message_count (layout_of p))) (sym e)

pub count_not : (p : Plan) {x : Refusal} → plan_check p ≡ Err x → Err x ≡ message_count_of p
unfolding message_count_of
count_not p e = ap (λ (c : Check). count_of c (message_count (layout_of p))) (sym e)

-- the number of a count is that of what refuses the call
pub count_number_lem : (c : Check) (k : ℕ) → check_number (count_of c k) ≡ check_number c
unfolding count_of
count_number_lem (Ok tt) k = refl
count_number_lem (Err x) k = refl

-- the remainder of a bottom row where p is above k, and where it is not
pub bottom_row_wraps : {t p k : ℕ} → k < p → p < t → bottom_row t p k ≡ t + (k + t - p)
unfolding bottom_row
bottom_row_wraps {t} {p} {k} h h' = ap (λ (r : ℕ). t + r) (mod-eq_of_lt (omega arith))

pub bottom_row_plain : {t p k : ℕ} → p ≤ k → k < t → bottom_row t p k ≡ t + (k - p)
unfolding bottom_row
bottom_row_plain {t} {p} {k} h h' =
    let e : k + t - p ≡ k - p + t = omega arith in
    let m : k - p < t = omega arith in
    ap (λ (r : ℕ). t + r) (ap (λ (x : ℕ). x % t) e ∙ add-mod_right (k - p) t ∙ mod-eq_of_lt m)

-- a top row is below t, a bottom row is not, and there are 2t rows
pub rows_differ : (L : Layout) (c : ℕ) → 0 < L.t → (top L c < L.t) × (L.t ≤ bottom L c) × (bottom L c < 2 * L.t)
unfolding top bottom top_row bottom_row
rows_differ L c h =
    let a = mod-lt c h in
    let b = mod-lt (c % L.t + L.t - L.shift (c / L.t)) h in
    (a, omega arith, omega arith)
