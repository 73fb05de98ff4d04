-- What follows from the promises of recover, encode, message_of and fetch, whatever code keeps them.
-- Main results: answers_one, shown_cycle_unique, influences_nothing, loose_list_one, pair_never_loose, pair_some_loose, sealable, read_of_encoded,
-- encode_of_read, fetched_never_loose.
use Rattle.std.specs.Prelude.{◌≡◌, refl, ◌≢◌, ◌⊎◌, List, [], ℕ, ◌*◌, ◌/◌, ◌≤◌, ◌<◌, length, replicate, Ok, Err, Result}
use Rattle.std.proofs.Math.Path.{sym}
use Rattle.std.proofs.Common.{◌∙◌, ap, subst, ⊎_elim, le_antisymm, arith}
use Rattle.std.proofs.Math.Logic.{by_cases}
use Rattle.std.proofs.lemmas.List.{length-replicate}
use Rattle.math.specs.Members.{◌∈◌}
use Rattle.math.specs.MembersLaws.{∈_up_to, ∈_is_in, dec_in}
use Rattle.math.specs.SumsLaws.{xor_over_ext}
use Rattle.plan.specs.Layout.{Layout, Valid, layout, message_count}
use Rattle.plan.specs.Plans.{layout_of, plan_check}
use Rattle.plan.proofs.PlanLaws.{good_valid}
use Rattle.plan.specs.declared.Plan.{Plan}
use Rattle.code.specs.Codewords.{at, syndrome, Agrees, Single, TwoOrMore, None, blank}
use Rattle.code.specs.Marks.{mark, mark_bytes, NoSpare, erasures}
use Rattle.code.specs.Cycles.{Cycle}
use Rattle.code.specs.Components.{imbalance, Inconsistent}
use Rattle.code.specs.Messages.{Carries}
use Rattle.code.specs.Places.{places}
use Rattle.code.specs.Figures.{Pair, pair_number}
use Rattle.code.proofs.Theorems.{forest_or_cycle, cycle_unique, carried_once, carries_one, pair_never, pair_some, fetched_never}
use Rattle.code.specs.Laws.Forest.{Erased, Forest, above}
use Rattle.code.proofs.Laws.Balance.{blank_outside}
use Rattle.code.proofs.Laws.Basics.{places_∈, syndrome_ext}
use Rattle.code.proofs.Laws.CycleLaws.{cycle_mono}
use Rattle.code.specs.Laws.Labels.{component_of}
use Rattle.code.proofs.Laws.Labels.{component_unique}
use Rattle.code.proofs.Laws.MarksLaws.{in_erasures, erasures_erased}
use Rattle.code.proofs.Laws.Paths.{above_∈, erased_above}
use Rattle.calls.specs.Calls.{check_of}
use Rattle.calls.proofs.CallsLaws.{count_length, also_pass}
use Rattle.refusals.proofs.RefusalLaws.{stop_or_pass}
use Rattle.refusals.specs.declared.Refusal.{Refusal}
use Rattle.answers.specs.Answers.{recovery_count}
use Rattle.answers.specs.declared.Recovery.{Recovery}
use Rattle.answers.specs.declared.Recovery.TheVariants.{Recovered, Crossed, Loose, Refused}
use Rattle.refusals.specs.Refusals.{Check}
use Rattle.answers.specs.declared.Reading.{Reading}
use Rattle.answers.specs.declared.Reading.TheVariants as reading
use Rattle.math.specs.Padded.{padded}
use Rattle.promises.specs.Promises.{Decides, Recovers, recover_lent, Encodes, Reads, message_lent, Fetches, fetch_check}
use Rattle.promises.proofs.Building
use Rattle.promises.proofs.Numbers.{message_count_of_lem, some_section}
use Rattle.promises.proofs.MarksOf.{marks_of, length_marks_of, byte_marks_of, erasures_marks_of, spare_marks_of}

-- exactly one of four
pub data OneOf (A B C D : Type 0) : Type 0 where
  the_first : A → ¬ B → ¬ C → ¬ D → OneOf A B C D
  the_second : B → ¬ A → ¬ C → ¬ D → OneOf A B C D
  the_third : C → ¬ A → ¬ B → ¬ D → OneOf A B C D
  the_fourth : D → ¬ A → ¬ B → ¬ C → OneOf A B C D

-- what each answer of recover says
module _ (p : Plan) (v m w : List ℕ) (r : Recovery) where
  abbrev pub IsRefused : Type 0
  IsRefused = (x : Refusal) × (r ≡ Refused x) × (check_of p (recover_lent v m w) m ≡ Err x)

  abbrev pub IsRecovered : Type 0
  IsRecovered = (r ≡ Recovered) × (check_of p (recover_lent v m w) m ≡ Ok tt) × Single (Agrees (layout_of p) (erasures (layout_of p) m) v)

  abbrev pub IsLoose : Type 0
  IsLoose = (z : ℕ) × (r ≡ Loose z) × (check_of p (recover_lent v m w) m ≡ Ok tt) × TwoOrMore (Agrees (layout_of p) (erasures (layout_of p) m) v)

  abbrev pub IsCrossed : Type 0
  IsCrossed = (z : ℕ) × (r ≡ Crossed z) × (check_of p (recover_lent v m w) m ≡ Ok tt) × None (Agrees (layout_of p) (erasures (layout_of p) m) v)

-- every call of recover is answered in exactly one of the four ways, each for its own reason
pub answers_one : (p : Plan) (v m w : List ℕ) (r : Recovery) {v' w' : List ℕ} → Recovers p v m w r v' w' →
    OneOf (IsRefused p v m w r) (IsRecovered p v m w r) (IsLoose p v m w r) (IsCrossed p v m w r)
answers_one p v m w r h = ⊎_elim (λ e. go r e (h.passed e)) (λ s. stopped r s.0 s.1 (h.refused s.0 s.1).0)
    (stop_or_pass (check_of p (recover_lent v m w) m))
  where
    go : (r : Recovery) {v' w' : List ℕ} → check_of p (recover_lent v m w) m ≡ Ok tt → Decides (layout_of p) (erasures (layout_of p) m) v r v' w' →
        OneOf (IsRefused p v m w r) (IsRecovered p v m w r) (IsLoose p v m w r) (IsCrossed p v m w r)
    go Recovered e d = the_second (refl, e, d.recovered_when.0 refl)
        (λ q. Building.recovered_not_refused q.1) (λ q. Building.recovered_not_loose q.1) (λ q. Building.recovered_not_crossed q.1)
    go (Loose z) e d = the_third (z, refl, e, d.loose_when.0 (z, refl))
        (λ q. Building.loose_not_refused q.1) (λ q. Building.recovered_not_loose (sym q.0)) (λ q. Building.loose_not_crossed q.1)
    go (Crossed z) e d = the_fourth (z, refl, e, d.crossed_when.0 (z, refl))
        (λ q. Building.crossed_not_refused q.1) (λ q. Building.recovered_not_crossed (sym q.0)) (λ q. Building.loose_not_crossed (sym q.1))
    go (Refused x) e d = absurd (d.not_refused x refl)

    stopped : (r : Recovery) (x : Refusal) → check_of p (recover_lent v m w) m ≡ Err x → r ≡ Refused x →
        OneOf (IsRefused p v m w r) (IsRecovered p v m w r) (IsLoose p v m w r) (IsCrossed p v m w r)
    stopped r x e f = the_first (x, f, e)
        (λ q. Building.recovered_not_refused (sym q.0 ∙ f)) (λ q. Building.loose_not_refused (sym q.1 ∙ f)) (λ q. Building.crossed_not_refused (sym q.1 ∙ f))

-- the cycle whose lowest place is highest is one list, a function of the plan and the marks
pub shown_cycle_unique : (L : Layout) → Valid L → {E l m : List ℕ} → Erased L E →
    Cycle L E l → ((k : List ℕ) → Cycle L E k → at k 0 ≤ at l 0) → Cycle L E m → ((k : List ℕ) → Cycle L E k → at k 0 ≤ at m 0) → l ≡ m
shown_cycle_unique L ok {E} {l} {m} er p f q g =
    let e : at m 0 ≡ at l 0 = le_antisymm (f m q) (g l p) in
    let forest : Forest L (above (at l 0) E) =
    ⊎_elim (λ x. x)
    (λ k. let first = (above_∈ (at l 0) E (k.1.inside 0 (omega (arith, k.1.even, k.1.least)))).1 in
    let most = f k.0 (cycle_mono (λ c i. (above_∈ (at l 0) E i).0) k.1) in
    absurd (omega arith))
    (forest_or_cycle L ok (above (at l 0) E) (erased_above (at l 0) er)) in
    cycle_unique L ok er (p.inside 0 (omega (arith, p.even, p.least))) forest p q refl e

-- the blocks v and x are the same at every unmarked place
pub record SameUnmarked (L : Layout) (E v x : List ℕ) : Type 0 where
  pub same : (c : ℕ) → c < L.n * L.t → ¬ (c ∈ E) → at v c ≡ at x c

blank_inside : {c : ℕ} {E : List ℕ} (v : ℕ → ℕ) → c ∈ E → blank E v c ≡ 0
unfolding blank
blank_inside v i = rw (∈_is_in i)

same_back : {L : Layout} {E v x : List ℕ} → SameUnmarked L E v x → SameUnmarked L E x v
same_back s = record { same = λ c h n. sym (s.same c h n) }

module _ {L : Layout} {E v x : List ℕ} (s : SameUnmarked L E v x) where
  same_agrees : {a : List ℕ} → Agrees L E v a → Agrees L E x a
  same_agrees h = record { codeword = h.codeword; unmarked = λ c l n. h.unmarked c l n ∙ s.same c l n }

  same_imbalance : (l : List ℕ) → imbalance L E (at v) l ≡ imbalance L E (at x) l
  unfolding imbalance
  same_imbalance l =
      xor_over_ext l (syndrome L (blank E (at v))) (syndrome L (blank E (at x)))
      (λ r _. syndrome_ext L (blank E (at v)) (blank E (at x)) r
      (λ c i. by_cases (dec_in c E)
      (λ j. blank_inside (at v) j ∙ sym (blank_inside (at x) j))
      (λ n. blank_outside (at v) n ∙ s.same c (places_∈ L i).0 n ∙ sym (blank_outside (at x) n))))

module _ {L : Layout} {E v x : List ℕ} (s : SameUnmarked L E v x) where
  same_single : Single (Agrees L E v) → Single (Agrees L E x)
  same_single a = record { one = a.one; has = same_agrees s a.has; only_one = λ y h. a.only_one y (same_agrees (same_back s) h) }

  same_two : TwoOrMore (Agrees L E v) → TwoOrMore (Agrees L E x)
  same_two a = record { one = a.one; other = a.other; has = same_agrees s a.has; other_has = same_agrees s a.other_has; differ = a.differ }

  same_none : None (Agrees L E v) → None (Agrees L E x)
  same_none n y h = n y (same_agrees (same_back s) h)

  same_component : {l m : List ℕ} → Inconsistent L E (at v) l → Inconsistent L E (at x) m → l ≡ m
  same_component {l} {m} p q =
      let e : at l 0 ≡ at m 0 = le_antisymm
      (p.lowest m q.component (λ z. q.unbalanced (sym (same_imbalance s m) ∙ z)))
      (q.lowest l p.component (λ z. p.unbalanced (same_imbalance s l ∙ z))) in
      component_unique p.component ∙ ap (component_of L E) e ∙ sym (component_unique q.component)

-- the answer, the list and a recovered block are settled by what stands at unmarked places
pub decides_same : (L : Layout) → Valid L → {E v x : List ℕ} → Erased L E → SameUnmarked L E v x → {r s : Recovery} {v' w' x' y' : List ℕ} →
    Decides L E v r v' w' → Decides L E x s x' y' → (r ≡ s) × (w' ≡ y') × (r ≡ Recovered → v' ≡ x')
decides_same L ok {E} {v} {x} er same {r} {s} d f = go r d f
  where
    go : (r : Recovery) {v' w' x' y' : List ℕ} → Decides L E v r v' w' → Decides L E x s x' y' → (r ≡ s) × (w' ≡ y') × (r ≡ Recovered → v' ≡ x')
    go Recovered d f =
        let a = d.recovered_when.0 refl in
        let e = f.recovered_when.1 (same_single same a) in (
          sym e,
          (d.recovered_list refl).0 ∙ sym (f.recovered_list e).0,
          λ _. a.only_one _ (d.recovered_to refl) ∙ sym (a.only_one _ (same_agrees (same_back same) (f.recovered_to e))),
        )
    go (Loose z) d f =
        let e = f.loose_when.1 (same_two same (d.loose_when.0 (z, refl))) in
        let a = d.loose_shows z refl in
        let b = f.loose_shows e.0 e.1 in
        let u = shown_cycle_unique L ok er a.1 a.4 b.1 b.4 in (
          ap Loose (a.2 ∙ ap length u ∙ sym b.2 ∙ ap recovery_count e.1) ∙ sym e.1,
          a.3 ∙ ap (padded (2 * L.t)) u ∙ sym b.3,
          λ q. absurd (Building.recovered_not_loose (sym q)),
        )
    go (Crossed z) d f =
        let e = f.crossed_when.1 (same_none same (d.crossed_when.0 (z, refl))) in
        let a = d.crossed_shows z refl in
        let b = f.crossed_shows e.0 e.1 in
        let u = same_component same a.1 b.1 in (
          ap Crossed (a.2 ∙ ap length u ∙ sym b.2 ∙ ap recovery_count e.1) ∙ sym e.1,
          a.3 ∙ ap (padded (2 * L.t)) u ∙ sym b.3,
          λ q. absurd (Building.recovered_not_crossed (sym q)),
        )
    go (Refused y) d f = absurd (d.not_refused y refl)

same_lent : (v x m w : List ℕ) → length v ≡ length x → recover_lent v m w ≡ recover_lent x m w
unfolding recover_lent
same_lent v x m w e = rw e

-- what stands at marked places influences nothing: not the answer, not the list, not the block recovered
pub influences_nothing : (p : Plan) (v x m w : List ℕ) {r s : Recovery} {v' w' x' y' : List ℕ} → Recovers p v m w r v' w' → Recovers p x m w s x' y' →
    length v ≡ length x → ((c : ℕ) → c < p.n * p.t → ¬ (c ∈ erasures (layout_of p) m) → at v c ≡ at x c) →
    (r ≡ s) × (w' ≡ y') × (r ≡ Recovered → v' ≡ x')
unfolding layout_of layout
influences_nothing p v x m w {r} f g e same =
    let k : check_of p (recover_lent x m w) m ≡ check_of p (recover_lent v m w) m = ap (λ lent. check_of p lent m) (sym (same_lent v x m w e)) in
    ⊎_elim
    (λ pass. decides_same (layout_of p) (Building.pass_valid p (recover_lent v m w) m pass) (erasures_erased (layout_of p) m) (record { same = same })
    (f.passed pass) (g.passed (k ∙ pass)))
    (λ stop.
    let a = f.refused stop.0 stop.1 in
    let b = g.refused stop.0 (k ∙ stop.1) in
    (a.0 ∙ sym b.0, a.2 ∙ sym b.2, λ q. absurd (Building.recovered_not_refused (sym q ∙ a.0))))
    (stop_or_pass (check_of p (recover_lent v m w) m))

loose_passed : (p : Plan) (v m w : List ℕ) {z : ℕ} {v' w' : List ℕ} → Recovers p v m w (Loose z) v' w' → check_of p (recover_lent v m w) m ≡ Ok tt
loose_passed p v m w f =
    ⊎_elim (λ e. e) (λ s. absurd (Building.loose_not_refused (f.refused s.0 s.1).0)) (stop_or_pass (check_of p (recover_lent v m w) m))

-- whatever the symbols, the list that shows a loose block depends on the plan and the marks alone
pub loose_list_one : (p : Plan) (v x m w y : List ℕ) {z k : ℕ} {v' w' x' y' : List ℕ} → Recovers p v m w (Loose z) v' w' →
    Recovers p x m y (Loose k) x' y' → (z ≡ k) × (w' ≡ y')
loose_list_one p v x m w y {z} {k} f g =
    let L = layout_of p in
    let e = loose_passed p v m w f in
    let a = (f.passed e).loose_shows z refl in
    let b = (g.passed (loose_passed p x m y g)).loose_shows k refl in
    let u = shown_cycle_unique L (Building.pass_valid p (recover_lent v m w) m e) (erasures_erased L m) a.1 a.4 b.1 b.4 in
    (a.2 ∙ ap length u ∙ sym b.2, a.3 ∙ ap (padded (2 * L.t)) u ∙ sym b.3)

plan_pair : (p : Plan) {i j : ℕ} → i < p.n → j < p.n → i ≢ j → Pair (layout_of p) i j
unfolding layout_of layout
plan_pair p h g n = record { first = ∈_up_to h; second = ∈_up_to g; differ = n }

-- fewer marks than 2t / gcd, all inside two sections, are never loose
pub pair_never_loose : (p : Plan) (v m w : List ℕ) {r : Recovery} {v' w' : List ℕ} → Recovers p v m w r v' w' →
    (i j : ℕ) → i < p.n → j < p.n → i ≢ j → ((c : ℕ) → c ∈ erasures (layout_of p) m → (c / p.t ≡ i) ⊎ (c / p.t ≡ j)) →
    length (erasures (layout_of p) m) < pair_number (layout_of p) i j → (z : ℕ) → r ≢ Loose z
unfolding layout_of layout
pair_never_loose p v m w f i j h g n inside few z e =
    ⊎_elim
    (λ pass. pair_never (layout_of p) (Building.pass_valid p (recover_lent v m w) m pass) i j (plan_pair p h g n) (erasures (layout_of p) m) v
    (erasures_erased (layout_of p) m) inside few ((f.passed pass).loose_when.0 (z, e)))
    (λ stop. Building.loose_not_refused (sym e ∙ (f.refused stop.0 stop.1).0))
    (stop_or_pass (check_of p (recover_lent v m w) m))

-- marks inside sections i and j, 2t / gcd of them, with which the zero block is loose
pub record LoosePair (p : Plan) (i j : ℕ) : Type 0 where
  pub marks : List ℕ
  pub whole : length marks ≡ mark_bytes (layout_of p)
  pub bytes : (k : ℕ) → at marks k < 256
  pub no_spare : NoSpare (layout_of p) marks
  pub inside : (c : ℕ) → c ∈ erasures (layout_of p) marks → (c / p.t ≡ i) ⊎ (c / p.t ≡ j)
  pub many : length (erasures (layout_of p) marks) ≡ pair_number (layout_of p) i j
  pub passes : (w : List ℕ) → length w ≡ 2 * p.t → check_of p (recover_lent (replicate (p.n * p.t) 0) marks w) marks ≡ Ok tt
  pub loose : (w : List ℕ) {r : Recovery} {v' w' : List ℕ} → Recovers p (replicate (p.n * p.t) 0) marks w r v' w' →
      check_of p (recover_lent (replicate (p.n * p.t) 0) marks w) marks ≡ Ok tt → (z : ℕ) × (r ≡ Loose z)

-- some 2t / gcd marks inside any two sections are loose on the zero block
pub pair_some_loose : (p : Plan) → plan_check p ≡ Ok tt → (i j : ℕ) → i < p.n → j < p.n → i ≢ j → LoosePair p i j
unfolding layout_of layout
pair_some_loose p good i j h g n =
    let L = layout_of p in
    let s = pair_some L (good_valid p good) i j (plan_pair p h g n) in
    let m = marks_of (mark_bytes L) s.0 in
    let e : erasures L m ≡ s.0 = erasures_marks_of L s.1 in
    let whole : length m ≡ mark_bytes L = length_marks_of (mark_bytes L) s.0 in
    let no_spare : NoSpare L m = spare_marks_of L s.1 in
    record {
      marks = m;
      whole = whole;
      bytes = byte_marks_of (mark_bytes L) s.0;
      no_spare = no_spare;
      inside = subst (λ E. (c : ℕ) → c ∈ E → (c / p.t ≡ i) ⊎ (c / p.t ≡ j)) (sym e) s.2;
      many = ap length e ∙ s.3;
      passes = λ w l. Building.recover_passes p (replicate (p.n * p.t) 0) m w good (length-replicate (p.n * p.t) 0) whole l no_spare;
      loose = λ w f pass. (f.passed pass).loose_when.1 (subst (λ E. TwoOrMore (Agrees L E (replicate (p.n * p.t) 0))) (sym e) s.4);
    }

all_sections : (p : Plan) (j : ℕ) → j < (layout_of p).n → j ∈ (layout_of p).sections
unfolding layout_of layout
all_sections p j h = ∈_up_to h

-- Document 02, N4: "the check places can always be worked out, for every accepted plan and all data": exactly one codeword carries the data
pub sealable : (p : Plan) → plan_check p ≡ Ok tt → (d : List ℕ) → length d ≡ message_count (layout_of p) → ((i : ℕ) → at d i < 256) →
    Single (λ x. Carries (layout_of p) x d)
sealable p good d long bytes =
    carried_once (layout_of p) (good_valid p good) (all_sections p) (some_section p good) d (long ∙ sym (message_count_of_lem p)) bytes

-- reading an encoded block gives the message back
pub read_of_encoded : (p : Plan) (d v e : List ℕ) {v' e' : List ℕ} {r : Reading} → Encodes p d v (Ok tt) v' → Reads p v' e r e' →
    check_of p (message_lent d v) [] ≡ Ok tt → check_of p (message_lent e v') [] ≡ Ok tt → (r ≡ reading.Read) × (e' ≡ d)
read_of_encoded p d v e {v'} {e'} f g pass pass' =
    let a = f.encoded_to pass in
    let q = (g.read_when pass').1 a.codeword in
    let one = carries_one (layout_of p) (Building.pass_valid p (message_lent d v) [] pass) v' a.codeword in
    (q, one.only_one e' (g.read_to pass' q) ∙ sym (one.only_one d a))

-- encoding what was read gives the block back
pub encode_of_read : (p : Plan) (v d x : List ℕ) {d' x' : List ℕ} {r : Check} → Reads p v d reading.Read d' → Encodes p d' x r x' →
    check_of p (message_lent d v) [] ≡ Ok tt → check_of p (message_lent d' x) [] ≡ Ok tt → (r ≡ Ok tt) × (x' ≡ v)
encode_of_read p v d x f g pass pass' = (g.encoded pass', sym (g.only pass' v (f.read_to pass refl)))

-- an answer that lists comes of a call that passes
fetched_passed : (p : Plan) (m l : List ℕ) {z : ℕ} {l' : List ℕ} → Fetches p m l (Ok z) l' → fetch_check p m l ≡ Ok tt
fetched_passed p m l f =
    ⊎_elim (λ e. e) (λ s. absurd (fetched_not_refused (f.refused s.0 s.1).0)) (stop_or_pass (fetch_check p m l))
  where
    fetched_not_refused : {z : ℕ} {x : Refusal} → Ok z ≡ Err x → ⊥
    fetched_not_refused e = Building.zero_one (cc)

-- "Taking the list's marks away must leave marks that hold no ring": a block that has no marks but those of m that the list l' leaves is never loose, whatever its symbols
pub fetched_never_loose : (p : Plan) (v m l m' w : List ℕ) {z : ℕ} {l' : List ℕ} → Fetches p m l (Ok z) l' →
    ((c : ℕ) → mark m' c ≡ 1 → (mark m c ≡ 1) × (mark l' c ≡ 0)) →
    {r : Recovery} {v' w' : List ℕ} → Recovers p v m' w r v' w' → (k : ℕ) → r ≢ Loose k
unfolding fetch_check
fetched_never_loose p v m l m' w {z} {l'} f left {r} {v'} {w'} g k e =
    let L = layout_of p in
    let loose : Recovers p v m' w (Loose k) v' w' = subst (λ (x : Recovery). Recovers p v m' w x v' w') e g in
    let pass = loose_passed p v m' w loose in
    let listed = f.listed (fetched_passed p m l f) in
    let long = count_length p m (also_pass _ _ (fetched_passed p m l f)).0 in
    let inside : (c : ℕ) → c ∈ erasures L m' → (c ∈ erasures L m) × ¬ (c ∈ listed.list) = λ c i.
    let o = (in_erasures L m' c).0 i in
    let b = left c o.1 in
    let h = places_in p o.0 in
    ((in_erasures L m c).1 (o.0, b.0), λ j. omega (arith, b.1, (listed.bits.exact c (omega (arith, h, long, listed.long))).1 j)) in
    fetched_never L (Building.pass_valid p (recover_lent v m' w) m' pass) v listed.fetch (erasures_erased L m') inside ((loose.passed pass).loose_when.0 (k, refl))
  where
    places_in : (q : Plan) {c : ℕ} → c ∈ places (layout_of q) → c < q.n * q.t
    places_in q i = unfold layout_of layout in (places_∈ (layout_of q) i).0
