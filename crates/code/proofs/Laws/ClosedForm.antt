-- T8, the closed form: place (j, k) is a parity place exactly if the run of section j is at most k. Main result: closed_form.
-- After the sections above j the top rows are tied modulo G' = divisor_from of those; place (j, k) links k with k + d, d the difference to the
-- last section. The links from t - G' on give each class once, so every k below the run repeats one or closes a round (redundant).
-- The others number 2t - g, as many as there are parity places.
use Rattle.std.specs.Prelude.{◌≡◌, ◌↔◌, ◌≢◌, ◌⊎◌, List, [], ◌∷◌, map, ℕ, zero, suc, ◌+◌, ◌-◌, ◌*◌, ◌/◌, ◌%◌, ◌≤◌, ◌<◌, get_or}
use Rattle.std.proofs.Math.Path.{refl, ap}
use Rattle.std.proofs.Common.{sym, ◌∙◌, subst, inl, inr, ⊎_elim, mod-eq_of_lt, mul_comm, zero-add, add-zero, add_comm, eq-eqb, ne_eqb}
use Rattle.std.proofs.Math.Logic.{by_cases}
use mathlib.Core.List.Memᴰ
use mathlib.Core.List.Memᴰ.{head as first}
use mathlib.Core.List.Memᴰ.{tail as later}
use Rattle.std.specs.Int.{◌∣◌}
use Rattle.std.proofs.Math.Nat.{mod-lt, mod-mod, add-mod_right, add-mul-mod_self_right, le_of_dvd, pos_of_dvd_of_pos, mod-eq-zero_of_dvd, zero-mod, dvd-mul_left_of_dvd, dvd_of_mod-eq-zero, dvd_antisymm}
use Rattle.std.proofs.Math.Decide.{dec_lt, dec_le}
use native.Mathlib.Omega.{arith}
use Rattle.std.proofs.Math.ListN.{length}
use Rattle.math.specs.Gcd.{gcd, gcd_all, gap}
use Rattle.math.proofs.GcdLaws.{gcd_all_dvd, gcd_all_dvd_base, gcd_all_greatest, gcd_zero_left, gap_self, gap_of_le, gcd_dvd_left, gcd_dvd_right}
use Rattle.math.specs.Members.{◌∈◌, Rising, rising_none, rising_more}
use Rattle.math.specs.MembersLaws.{by_place, rising_distinct}
use Rattle.math.specs.Pigeonhole.{get_or_∈, mem_map, map_mem, distinct_covers}
use Rattle.math.proofs.Residues.{add_congr, dvd_residue, residue_gap, mod_cancel_right}
use Rattle.math.specs.Sums.{sum_over}
use Rattle.math.specs.SumsLaws.{sum_over_ext}
use Rattle.plan.specs.Layout.{Layout, Valid, place_of, bottom_row, divisor}
use Rattle.code.specs.Places.{places}
use Rattle.code.specs.Components.{Connected}
use Rattle.code.specs.Messages.{Parity}
use Rattle.code.proofs.Laws.Basics.{places_∈, place_∈, place_split, top_of, bottom_of}
use Rattle.code.specs.Laws.Forest.{above, last_of, divisor_from, run, run_in, run_of}
use Rattle.code.proofs.Laws.WholeGraph.{Full, Tied, linked, full_linked, tied_divisor, tied_same}
use Rattle.code.proofs.Laws.Sections.{places_from, length_places_from, ∈_places_from, place_below, place_order}
use Rattle.code.specs.Laws.ParityCount.{parities}
use Rattle.code.proofs.Laws.ParityCount.{erased_places, erased_parities, parity_lists, length_parities}
use Rattle.code.proofs.Laws.Labels.{connected_eq, connected_sym, connected_trans}
use Rattle.code.proofs.Laws.Paths.{∈_above, path}

-- E ties modulo a divisor m of t and links x with x + d for the x above k: then it links k with k + d too, if k is below t - m + g,
-- where g divides m and d
module _ (L : Layout) (ok : Valid L) (E : List ℕ) (m g d k : ℕ) (tied : Tied L E m) (dm : m ∣ L.t) (gm : g ∣ m) (gd : g ∣ d)
    (linked-above : (x : ℕ) → k < x → x < L.t → Connected L E (x % L.t) ((x + d) % L.t)) (kt : k < L.t) (low : k < L.t - m + g) where
  same : (x : ℕ) → (L.t - m + x % m) % m ≡ x % m
  same x =
      let h : m ≤ L.t = le_of_dvd ok.positive dm in
      let e : L.t - m + x % m + m ≡ L.t + x % m = omega arith in
      sym (add-mod_right (L.t - m + x % m) m) ∙ ap (λ z. z % m) e
      ∙ add_congr m L.t 0 (x % m) x (mod-eq-zero_of_dvd m dm ∙ sym (zero-mod m)) (mod-mod x m) ∙ ap (λ z. z % m) (zero-add x)

  stays : (q : ℕ) → (k + q * d) % g ≡ k % g
  stays q = add_congr g k k (q * d) 0 refl (mod-eq-zero_of_dvd g (dvd-mul_left_of_dvd g gd q) ∙ sym (zero-mod g)) ∙ ap (λ z. z % g) (add-zero k)

  -- a row of k's class modulo g is linked, or connected with k
  linked_or_back : (x : ℕ) → x % g ≡ k % g → Connected L E (x % L.t) ((x + d) % L.t) ⊎ Connected L E (x % L.t) (k % L.t)
  linked_or_back x e =
      let y = L.t - m + x % m in
      let h : m ≤ L.t = le_of_dvd ok.positive dm in
      let u : x % m < m = mod-lt x (pos_of_dvd_of_pos dm ok.positive) in
      let s : y % m ≡ x % m = same x in
      by_cases (dec_lt k y)
      (λ l. inl (connected_trans (tied_same L ok E m tied x y (sym s)) (connected_trans (linked-above y l (omega arith))
      (tied_same L ok E m tied (y + d) (x + d) (add_congr m y x d d s refl)))))
      (λ n. let v : y ≤ k = omega arith in
      let q : g ∣ k - y = subst (λ z. g ∣ z) (gap_of_le v) ((residue_gap g k y).0 (sym (dvd_residue g y x gm s ∙ e))) in
      let f : y ≡ k = by_cases (dec_lt y k) (λ l. absurd (omega (arith, le_of_dvd {n = k - y} (omega arith) q))) (λ w. omega arith) in
      inr (connected_trans (tied_same L ok E m tied x y (sym s)) (connected_eq L E (ap (λ z. z % L.t) f))))

  -- k + d, k + 2 d, .. come round to k
  round : (q : ℕ) → Connected L E ((k + d) % L.t) (k % L.t) ⊎ Connected L E ((k + d) % L.t) ((k + (1 + q) * d) % L.t)
  round zero = let e : k + d ≡ k + (1 + zero) * d = omega arith in inr (connected_eq L E (ap (λ z. z % L.t) e))
  round (suc q) =
      let e : k + (1 + q) * d + d ≡ k + (1 + suc q) * d = omega arith in
      ⊎_elim inl
      (λ h. ⊎_elim (λ c. inr (connected_trans h (rw e at c))) (λ c. inl (connected_trans h c)) (linked_or_back (k + (1 + q) * d) (stays (1 + q))))
      (round q)

  pub redundant : Connected L E (k % L.t) ((k + d) % L.t)
  redundant =
      let o : 0 < L.t = ok.positive in
      let w : 1 + (L.t - 1) ≡ L.t = omega arith in
      let e : (k + (1 + (L.t - 1)) * d) % L.t ≡ k % L.t = rw (w, mul_comm L.t d) (add-mul-mod_self_right k d L.t) in
      connected_sym (⊎_elim (λ c. c) (λ c. rw e at c) (round (L.t - 1)))

pub last_of_∈ : (l : List ℕ) → 0 < length l → last_of l ∈ l
unfolding last_of
last_of_∈ [] h = absurd (omega arith)
last_of_∈ (i ∷ []) h = first refl
last_of_∈ (i ∷ (j ∷ js)) h = later (last_of_∈ (j ∷ js) (omega arith))

pub last_of_tail : (i j : ℕ) (js : List ℕ) → last_of (i ∷ (j ∷ js)) ≡ last_of (j ∷ js)
unfolding last_of
last_of_tail i j js = refl

pub last_of_one : (i : ℕ) → last_of (i ∷ []) ≡ i
unfolding last_of
last_of_one i = refl

pub run_last : (L : Layout) (j : ℕ) → run L j [] ≡ 0
unfolding run
run_last L j = refl

pub run_more : (L : Layout) (j i : ℕ) (is : List ℕ) → run L j (i ∷ is) ≡ L.t - divisor_from L (i ∷ is) + divisor_from L (j ∷ (i ∷ is))
unfolding run
run_more L j i is = refl

sum_more : (c : ℕ) (cs : List ℕ) (f : ℕ → ℕ) → sum_over (c ∷ cs) f ≡ f c + sum_over cs f
unfolding sum_over
sum_more c cs f = refl

sum_none : (f : ℕ → ℕ) → sum_over [] f ≡ 0
unfolding sum_over
sum_none f = refl

-- differences to one member or to another have the same divisor with t
rebase : (t : ℕ) (f : ℕ → ℕ) (a : ℕ) (js : List ℕ) {i : ℕ} → i ∈ js
    → gcd_all t (map (λ j. gap (f j) a) js) ∣ gcd_all t (map (λ j. gap (f j) (f i)) js)
rebase t f a js {i} m =
    let g = gcd_all t (map (λ j. gap (f j) a) js) in
    let same : (j : ℕ) → j ∈ js → f j % g ≡ a % g = λ j n. (residue_gap g (f j) a).1 (gcd_all_dvd t (mem_map (λ x. gap (f x) a) n)) in
    gcd_all_greatest g (map (λ j. gap (f j) (f i)) js) (gcd_all_dvd_base t (map (λ j. gap (f j) a) js))
    (λ x n. let s = map_mem (λ j. gap (f j) (f i)) js n in
    subst (λ z. g ∣ z) (sym s.2) ((residue_gap g (f s.0) (f i)).0 (same s.0 s.1 ∙ sym (same i m))))

-- the run of a section, found at the head of the list or after it
pub run_in_head : (L : Layout) (j : ℕ) (is : List ℕ) → run_in L (j ∷ is) j ≡ run L j is
unfolding run_in
run_in_head L j is = rw (eq-eqb j j refl)

pub run_in_tail : (L : Layout) {i j : ℕ} (is : List ℕ) → i ≢ j → run_in L (i ∷ is) j ≡ run_in L is j
unfolding run_in
run_in_tail L {i} {j} is n = rw (ne_eqb i j n)

not_empty : {j : ℕ} {l : List ℕ} → j ∈ l → 0 < length l
not_empty (first e) = omega arith
not_empty (later m) = omega arith

module _ (L : Layout) (ok : Valid L) where
  pub divisor_from_base : (js : List ℕ) → divisor_from L js ∣ L.t
  unfolding divisor_from
  divisor_from_base js = gcd_all_dvd_base L.t (map (λ j. gap (L.shift j) (L.shift (last_of L.sections))) js)

  pub divisor_from_le : (js : List ℕ) → divisor_from L js ≤ L.t
  divisor_from_le js = le_of_dvd ok.positive (divisor_from_base js)

  pub divisor_from_step : (j : ℕ) (js : List ℕ) → divisor_from L (j ∷ js) ≡ gcd (gap (L.shift j) (L.shift (last_of L.sections))) (divisor_from L js)
  unfolding divisor_from gcd_all
  divisor_from_step j js = refl

  pub divisor_from_dvd : (j : ℕ) (js : List ℕ) → divisor_from L (j ∷ js) ∣ divisor_from L js
  divisor_from_dvd j js = rw (divisor_from_step j js) (gcd_dvd_right (gap (L.shift j) (L.shift (last_of L.sections))) (divisor_from L js))

  divisor_from_gap : (j : ℕ) (js : List ℕ) → divisor_from L (j ∷ js) ∣ gap (L.shift j) (L.shift (last_of L.sections))
  divisor_from_gap j js = rw (divisor_from_step j js) (gcd_dvd_left (gap (L.shift j) (L.shift (last_of L.sections))) (divisor_from L js))

  -- a divisor of t and of the gap of p and q divides t + q - p
  dvd_difference : (g : ℕ) {p : ℕ} (q : ℕ) → p ≤ L.t → g ∣ L.t → g ∣ gap p q → g ∣ L.t + q - p
  dvd_difference g {p} q l a b =
      let e : L.t + q - p + p ≡ q + L.t = omega arith in
      dvd_of_mod-eq-zero g (mod_cancel_right g (L.t + q - p) 0 p (ap (λ z. z % g) e
      ∙ add_congr g q p L.t 0 (sym ((residue_gap g p q).1 b)) (mod-eq-zero_of_dvd g a ∙ sym (zero-mod g)) ∙ ap (λ z. z % g) (add_comm p 0)) ∙ zero-mod g)

  -- a place of section j links x with x + p_i - p_j where section i is whole
  across : (E : List ℕ) (i j x : ℕ) → L.shift i < L.t → L.shift j < L.t → Full L E i → place_of L.t j (x % L.t) ∈ E
      → Connected L E (x % L.t) ((x + (L.t + L.shift i - L.shift j)) % L.t)
  across E i j x hi hj f m =
      let y = x + (L.t - L.shift j) in
      let u : y + L.shift j ≡ x + L.t = omega arith in
      let w : y + L.shift i ≡ x + (L.t + L.shift i - L.shift j) = omega arith in
      let e : (y + L.shift j) % L.t ≡ x % L.t = ap (λ z. z % L.t) u ∙ add-mod_right x L.t in
      connected_trans (connected_sym (rw e at (linked L ok E j y hj (rw e m)))) (rw w at (full_linked L ok E y hi f))

  -- below the run the rows of a place are connected by the whole sections after it and the offsets above it
  below_run : (E : List ℕ) (j i : ℕ) (is : List ℕ) (k : ℕ) → L.shift j < L.t → ((x : ℕ) → x ∈ (i ∷ is) → (L.shift x < L.t) × Full L E x)
      → last_of L.sections ∈ (i ∷ is) → ((x : ℕ) → k < x → x < L.t → place_of L.t j x ∈ E) → k < L.t → k < run L j (i ∷ is)
      → Connected L E k (bottom_row L.t (L.shift j) k)
  unfolding bottom_row run divisor_from
  below_run E j i is k hj full lm part kt low =
      let z = last_of L.sections in
      let q = L.shift z in
      let p = L.shift j in
      let d = L.t + q - p in
      let u : k + (L.t - p) + q ≡ k + d = omega arith in
      let w : k + (L.t - p) ≡ k + L.t - p = omega arith in
      let a : Connected L E (k % L.t) ((k + d) % L.t) =
      redundant L ok E (divisor_from L (i ∷ is)) (divisor_from L (j ∷ (i ∷ is))) d k (tied_divisor L ok E z (i ∷ is) lm full)
      (divisor_from_base (i ∷ is)) (divisor_from_dvd j (i ∷ is))
      (dvd_difference (divisor_from L (j ∷ (i ∷ is))) q (omega arith) (divisor_from_base (j ∷ (i ∷ is))) (divisor_from_gap j (i ∷ is)))
      (λ x l h. across E z j x (full z lm).0 hj (full z lm).1 (rw (mod-eq_of_lt h) (part x l h))) kt low in
      let b : Connected L E (L.t + (k + L.t - p) % L.t) ((k + d) % L.t) = rw (u, w) at (full_linked L ok E (k + (L.t - p)) (full z lm).0 (full z lm).1) in
      connected_trans (rw (mod-eq_of_lt kt) at a) (connected_sym b)

  in_run : (E : List ℕ) {js : List ℕ} (j k : ℕ) → Rising js → last_of js ≡ last_of L.sections
      → ((x : ℕ) → x ∈ js → L.shift x < L.t) → j ∈ js → ((x : ℕ) → x ∈ js → j < x → Full L E x)
      → ((x : ℕ) → k < x → x < L.t → place_of L.t j x ∈ E) → k < L.t → k < run_in L js j
      → Connected L E k (bottom_row L.t (L.shift j) k)
  in_run E j k rising_none e b m full part kt low = absurd (Memᴰ.not-nil m)
  in_run E j k (rising_more {c = i} {cs = []} h r) e b m full part kt low =
      by_place m (λ q. absurd (omega (arith, ap (run_in L (i ∷ [])) q ∙ run_in_head L i [] ∙ run_last L i))) (λ n. absurd (Memᴰ.not-nil n))
  in_run E j k (rising_more {c = i} {cs = i' ∷ is} h r) e b m full part kt low =
      by_place m
      (λ q. below_run E j i' is k (b j m) (λ x n. (b x (later n), full x (later n) (rw q (h x n))))
      (Memᴰ.cast (sym (sym (last_of_tail i i' is) ∙ e)) (last_of_∈ (i' ∷ is) (omega arith))) part kt
      (rw (ap (λ z. run_in L (z ∷ (i' ∷ is)) j) (sym q) ∙ run_in_head L j (i' ∷ is)) at low))
      (λ n. in_run E j k r (sym (last_of_tail i i' is) ∙ e) (λ x o. b x (later o)) n (λ x o. full x (later o)) part kt
      (rw (run_in_tail L {i = i} {j = j} (i' ∷ is) (λ q. omega (arith, h j n))) at low))

  -- so below its run a place is no parity place
  no_parity : (j k : ℕ) → j ∈ L.sections → k < L.t → k < run_of L j → ¬ (Parity L (place_of L.t j k))
  unfolding run_of
  no_parity j k m kt low p =
      let c = place_of L.t j k in
      let q : Connected L (above c (places L)) k (bottom_row L.t (L.shift j) k) =
      in_run (above c (places L)) j k ok.rising refl ok.below m
      (λ x n l y h. ∈_above (place_∈ L ok n h) (place_below y l kt)) (λ x l h. ∈_above (place_∈ L ok m h) (place_order L.t j l)) kt low in
      p.lowest_of_none ((path L ok (places L) c (erased_places L) p.inside).0 (rw (top_of L ok j kt, bottom_of L ok j kt) q))

  pub divisor_from_last : (j : ℕ) → j ≡ last_of L.sections → divisor_from L (j ∷ []) ≡ L.t
  unfolding divisor_from gcd_all
  divisor_from_last j e = rw (← e, gap_self (L.shift j)) (gcd_zero_left L.t)

  -- the places from the runs on, counted
  pub run_total : {js : List ℕ} → Rising js → 0 < length js → last_of js ≡ last_of L.sections → sum_over js (λ j. L.t - run_in L js j) ≡ 2 * L.t - divisor_from L js
  run_total rising_none n e = absurd (omega arith)
  run_total (rising_more {c = j} {cs = []} h r) n e =
      omega (
        arith,
        sum_more j [] (λ x. L.t - run_in L (j ∷ []) x),
        sum_none (λ x. L.t - run_in L (j ∷ []) x),
        run_in_head L j [],
        run_last L j,
        divisor_from_last j (sym (last_of_one j) ∙ e),
      )
  run_total (rising_more {c = j} {cs = i ∷ is} h r) n e =
      let pos : 0 < divisor_from L (i ∷ is) = pos_of_dvd_of_pos (divisor_from_base (i ∷ is)) ok.positive in
      let le : divisor_from L (j ∷ (i ∷ is)) ≤ divisor_from L (i ∷ is) = le_of_dvd pos (divisor_from_dvd j (i ∷ is)) in
      omega (
        arith,
        sum_more j (i ∷ is) (λ x. L.t - run_in L (j ∷ (i ∷ is)) x),
        run_in_head L j (i ∷ is),
        run_more L j i is,
        divisor_from_le (i ∷ is),
        sum_over_ext (i ∷ is) (λ x. L.t - run_in L (j ∷ (i ∷ is)) x) (λ x. L.t - run_in L (i ∷ is) x)
            (λ x m. ap (λ z. L.t - z) (run_in_tail L {i = j} {j = x} (i ∷ is) (λ q. omega (arith, h x m)))),
        run_total r (omega arith) (sym (last_of_tail j i is) ∙ e),
      )

  pub divisor_last : 0 < length L.sections → divisor L ≡ divisor_from L L.sections
  unfolding divisor divisor_from
  divisor_last some =
      dvd_antisymm (rebase L.t L.shift (L.shift (get_or L.sections 0 0)) L.sections (last_of_∈ L.sections some))
      (rebase L.t L.shift (L.shift (last_of L.sections)) L.sections (get_or_∈ L.sections some))

  from_run : (j k : ℕ) → j ∈ L.sections → k < L.t → Parity L (place_of L.t j k) → run_of L j ≤ k
  from_run j k m h p = by_cases (dec_le (run_of L j) k) (λ l. l) (λ n. absurd (no_parity j k m h (omega arith) p))

  beyond : List ℕ
  beyond = places_from L.t (run_of L) L.sections

  length_beyond : 0 < length L.sections → length beyond ≡ 2 * L.t - divisor L
  unfolding beyond run_of
  length_beyond some =
      length_places_from L.t (run_of L) L.sections ∙ run_total ok.rising some refl ∙ ap (λ z. 2 * L.t - z) (sym (divisor_last some))

  parity_beyond : (c : ℕ) → c ∈ parities L → c ∈ beyond
  unfolding beyond
  parity_beyond c m =
      let p = ((parity_lists L ok).exact c).0 m in
      let j = (places_∈ L p.inside).1 in
      let h = mod-lt c ok.positive in
      Memᴰ.cast (sym (place_split L.t c)) (∈_places_from L.t ok.positive (run_of L) j
      (from_run (c / L.t) (c % L.t) j h (rw (place_split L.t c) p)) h)

  pub closed_form : (j k : ℕ) → j ∈ L.sections → k < L.t → Parity L (place_of L.t j k) ↔ (run_of L j ≤ k)
  unfolding beyond
  closed_form j k m h =
      let some : 0 < length L.sections = not_empty m in (
        from_run j k m h,
        λ l. ((parity_lists L ok).exact (place_of L.t j k)).0
            (distinct_covers (rising_distinct (erased_parities L).rising) parity_beyond (omega (arith, length_beyond some, length_parities L ok some))
            (place_of L.t j k) (∈_places_from L.t ok.positive (run_of L) m l h)),
      )
