-- T10 and the pair sentence: what happens inside two sections i and j.
-- Main results: nonzero_many (a nonzero block there whose rows sum to 0 has at least 2t / gcd nonzero places), pair_comb (a set of exactly that many that is loose),
-- pair_cycle, pair_never, pair_some.
use Rattle.std.specs.Prelude.{◌≡◌, ◌≢◌, ◌⊎◌, List, ◌++◌, map, ℕ, zero, suc, ◌+◌, ◌-◌, ◌*◌, ◌/◌, ◌%◌, ◌≤◌, ◌<◌, length, replicate}
use Rattle.std.proofs.Math.Path.{refl, sym, ap, ap₂}
use Rattle.std.proofs.Common.{◌∙◌, mod-eq_of_lt, div-add-mod', div-lt_iff_lt-mul, le_of_lt, length-append, ext_get_or}
use Rattle.std.proofs.Math.Logic.{inl, inr, ⊎_elim, by_cases}
use mathlib.Core.List.Memᴰ
use Rattle.std.specs.Int.{◌∣◌}
use Rattle.std.proofs.Math.Nat.{mod-lt, mod-add-mod, mod-mod_of_dvd, mod-eq-zero_of_dvd, dvd_of_mod-eq-zero, mul-div_assoc, mul-div_cancel, zero-mod, div-mul_cancel}
use Rattle.std.proofs.Math.Decide.{ℕ_discrete, dec_lt}
use native.Mathlib.Omega.{arith}
use Rattle.std.proofs.Math.ListN.{length-map, get_or-eq_default}
use Rattle.std.proofs.lemmas.List.{length-replicate, get_or-replicate}
use Rattle.math.specs.Members.{◌∈◌, is_in, up_to, keep, Distinct}
use Rattle.math.specs.MembersLaws.{by_test, is_in_∈, ∈_is_in, dec_in, ∈_up_to, up_to_∈, length_up_to, rising_up_to, ∈_keep, keep_∈, rising_keep, rising_distinct, distinct_append}
use Rattle.math.specs.Pigeonhole.{get_or_∈, ∈_get_or, mem_map, map_mem, distinct_map, distinct_length, injection_length}
use Rattle.math.specs.Xor.{◌⊕◌, ⊕_self, ⊕_eq, ⊕_zero}
use Rattle.math.specs.Sums.{only}
use Rattle.math.specs.SumsLaws.{only_true, only_false, only_zero, only_mod, xor_over_two}
use Rattle.math.specs.Gcd.{gcd, gap}
use Rattle.math.proofs.GcdLaws.{gcd_pos, gcd_dvd_left, gcd_dvd_right, gcd_gap, multiples_distinct}
use Rattle.math.proofs.Residues.{add_congr, mod_cancel_right, forth_back, back_injective, dvd_residue, residue_gap, multiples_below, below_multiples}
use Rattle.plan.specs.Layout.{Layout, Valid, place_of, top_row, bottom_row, top, bottom}
use Rattle.code.specs.Places.{places, Meets, meets}
use Rattle.code.specs.Codewords.{at, syndrome, Codeword, Agrees, TwoOrMore}
use Rattle.code.specs.Cycles.{Cycle}
use Rattle.code.specs.Figures.{Pair, pair_number}
use Rattle.code.specs.Laws.Forest.{Erased}
use Rattle.code.proofs.Laws.Basics.{places_∈, rising_places, distinct_places, section_of, offset_of, place_split, place_unique, place_∈, offset_lt, top_lt, top≢bottom, top_of, bottom_of, meets_row, meets_true, true_meets, syndrome_ext, syndrome_add, syndrome_zero, word, word_at, word_codeword}
use Rattle.code.proofs.Laws.CycleLaws.{indicator, indicator_in, indicator_out, cycle_indicator}

-- the places of two sections at the offsets f 0, f 1 .. f (h - 1)
unfoldable pub both : ℕ → ℕ → ℕ → (ℕ → ℕ) → ℕ → List ℕ
both t i j f h = map (λ m. place_of t i (f m)) (up_to h) ++ map (λ m. place_of t j (f m)) (up_to h)

module _ (t i j : ℕ) (f : ℕ → ℕ) (h : ℕ) where
  pub length_both : length (both t i j f h) ≡ 2 * h
  unfolding both
  length_both = simp (length-append, length-map, length_up_to) (omega arith)

  pub both_∈ : {c : ℕ} → c ∈ both t i j f h → (m : ℕ) × (m < h) × ((c ≡ place_of t i (f m)) ⊎ (c ≡ place_of t j (f m)))
  unfolding both
  both_∈ k =
      ⊎_elim
      (λ a. let s = map_mem (λ m. place_of t i (f m)) (up_to h) a in (s.0, up_to_∈ h s.1, inl s.2))
      (λ a. let s = map_mem (λ m. place_of t j (f m)) (up_to h) a in (s.0, up_to_∈ h s.1, inr s.2))
      (Memᴰ.append_cases (map (λ m. place_of t i (f m)) (up_to h)) k)

  pub ∈_both : {c m : ℕ} → m < h → (c ≡ place_of t i (f m)) ⊎ (c ≡ place_of t j (f m)) → c ∈ both t i j f h
  unfolding both
  ∈_both l (inl e) = Memᴰ.cast e (Memᴰ.append_left (map (λ m. place_of t j (f m)) (up_to h)) (mem_map (λ m. place_of t i (f m)) (∈_up_to l)))
  ∈_both l (inr e) = Memᴰ.cast e (Memᴰ.append_right (map (λ m. place_of t i (f m)) (up_to h)) (mem_map (λ m. place_of t j (f m)) (∈_up_to l)))

  pub distinct_both : i ≢ j → ((m : ℕ) → m < h → f m < t) → ((m m' : ℕ) → m < h → m' < h → f m ≡ f m' → m ≡ m') → Distinct (both t i j f h)
  unfolding both
  distinct_both differ small inj = distinct_append (one i) (one j) apart
    where
      one : (s : ℕ) → Distinct (map (λ m. place_of t s (f m)) (up_to h))
      one s =
          distinct_map (λ m. place_of t s (f m)) (rising_distinct (rising_up_to h))
          (λ m m' a b e. inj m m' (up_to_∈ h a) (up_to_∈ h b)
          (sym (offset_of s (small m (up_to_∈ h a))) ∙ ap (λ c. c % t) e ∙ offset_of s (small m' (up_to_∈ h b))))

      apart : (c : ℕ) → c ∈ map (λ m. place_of t i (f m)) (up_to h) → ¬ (c ∈ map (λ m. place_of t j (f m)) (up_to h))
      apart c a b =
          let u = map_mem (λ m. place_of t i (f m)) (up_to h) a in
          let w = map_mem (λ m. place_of t j (f m)) (up_to h) b in
          differ (sym (section_of i (small u.0 (up_to_∈ h u.1))) ∙ ap (λ d. d / t) (sym u.2 ∙ w.2) ∙ section_of j (small w.0 (up_to_∈ h w.1)))

pub indicator_same : (E : List ℕ) (a b : ℕ) → (a ∈ E → b ∈ E) → (b ∈ E → a ∈ E) → indicator E a ≡ indicator E b
indicator_same E a b on back = by_cases (dec_in a E) (λ m. indicator_in m ∙ sym (indicator_in (on m))) (λ n. indicator_out n ∙ sym (indicator_out (λ m. n (back m))))

pub zero_at : (n c : ℕ) → at (replicate n 0) c ≡ 0
zero_at n c =
    by_cases (dec_lt c n) (λ h. get_or-replicate n c 0 0 h)
    (λ h. get_or-eq_default (replicate n 0) 0 {n = c} (rw length-replicate (omega arith)))

module _ (L : Layout) (ok : Valid L) where
  -- the zero block
  pub zero_codeword : Codeword L (replicate (L.n * L.t) 0)
  zero_codeword =
      record {
        whole = length-replicate (L.n * L.t) 0;
        symbols = λ c. rw (zero_at (L.n * L.t) c) (omega arith);
        sums = λ r h. syndrome_ext L (at (replicate (L.n * L.t) 0)) (λ c. 0) r (λ c m. zero_at (L.n * L.t) c) ∙ syndrome_zero L r;
      }

  pub zero_agrees : (E : List ℕ) → Agrees L E (replicate (L.n * L.t) 0) (replicate (L.n * L.t) 0)
  zero_agrees E = record { codeword = zero_codeword; unmarked = λ c h n. refl }

  pub indicator_at : (E : List ℕ) {c : ℕ} → c < L.n * L.t → at (word L (indicator E)) c ≡ indicator E c
  indicator_at E {c} h = word_at L (indicator E) h ∙ only_mod (is_in c E) 1 256

  -- marked places whose block of ones is a codeword are loose on the zero block
  pub indicator_loose : (E : List ℕ) → Erased L E → (a : ℕ) → a ∈ E → ((r : ℕ) → r < 2 * L.t → syndrome L (indicator E) r ≡ 0)
      → TwoOrMore (Agrees L E (replicate (L.n * L.t) 0))
  indicator_loose E er a m sums =
      record {
        one = replicate (L.n * L.t) 0;
        other = word L (indicator E);
        has = zero_agrees E;
        other_has =
            record {
              codeword = word_codeword L (indicator E) sums;
              unmarked = λ c h n. indicator_at E h ∙ indicator_out n ∙ sym (zero_at (L.n * L.t) c);
            };
        differ = λ e.
            let z : ◌≡◌ {A = ℕ} 0 1 =
            sym (zero_at (L.n * L.t) a) ∙ ap (λ w. at w a) e ∙ indicator_at E (places_∈ L (er.inside a m)).0 ∙ indicator_in m in
            omega arith;
      }

  -- where two places share a row
  pub top_offset_lem : (c : ℕ) → top L c ≡ c % L.t
  unfolding top top_row
  top_offset_lem c = refl

  pub bottom_residue : (c d : ℕ) → bottom L c ≡ bottom L d → (c % L.t + L.t - L.shift (c / L.t)) % L.t ≡ (d % L.t + L.t - L.shift (d / L.t)) % L.t
  unfolding bottom bottom_row
  bottom_residue c d e = omega arith

  -- the place of section j on bottom row y
  pub bottom_at : {j : ℕ} → j ∈ L.sections → (y : ℕ) → bottom L (place_of L.t j ((y + L.shift j) % L.t)) ≡ L.t + y % L.t
  unfolding bottom_row
  bottom_at {j} m y =
      bottom_of L ok j (mod-lt (y + L.shift j) ok.positive) ∙ ap (λ k. L.t + k) (forth_back y (le_of_lt (ok.below j m)))

  -- a row meets a section once
  pub meets_unique : (c d : ℕ) {r : ℕ} → (c / L.t) ∈ L.sections → c / L.t ≡ d / L.t → Meets L c r → Meets L d r → c ≡ d
  meets_unique c d m s (inl e) (inl f) = place_unique L.t c d s (sym (top_offset_lem c) ∙ sym e ∙ f ∙ top_offset_lem d)
  meets_unique c d m s (inl e) (inr f) = absurd (top≢bottom L ok c d (sym e ∙ f))
  meets_unique c d m s (inr e) (inl f) = absurd (top≢bottom L ok d c (sym f ∙ e))
  meets_unique c d m s (inr e) (inr f) =
      place_unique L.t c d s
      (back_injective {p = L.shift (c / L.t)} (le_of_lt (ok.below (c / L.t) m)) (offset_lt L ok c) (offset_lt L ok d)
      (bottom_residue c d (sym e ∙ f) ∙ ap (λ j. (d % L.t + L.t - L.shift j) % L.t) (sym s)))

  module _ (i j : ℕ) (pair : Pair L i j) where
    low_i : L.shift i < L.t
    low_i = ok.below i pair.first

    low_j : L.shift j < L.t
    low_j = ok.below j pair.second

    -- the bottom row of offset k in section j meets section i at offset k + step
    step : ℕ
    step = L.t + L.shift i - L.shift j

    common : ℕ
    common = gcd (gap (L.shift i) (L.shift j)) L.t

    common_t : common ∣ L.t
    unfolding common
    common_t = gcd_dvd_right (gap (L.shift i) (L.shift j)) L.t

    common_pos : 0 < common
    unfolding common
    common_pos = gcd_pos (gap (L.shift i) (L.shift j)) ok.positive

    common_step : common ≡ gcd step L.t
    unfolding common step
    common_step = gcd_gap (L.shift i) (le_of_lt low_j)

    common_shift : L.shift i % common ≡ L.shift j % common
    unfolding common
    common_shift = (residue_gap common (L.shift i) (L.shift j)).1 (gcd_dvd_left (gap (L.shift i) (L.shift j)) L.t)

    pair_number_lem : pair_number L i j ≡ 2 * (L.t / common)
    unfolding common pair_number
    pair_number_lem = mul-div_assoc common 2 common_t

    -- a row of a block that is 0 outside the two sections is the sum of two symbols
    row_pair : (x : ℕ → ℕ) → ((c : ℕ) → c ∈ places L → c / L.t ≢ i → c / L.t ≢ j → x c ≡ 0) → (r a b : ℕ) → a ∈ places L → b ∈ places L
        → a / L.t ≡ i → b / L.t ≡ j → Meets L a r → Meets L b r → syndrome L x r ≡ x a ⊕ x b
    unfolding syndrome
    row_pair x outside r a b ma mb si sj ha hb =
        xor_over_two (λ c. only (meets L c r) (x c)) (distinct_places L) ma mb (λ e. pair.differ (sym si ∙ ap (λ c. c / L.t) e ∙ sj)) other
        ∙ ap₂ ◌⊕◌ (only_true (x a) (meets_true L a ha)) (only_true (x b) (meets_true L b hb))
      where
        other : (c : ℕ) → c ∈ places L → c ≢ a → c ≢ b → only (meets L c r) (x c) ≡ 0
        other c m na nb =
            by_test (meets L c r)
            (λ y. let k = true_meets L c r y in
            by_cases (ℕ_discrete (c / L.t) i)
            (λ e. absurd (na (meets_unique c a (places_∈ L m).1 (e ∙ sym si) k ha)))
            (λ ni. by_cases (ℕ_discrete (c / L.t) j)
            (λ e. absurd (nb (meets_unique c b (places_∈ L m).1 (e ∙ sym sj) k hb)))
            (λ nj. ap (only (meets L c r)) (outside c m ni nj) ∙ only_zero (meets L c r))))
            (λ n. only_false (x c) n)

    module _ (x : ℕ → ℕ) (sums : (r : ℕ) → r < 2 * L.t → syndrome L x r ≡ 0)
        (outside : (c : ℕ) → c ∈ places L → c / L.t ≢ i → c / L.t ≢ j → x c ≡ 0) where
      -- offset k of section i and offset k' of section j on one row hold the same symbol
      same_row : {k k' : ℕ} (r : ℕ) → k < L.t → k' < L.t → Meets L (place_of L.t i k) r → Meets L (place_of L.t j k') r
          → x (place_of L.t i k) ≡ x (place_of L.t j k')
      same_row {k} {k'} r h h' a b =
          ⊕_eq (x (place_of L.t i k)) (x (place_of L.t j k'))
          (sym (row_pair x outside r (place_of L.t i k) (place_of L.t j k') (place_∈ L ok pair.first h) (place_∈ L ok pair.second h')
          (section_of i h) (section_of j h') a b) ∙ sums r (meets_row L ok (place_of L.t i k) a))

      same_top : {k : ℕ} → k < L.t → x (place_of L.t i k) ≡ x (place_of L.t j k)
      same_top {k} h = same_row k h h (inl (sym (top_of L ok i h))) (inl (sym (top_of L ok j h)))

      same_step : {k : ℕ} → k < L.t → x (place_of L.t j ((k + step) % L.t)) ≡ x (place_of L.t j k)
      unfolding step bottom_row
      same_step {k} h =
          let l : (k + step) % L.t < L.t = mod-lt (k + step) ok.positive in
          let e : k + L.t - L.shift j + L.shift i ≡ k + step = omega (arith, low_j) in
          sym (same_top l)
          ∙ same_row (bottom L (place_of L.t j k)) l h
          (inr (bottom_of L ok j h ∙ sym (rw e at (bottom_at {j = i} pair.first (k + L.t - L.shift j))))) (inr refl)

      orbit : (k m : ℕ) → x (place_of L.t j ((k + m * step) % L.t)) ≡ x (place_of L.t j (k % L.t))
      orbit k zero = let e : k + 0 * step ≡ k = omega arith in rw e
      orbit k (suc m) =
          let e : k + suc m * step ≡ k + m * step + step = omega arith in
          rw (e, ← (mod-add-mod (k + m * step) L.t step)) (same_step (mod-lt (k + m * step) ok.positive) ∙ orbit k m)

      -- the places that a nonzero one of section j at offset k makes nonzero
      nonzero_both : (S : List ℕ) → ((c : ℕ) → c ∈ places L → x c ≢ 0 → c ∈ S) → (k : ℕ) → k < L.t → x (place_of L.t j k) ≢ 0 → pair_number L i j ≤ length S
      nonzero_both S all k h ne = omega (arith, pair_number_lem, length_both L.t i j f (L.t / common), distinct_length d within)
        where
          f : ℕ → ℕ
          f m = (k + m * step) % L.t

          small : (m : ℕ) → f m < L.t
          small m = mod-lt (k + m * step) ok.positive

          inj : (m m' : ℕ) → m < L.t / common → m' < L.t / common → f m ≡ f m' → m ≡ m'
          inj m m' a b e =
              let g : (u v : ℕ) → u < v → v < L.t / common → f u ≡ f v → ⊥ = λ u v p q w. multiples_distinct step L.t k u v p (rw common_step at q) w in
              by_cases (dec_lt m m') (λ p. absurd (g m m' p b e)) (λ n. by_cases (dec_lt m' m) (λ p. absurd (g m' m p a (sym e))) (λ n'. omega arith))

          d : Distinct (both L.t i j f (L.t / common))
          d = distinct_both L.t i j f (L.t / common) pair.differ (λ m q. small m) inj

          same : (m : ℕ) → x (place_of L.t j (f m)) ≡ x (place_of L.t j k)
          same m = orbit k m ∙ ap (λ y. x (place_of L.t j y)) (mod-eq_of_lt h)

          within : (c : ℕ) → c ∈ both L.t i j f (L.t / common) → c ∈ S
          within c q =
              let s = both_∈ L.t i j f (L.t / common) q in
              let m = s.0 in
              ⊎_elim
              (λ e. Memᴰ.cast e (all (place_of L.t i (f m)) (place_∈ L ok pair.first (small m)) (λ z. ne (sym (same m) ∙ sym (same_top (small m)) ∙ z))))
              (λ e. Memᴰ.cast e (all (place_of L.t j (f m)) (place_∈ L ok pair.second (small m)) (λ z. ne (sym (same m) ∙ z))))
              s.2

    -- a list of places of the two sections that holds all nonzero places of a nonzero block whose rows sum to 0 is long
    pub nonzero_many : (x : ℕ → ℕ) → ((r : ℕ) → r < 2 * L.t → syndrome L x r ≡ 0) → (S : List ℕ) → ((c : ℕ) → c ∈ S → (c / L.t ≡ i) ⊎ (c / L.t ≡ j))
        → ((c : ℕ) → c ∈ places L → x c ≢ 0 → c ∈ S) → (a : ℕ) → a ∈ places L → x a ≢ 0 → pair_number L i j ≤ length S
    nonzero_many x sums S inside all a m ne = ⊎_elim from_i from_j (inside a (all a m ne))
      where
        outside : (c : ℕ) → c ∈ places L → c / L.t ≢ i → c / L.t ≢ j → x c ≡ 0
        outside c q ni nj = by_cases (ℕ_discrete (x c) 0) (λ e. e) (λ n. absurd (⊎_elim ni nj (inside c (all c q n))))

        from_j : a / L.t ≡ j → pair_number L i j ≤ length S
        from_j e = nonzero_both x sums outside S all (a % L.t) (offset_lt L ok a)
            (λ z. ne (ap x (sym (place_split L.t a) ∙ ap (λ s. place_of L.t s (a % L.t)) e) ∙ z))

        from_i : a / L.t ≡ i → pair_number L i j ≤ length S
        from_i e = nonzero_both x sums outside S all (a % L.t) (offset_lt L ok a)
            (λ z. ne (ap x (sym (place_split L.t a) ∙ ap (λ s. place_of L.t s (a % L.t)) e) ∙ same_top x sums outside (offset_lt L ok a) ∙ z))

    pub pair_never : (E v : List ℕ) → Erased L E → ((c : ℕ) → c ∈ E → (c / L.t ≡ i) ⊎ (c / L.t ≡ j)) → length E < pair_number L i j
        → ¬ (TwoOrMore (Agrees L E v))
    pair_never E v er inside short t =
        t.differ (ext_get_or 0 t.one t.other (t.has.codeword.whole ∙ sym t.other_has.codeword.whole) (λ c h. equal c (rw t.has.codeword.whole at h)))
      where
        x : ℕ → ℕ
        x c = at t.one c ⊕ at t.other c

        unmarked : (c : ℕ) → c < L.n * L.t → ¬ (c ∈ E) → at t.one c ≡ at t.other c
        unmarked c h n = t.has.unmarked c h n ∙ sym (t.other_has.unmarked c h n)

        sums : (r : ℕ) → r < 2 * L.t → syndrome L x r ≡ 0
        sums r h =
            syndrome_add L (at t.one) (at t.other) r ∙ ap₂ ◌⊕◌ (t.has.codeword.sums r h) (t.other_has.codeword.sums r h) ∙ ⊕_zero 0

        all : (c : ℕ) → c ∈ places L → x c ≢ 0 → c ∈ E
        all c m ne =
            by_cases (dec_in c E) (λ y. y)
            (λ n. absurd (ne (ap (λ y. y ⊕ at t.other c) (unmarked c (places_∈ L m).0 n) ∙ ⊕_self (at t.other c))))

        equal : (c : ℕ) → c < L.n * L.t → at t.one c ≡ at t.other c
        equal c h =
            by_cases (dec_in c E)
            (λ m. by_cases (ℕ_discrete (x c) 0) (⊕_eq (at t.one c) (at t.other c))
            (λ ne. absurd (omega (arith, short, nonzero_many x sums E inside all c (er.inside c m) ne))))
            (unmarked c h)

    -- the comb: the places of the two sections whose offset is a multiple of the divisor
    teeth : List ℕ
    teeth = both L.t i j (λ m. m * common) (L.t / common)

    comb : List ℕ
    comb = keep (λ c. is_in c teeth) (places L)

    comb_∈ : {c : ℕ} → c ∈ comb → (c ∈ places L) × (c ∈ teeth)
    unfolding comb
    comb_∈ {c} m = let k = keep_∈ (λ d. is_in d teeth) (places L) m in (k.0, is_in_∈ c teeth k.1)

    comb_erased : Erased L comb
    unfolding comb
    comb_erased = record { rising = rising_keep (λ d. is_in d teeth) (rising_places L); inside = λ c m. (comb_∈ m).0 }

    tooth : (c m : ℕ) → m < L.t / common → (c ≡ place_of L.t i (m * common)) ⊎ (c ≡ place_of L.t j (m * common))
        → (c ∈ places L) × ((c / L.t ≡ i) ⊎ (c / L.t ≡ j)) × (c % L.t % common ≡ 0)
    tooth c m h (inl e) =
        let k = below_multiples common m common_t h in
        rw e (place_∈ L ok pair.first k.0, inl (section_of i k.0), ap (λ y. y % common) (offset_of i k.0) ∙ mod-eq-zero_of_dvd common k.1)
    tooth c m h (inr e) =
        let k = below_multiples common m common_t h in
        rw e (place_∈ L ok pair.second k.0, inr (section_of j k.0), ap (λ y. y % common) (offset_of j k.0) ∙ mod-eq-zero_of_dvd common k.1)

    teeth_∈ : {c : ℕ} → c ∈ teeth → (c ∈ places L) × ((c / L.t ≡ i) ⊎ (c / L.t ≡ j)) × (c % L.t % common ≡ 0)
    unfolding teeth
    teeth_∈ {c} m = let s = both_∈ L.t i j (λ m. m * common) (L.t / common) m in tooth c s.0 s.1 s.2

    ∈_teeth : (c : ℕ) → (c / L.t ≡ i) ⊎ (c / L.t ≡ j) → c % L.t % common ≡ 0 → c ∈ teeth
    unfolding teeth
    ∈_teeth c s e =
        let q = multiples_below common common_t (offset_lt L ok c) (dvd_of_mod-eq-zero common e) in
        let g : (u : ℕ) → c / L.t ≡ u → c ≡ place_of L.t u (q.0 * common) = λ u p. sym (place_split L.t c) ∙ ap₂ (place_of L.t) p q.2 in
        ∈_both L.t i j (λ m. m * common) (L.t / common) q.1 (⊎_elim (λ p. inl (g i p)) (λ p. inr (g j p)) s)

    ∈_comb : {c : ℕ} → c ∈ teeth → c ∈ comb
    unfolding comb
    ∈_comb m = ∈_keep (λ d. is_in d teeth) (teeth_∈ m).0 (∈_is_in m)

    distinct_teeth : Distinct teeth
    unfolding teeth
    distinct_teeth = distinct_both L.t i j (λ m. m * common) (L.t / common) pair.differ (λ m h. (below_multiples common m common_t h).0)
        (λ m m' a b e. sym (mul-div_cancel m common_pos) ∙ ap (λ y. y / common) e ∙ mul-div_cancel m' common_pos)

    length_comb : length comb ≡ pair_number L i j
    unfolding teeth
    length_comb =
        omega (
          arith,
          pair_number_lem,
          length_both L.t i j (λ m. m * common) (L.t / common),
          distinct_length (rising_distinct comb_erased.rising) (λ c m. (comb_∈ m).1),
          distinct_length distinct_teeth (λ c m. ∈_comb m),
        )

    comb_outside : (c : ℕ) → c ∈ places L → c / L.t ≢ i → c / L.t ≢ j → indicator comb c ≡ 0
    comb_outside c m ni nj = indicator_out (λ k. ⊎_elim ni nj (teeth_∈ (comb_∈ k).1).1)

    -- places of the two sections whose offsets agree modulo the divisor are both in the comb or both not
    comb_same : (a b : ℕ) → a / L.t ≡ i → b / L.t ≡ j → a % L.t % common ≡ b % L.t % common → indicator comb a ≡ indicator comb b
    comb_same a b si sj e =
        indicator_same comb a b (λ m. ∈_comb (∈_teeth b (inr sj) (sym e ∙ (teeth_∈ (comb_∈ m).1).2))) (λ m. ∈_comb (∈_teeth a (inl si) (e ∙ (teeth_∈ (comb_∈ m).1).2)))

    comb_row : (r k k' : ℕ) → k < L.t → k' < L.t → k % common ≡ k' % common → Meets L (place_of L.t i k) r → Meets L (place_of L.t j k') r
        → syndrome L (indicator comb) r ≡ 0
    comb_row r k k' h h' e a b =
        let si = section_of i h in
        let sj = section_of j h' in
        row_pair (indicator comb) comb_outside r (place_of L.t i k) (place_of L.t j k') (place_∈ L ok pair.first h) (place_∈ L ok pair.second h') si sj a b
        ∙ ap (λ y. y ⊕ indicator comb (place_of L.t j k'))
        (comb_same (place_of L.t i k) (place_of L.t j k') si sj (ap (λ y. y % common) (offset_of i h) ∙ e ∙ ap (λ y. y % common) (sym (offset_of j h'))))
        ∙ ⊕_self (indicator comb (place_of L.t j k'))

    comb_sums : (r : ℕ) → r < 2 * L.t → syndrome L (indicator comb) r ≡ 0
    comb_sums r h = by_cases (dec_lt r L.t) upper lower
      where
        upper : r < L.t → syndrome L (indicator comb) r ≡ 0
        upper l = comb_row r r r l l refl (inl (sym (top_of L ok i l))) (inl (sym (top_of L ok j l)))

        lower : ¬ (r < L.t) → syndrome L (indicator comb) r ≡ 0
        lower n =
            let y = r - L.t in
            let l : y < L.t = omega arith in
            let e : r ≡ L.t + y % L.t = rw (mod-eq_of_lt l) (omega arith) in
            comb_row r ((y + L.shift i) % L.t) ((y + L.shift j) % L.t) (mod-lt (y + L.shift i) ok.positive) (mod-lt (y + L.shift j) ok.positive)
            (mod-mod_of_dvd common (y + L.shift i) common_t ∙ add_congr common y y (L.shift i) (L.shift j) refl common_shift
            ∙ sym (mod-mod_of_dvd common (y + L.shift j) common_t))
            (inr (e ∙ sym (bottom_at pair.first y))) (inr (e ∙ sym (bottom_at pair.second y)))

    comb_some : place_of L.t i 0 ∈ comb
    comb_some = ∈_comb (∈_teeth (place_of L.t i 0) (inl (section_of i ok.positive)) (ap (λ y. y % common) (offset_of i ok.positive) ∙ zero-mod common))

    -- a set of exactly that many places of the two sections whose block of ones is a codeword
    pub pair_comb : (E : List ℕ) × Erased L E × ((c : ℕ) → c ∈ E → (c / L.t ≡ i) ⊎ (c / L.t ≡ j)) × (length E ≡ pair_number L i j)
        × ((r : ℕ) → r < 2 * L.t → syndrome L (indicator E) r ≡ 0) × (place_of L.t i 0 ∈ E)
    pair_comb = (comb, comb_erased, λ c m. (teeth_∈ (comb_∈ m).1).1, length_comb, comb_sums, comb_some)

    pub pair_some : (E : List ℕ) × Erased L E × ((c : ℕ) → c ∈ E → (c / L.t ≡ i) ⊎ (c / L.t ≡ j)) × (length E ≡ pair_number L i j)
        × TwoOrMore (Agrees L E (replicate (L.n * L.t) 0))
    pair_some = let k = pair_comb in (k.0, k.1, k.2, k.3, indicator_loose k.0 k.1 (place_of L.t i 0) k.5 k.4)

    shift_common : {s : ℕ} → (s ≡ i) ⊎ (s ≡ j) → (L.shift s < L.t) × (L.shift s % common ≡ L.shift i % common)
    shift_common (inl e) = rw e (low_i, refl)
    shift_common (inr e) = rw e (low_j, sym common_shift)

    -- places of the two sections on one bottom row have offsets that agree modulo the divisor
    bottom_common : (c d : ℕ) → (c / L.t ≡ i) ⊎ (c / L.t ≡ j) → (d / L.t ≡ i) ⊎ (d / L.t ≡ j) → bottom L c ≡ bottom L d → top L c % common ≡ top L d % common
    bottom_common c d sc sd e =
        let p = shift_common sc in
        let q = shift_common sd in
        let A = c % L.t + L.t - L.shift (c / L.t) in
        let B = d % L.t + L.t - L.shift (d / L.t) in
        let ea : A + L.shift (c / L.t) ≡ c % L.t + L.t = omega arith in
        let eb : B + L.shift (d / L.t) ≡ d % L.t + L.t = omega arith in
        let k : (A + L.shift (c / L.t)) % common ≡ (B + L.shift (d / L.t)) % common =
        add_congr common A B (L.shift (c / L.t)) (L.shift (d / L.t)) (dvd_residue common A B common_t (bottom_residue c d e)) (p.1 ∙ sym q.1) in
        rw (top_offset_lem c, top_offset_lem d) (mod_cancel_right common (c % L.t) (d % L.t) L.t (rw (ea, eb) at k))

    module _ (E l : List ℕ) (er : Erased L E) (cycle : Cycle L E l) (inside : (c : ℕ) → c ∈ E → (c / L.t ≡ i) ⊎ (c / L.t ≡ j)) where
      long : pair_number L i j ≤ length l
      long =
          let some : 0 < length l = omega (arith, cycle.even, cycle.least) in
          nonzero_many (indicator l) (λ r h. cycle_indicator L ok cycle er r) l
          (λ c m. let k = ∈_get_or m in inside c (Memᴰ.cast (sym k.2) (cycle.inside k.0 k.1)))
          (λ c m ne. by_cases (dec_in c l) (λ y. y) (λ n. absurd (ne (indicator_out n))))
          (at l 0) (er.inside (at l 0) (cycle.inside 0 some)) (λ z. omega (arith, z, indicator_in (get_or_∈ l some)))

      section : (p : ℕ) → p < length l → (at l p / L.t ≡ i) ⊎ (at l p / L.t ≡ j)
      section p h = inside (at l p) (cycle.inside p h)

      tops : (m : ℕ) → m < cycle.half → top L (at l (2 * m)) % common ≡ top L (at l 0) % common
      tops zero h = refl
      tops (suc m) h =
          let e : 2 * suc m ≡ 2 * m + 2 = omega arith in
          rw e (sym (bottom_common (at l (2 * m + 1)) (at l (2 * m + 2)) (section (2 * m + 1) (omega (arith, cycle.even)))
          (section (2 * m + 2) (omega (arith, cycle.even))) (cycle.share_bottom m (omega arith)))
          ∙ ap (λ y. y % common) (sym (cycle.share_top m (omega arith))) ∙ tops m (omega arith))

      few : cycle.half ≤ L.t / common
      few =
          rw length_up_to at (injection_length cycle.half (λ m. top L (at l (2 * m)) / common) (up_to (L.t / common))
          (λ m h. ∈_up_to ((div-lt_iff_lt-mul common_pos).1 (rw (div-mul_cancel common common_t) (top_lt L ok (at l (2 * m))))))
          (λ m m' h h' e. cycle.tops_once m m' h h'
          (sym (div-add-mod' (top L (at l (2 * m))) common) ∙ ap₂ (λ q y. q * common + y) e (tops m h ∙ sym (tops m' h'))
          ∙ div-add-mod' (top L (at l (2 * m'))) common)))

      pub pair_cycle : length l ≡ pair_number L i j
      pair_cycle = omega (arith, long, few, pair_number_lem, cycle.even)
