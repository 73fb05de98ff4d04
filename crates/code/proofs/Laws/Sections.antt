-- Places section by section, from a first offset on: the list of them, its members and its length. Main result: length_places.
use Rattle.std.specs.Prelude.{◌≡◌, refl, ℕ, ◌-◌, ◌*◌, ◌/◌, ◌%◌, ◌≤◌, ◌<◌, length}
use Rattle.std.proofs.Common.{sym, ◌∙◌, ap, mod-lt, mul-le-mul_right, arith, length-append}
use Rattle.std.proofs.Math.Logic.{⊎_elim}
use mathlib.Core.List.Memᴰ
use mathlib.Core.List.{List, [], ◌∷◌, ◌++◌, map}
use mathlib.Core.List.Memᴰ.{head as first}
use mathlib.Core.List.Memᴰ.{tail as later}
use Rattle.std.proofs.Math.Nat.{sub-zero}
use Rattle.std.proofs.lemmas.List.{length-map}
use Rattle.math.specs.Members.{◌∈◌, from, Rising, rising_none, rising_more}
use Rattle.math.specs.MembersLaws.{∈_from, from_∈, length_from, rising_from, rising_append, rising_ext}
use Rattle.math.specs.Pigeonhole.{mem_map, map_mem, rising_map}
use Rattle.math.specs.Sums.{sum_over}
use Rattle.math.specs.SumsLaws.{sum_over_const}
use Rattle.plan.specs.Layout.{Layout, Valid, place_of}
use Rattle.code.specs.Places.{places}
use Rattle.code.proofs.Laws.Basics.{places_∈, rising_places, section_of, offset_of, place_split, place_∈}

-- a place of a lower section is lower
pub place_below : {t i j k : ℕ} (l : ℕ) → i < j → k < t → place_of t i k < place_of t j l
unfolding place_of
place_below {t} {i} {j} l h g = omega (arith, mul-le-mul_right t h)

-- a place of a lower offset is lower
pub place_order : (t j : ℕ) {k l : ℕ} → k < l → place_of t j k < place_of t j l
unfolding place_of
place_order t j h = omega arith

place_lt : (t : ℕ) → 0 < t → (c d : ℕ) → c / t < d / t → c < d
place_lt t pos c d h = rw (place_split t c, place_split t d) at (place_below {k = c % t} (d % t) h (mod-lt c pos))

-- of each section j of the list the places from offset f j on
unfoldable pub places_from : ℕ → (ℕ → ℕ) → List ℕ → List ℕ
places_from t f [] = []
places_from t f (j ∷ js) = map (place_of t j) (from (f j) (t - f j)) ++ places_from t f js

pub length_places_from : (t : ℕ) (f : ℕ → ℕ) (js : List ℕ) → length (places_from t f js) ≡ sum_over js (λ j. t - f j)
unfolding places_from sum_over
length_places_from t f [] = refl
length_places_from t f (j ∷ js) = simp (length-append, length-map, length_from, length_places_from t f js)

module _ (t : ℕ) (pos : 0 < t) (f : ℕ → ℕ) where
  pub ∈_places_from : {j k : ℕ} {js : List ℕ} → j ∈ js → f j ≤ k → k < t → place_of t j k ∈ places_from t f js
  unfolding places_from
  ∈_places_from {j} (first {x = i} {xs = is} e) h l =
      rw (← e) (Memᴰ.append_left (places_from t f is) (mem_map (place_of t j) (∈_from (f j) (t - f j) h (omega arith))))
  ∈_places_from (later {x = i} {xs = is} m) h l = Memᴰ.append_right (map (place_of t i) (from (f i) (t - f i))) (∈_places_from m h l)

  in_section : (j : ℕ) {c : ℕ} → c ∈ map (place_of t j) (from (f j) (t - f j)) → (c / t ≡ j) × (f j ≤ c % t)
  in_section j m =
      let s = map_mem (place_of t j) (from (f j) (t - f j)) m in
      let h = from_∈ (f j) (t - f j) s.1 in
      let l : s.0 < t = omega arith in
      (ap (λ d. d / t) s.2 ∙ section_of j l, rw (s.2, offset_of j l) h.0)

  pub places_from_∈ : (js : List ℕ) {c : ℕ} → c ∈ places_from t f js → (c / t ∈ js) × (f (c / t) ≤ c % t)
  unfolding places_from
  places_from_∈ [] m = absurd (Memᴰ.not-nil m)
  places_from_∈ (j ∷ js) {c} m =
      ⊎_elim (λ i. let h = in_section j i in (first h.0, rw h.0 h.1))
      (λ i. let h = places_from_∈ js i in (later h.0, h.1))
      (Memᴰ.append_cases (map (place_of t j) (from (f j) (t - f j))) m)

  pub rising_places_from : {js : List ℕ} → Rising js → Rising (places_from t f js)
  unfolding places_from
  rising_places_from rising_none = rising_none
  rising_places_from (rising_more {c = j} {cs = js} h r) =
      rising_append (rising_map (place_of t j) (rising_from (f j) (t - f j)) (λ c d _ _ l. place_order t j l)) (rising_places_from r)
      (λ c d m k. place_lt t pos c d (rw (in_section j m).0 (h (d / t) (places_from_∈ js k).0)))

pub length_places : (L : Layout) → Valid L → length (places L) ≡ length L.sections * L.t
length_places L ok = ap length (rising_ext (rising_places L) (rising_places_from L.t ok.positive (λ _. 0) ok.rising) on back)
    ∙ length_places_from L.t (λ _. 0) L.sections ∙ (simp sub-zero (sum_over_const L.sections L.t))
  where
    on : (c : ℕ) → c ∈ places L → c ∈ places_from L.t (λ _. 0) L.sections
    on c m = Memᴰ.cast (sym (place_split L.t c))
        (∈_places_from L.t ok.positive (λ _. 0) (places_∈ L m).1 (omega arith) (mod-lt c ok.positive))

    back : (c : ℕ) → c ∈ places_from L.t (λ _. 0) L.sections → c ∈ places L
    back c m = Memᴰ.cast (sym (place_split L.t c))
        (place_∈ L ok (places_from_∈ L.t ok.positive (λ _. 0) L.sections m).0 (mod-lt c ok.positive))
