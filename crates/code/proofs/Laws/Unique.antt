-- A forest of erasures has at most one filling.
-- Main results: forest_zero (a block that is 0 outside a forest and sums to 0 in every row is 0), forest_unique (T6).
use Rattle.std.specs.Prelude.{◌≡◌, refl, List, ◌∷◌, ℕ, ◌*◌, ◌<◌, eqb}
use Rattle.std.proofs.Common.{sym, ◌∙◌, ap, ap₂, ext_get_or, eq-eqb, ne_eqb}
use Rattle.std.proofs.Math.Logic.{by_cases}
use mathlib.Core.List.Memᴰ
use mathlib.Core.List.Memᴰ.{head}
use mathlib.Core.List.Memᴰ.{tail}
use Rattle.std.proofs.Math.Decide.{ℕ_discrete}
use Rattle.math.specs.Members.{◌∈◌}
use Rattle.math.specs.MembersLaws.{by_place, dec_in}
use Rattle.math.specs.Xor.{◌⊕◌, ⊕_zero, ⊕_self, ⊕_eq}
use Rattle.math.specs.Sums.{only}
use Rattle.math.specs.SumsLaws.{only_true, only_false}
use Rattle.plan.specs.Layout.{Layout, Valid, top, bottom}
use Rattle.code.specs.Places.{places}
use Rattle.code.specs.Codewords.{at, syndrome, Agrees}
use Rattle.code.specs.Components.{Connected}
use Rattle.code.specs.Laws.Forest.{Erased, Forest, forest_none, forest_more}
use Rattle.code.proofs.Laws.Basics.{places_∈, syndrome_add}
use Rattle.code.specs.Laws.Labels.{label}
use Rattle.code.proofs.Laws.Labels.{label_connected}
use Rattle.code.proofs.Laws.Balance.{single, single_same, single_other, class_sum_zero, class_sum_ext, class_sum_single}

module _ (L : Layout) (ok : Valid L) where
  -- the class of the top row of c under the other erasures: of the erasures c alone enters its sum, and once
  lone_zero : {c : ℕ} (E : List ℕ) → c ∈ places L → ¬ (Connected L E (top L c) (bottom L c)) → (x : ℕ → ℕ)
      → ((d : ℕ) → d ∈ places L → ¬ (d ∈ (c ∷ E)) → x d ≡ 0) → ((r : ℕ) → r < 2 * L.t → syndrome L x r ≡ 0) → x c ≡ 0
  lone_zero {c} E m n x out sums =
      let a : ℕ = label L E (top L c) in
      let b : ℕ = label L E (bottom L c) in
      let once : only (eqb a a) (x c) ⊕ only (eqb b a) (x c) ≡ x c =
      rw (only_true (x c) (eq-eqb a a refl), only_false (x c) (ne_eqb b a (λ e. n (label_connected L E (top L c) (bottom L c) (sym e))))) (⊕_zero (x c)) in
      sym once ∙ sym (class_sum_single L ok E a (x c) m)
      ∙ sym (class_sum_ext L ok E a x (single c (x c)) (λ d i k. by_cases (ℕ_discrete d c)
      (λ e. ap x e ∙ sym (ap (single c (x c)) e ∙ single_same c (x c)))
      (λ f. out d i (λ j. by_place j f k) ∙ sym (single_other (x c) f))))
      ∙ class_sum_zero L E a x sums

  pub forest_zero : {E : List ℕ} → ((c : ℕ) → c ∈ E → c ∈ places L) → Forest L E → (x : ℕ → ℕ)
      → ((c : ℕ) → c ∈ places L → ¬ (c ∈ E) → x c ≡ 0) → ((r : ℕ) → r < 2 * L.t → syndrome L x r ≡ 0) → (c : ℕ) → c ∈ places L → x c ≡ 0
  forest_zero i forest_none x out sums c m = out c m Memᴰ.not-nil
  forest_zero i (forest_more {c = d} {cs = es} n f) x out sums c m =
      forest_zero (λ e k. i e (tail k)) f x
      (λ e k o. by_cases (ℕ_discrete e d)
      (λ q. ap x q ∙ lone_zero es (i d (head refl)) n x out sums)
      (λ g. out e k (λ j. by_place j g o)))
      sums c m

  -- T6
  pub forest_unique : (E v w x : List ℕ) → Erased L E → Forest L E → Agrees L E v w → Agrees L E v x → w ≡ x
  forest_unique E v w x er f p q =
      let same : (c : ℕ) → c < L.n * L.t → ¬ (c ∈ E) → at w c ≡ at x c = λ c h n. p.unmarked c h n ∙ sym (q.unmarked c h n) in
      let zero : (c : ℕ) → c ∈ places L → at w c ⊕ at x c ≡ 0 =
      forest_zero er.inside f (λ c. at w c ⊕ at x c) (λ c m n. rw (same c (places_∈ L m).0 n) (⊕_self (at x c)))
      (λ r h. syndrome_add L (at w) (at x) r ∙ ap₂ ◌⊕◌ (p.codeword.sums r h) (q.codeword.sums r h) ∙ ⊕_zero 0) in
      ext_get_or 0 w x (p.codeword.whole ∙ sym q.codeword.whole)
      (λ c h. by_cases (dec_in c E)
      (λ m. ⊕_eq (at w c) (at x c) (zero c (er.inside c m)))
      (λ n. same c (rw p.codeword.whole at h) n))
