-- The two loops on digits, as records with a start, a step and an end.
-- Widening: n has more than k - 1 digits, and the power is ten to the k. Spelling: k digits of n are written from the last to the first, i are left, those of `rest`.
-- Main results: widening_start, widening_fits, widening_step, widening_found, widening_last; spelling_start, spelling_step, spelling_end.
use Rattle.std.specs.Prelude.{◌≡◌, refl, List, [], ◌∷◌, ◌++◌, ℕ, suc, ◌+◌, ◌-◌, ◌*◌, ◌/◌, ◌%◌, ◌^◌, ◌≤◌, ◌<◌, length, take, drop, set}
use Rattle.std.proofs.Common.{sym, ◌∙◌, ap, subst, append-nil, add-suc, add-zero, pow-suc, add-one, arith, length-set, length-take-le, drop-set-lt, take-suc-set}
use Rattle.std.proofs.Math.Nat.{pow-le-pow_right}
use Rattle.std.proofs.Math.Seq.{take-set-lt, append_snoc}
use Rattle.std.proofs.lemmas.List.{set-append_left}
use Rattle.io.specs.Digits.{last_digits}
use Rattle.pieces.specs.Pieces.{width_from}
use Rattle.pieces.specs.DecimalLaws.{width_is, moved}

pub record Widening (n k power : ℕ) : Type 0 where
  pub least : 1 ≤ k
  pub most : k ≤ 19
  pub is : power ≡ 10 ^ k
  pub more : 1 < k → 10 ^ (k - 1) ≤ n

pub widening_start : (n : ℕ) → Widening n 1 10
widening_start n = record { least = omega arith; most = omega arith; is = refl; more = λ h. absurd (omega arith) }

module _ {n k power : ℕ} (w : Widening n k power) where
  pub widening_fits : k < 19 → power * 10 < 2 ^ 64
  widening_fits h =
      let l : k ≤ 18 = omega arith in
      let p : 10 ^ k ≤ 10 ^ 18 = pow-le-pow_right (omega arith) l in
      omega (arith, w.is)

  pub widening_step : k < 19 → power ≤ n → Widening n (k + 1) (power * 10)
  widening_step h g =
      let e : k + 1 - 1 ≡ k = omega arith in
      record {
        least = omega arith;
        most = omega arith;
        is = rw (add-one k, pow-suc) (ap (λ x. x * 10) w.is);
        more = λ _. rw (e, ← w.is) g;
      }

  pub widening_found : n < power → k ≡ width_from 20 1 n
  widening_found h = sym (width_is n k w.least (omega (arith, w.most)) (rw w.is at h) w.more)

  pub widening_last : k ≡ 19 → power ≤ n → n < 2 ^ 64 → 20 ≡ width_from 20 1 n
  widening_last e h g =
      let p : power ≡ 10 ^ 19 = w.is ∙ ap (λ x. 10 ^ x) e in
      sym (width_is n 20 (omega arith) (omega arith) (omega arith) (λ _. omega arith))

pub record Spelling (l : List ℕ) (at k n i rest : ℕ) (l' : List ℕ) : Type 0 where
  pub done : List ℕ
  pub all : last_digits 10 k n ≡ last_digits 10 i rest ++ done
  pub stands : take (at + k) l' ≡ take (at + i) l ++ done
  pub within : i ≤ k
  pub long : length l' ≡ length l
  pub kept : drop (at + k) l' ≡ drop (at + k) l

module _ (l : List ℕ) (at k n : ℕ) where
  pub spelling_start : Spelling l at k n k n l
  spelling_start =
      record {
        done = [];
        all = sym (append-nil (last_digits 10 k n));
        stands = sym (append-nil (take (at + k) l));
        within = omega arith;
        long = refl;
        kept = refl;
      }

  suc_step : {j rest : ℕ} {l' : List ℕ} → Spelling l at k n (suc j) rest l' → at + k ≤ length l →
      Spelling l at k n j (rest / 10) (set l' (at + j) (48 + rest % 10))
  suc_step {j} {rest} {l'} s h =
      let v : ℕ = 48 + rest % 10 in
      let e : at + suc j ≡ suc (at + j) = add-suc at j in
      let a : at + j < at + suc j = omega arith in
      let b : at + j < at + k = omega arith in
      let c : at + j < length l = omega arith in
      let d : at + suc j ≤ length l = omega arith in
      let f : at + j < length (take (at + suc j) l) = rw (length-take-le (at + suc j) l d) a in
      record {
        done = v ∷ s.done;
        all = s.all ∙ moved j rest s.done;
        stands =
            take-set-lt (at + k) l' (at + j) v b
            ∙ ap (λ x. set x (at + j) v) s.stands
            ∙ set-append_left (take (at + suc j) l) s.done (at + j) v f
            ∙ ap (λ x. x ++ s.done) (sym (take-set-lt (at + suc j) l (at + j) v a) ∙ ap (λ x. take x (set l (at + j) v)) e ∙ take-suc-set l (at + j) v c)
            ∙ append_snoc (take (at + j) l) v s.done;
        within = omega arith;
        long = length-set l' (at + j) v ∙ s.long;
        kept = drop-set-lt (at + k) l' (at + j) v b ∙ s.kept;
      }

  pub spelling_step : {i rest j v : ℕ} {l' : List ℕ} → Spelling l at k n i rest l' → at + k ≤ length l → 0 < i → j ≡ i - 1 → v ≡ 48 + rest % 10 →
      Spelling l at k n j (rest / 10) (set l' (at + j) v)
  spelling_step {i} {rest} {j} {v} {l'} s h p e f =
      let g : i ≡ suc j = omega arith in
      rw f (suc_step (subst (λ x. Spelling l at k n x rest l') g s) h)

  pub spelling_end : {rest : ℕ} {l' : List ℕ} → Spelling l at k n 0 rest l' → take (at + k) l' ≡ take at l ++ last_digits 10 k n
  spelling_end s = s.stands ∙ rw (add-zero at) (ap (λ x. take at l ++ x) (sym s.all))
