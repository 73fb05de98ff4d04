-- A list written to a slice that is longer: the list, then zeros.
-- Main results: padded_none, padded_more and padded_take (one place more); zeros_at.
use Rattle.std.specs.Prelude.{◌≡◌, refl, List, [], ◌∷◌, ◌++◌, ℕ, zero, suc, ◌+◌, ◌-◌, ◌≤◌, ◌<◌, length, get_or, take, set, replicate}
use Rattle.std.proofs.Common.{sym, ◌∙◌, ap, append_assoc, add-one, arith, length-append, take-suc, length-take-le}
use Rattle.std.proofs.Math.Nat.{sub-zero}
use Rattle.std.proofs.lemmas.List.{length-replicate}
use Rattle.std.proofs.Math.Seq.{set-append_seam, take-length}

-- the numbers of a list, then zeros, up to k numbers
unfoldable pub padded : ℕ → List ℕ → List ℕ
padded k l = l ++ replicate (k - length l) 0

-- a list of zeros, number by number
pub zeros_at : (k i : ℕ) → get_or {A = ℕ} (replicate k 0) i 0 ≡ 0
zeros_at zero i = refl
zeros_at (suc k) zero = refl
zeros_at (suc k) (suc i) = zeros_at k i

pub length_padded : (k : ℕ) (l : List ℕ) → length l ≤ k → length (padded k l) ≡ k
unfolding padded
length_padded k l h = omega (arith, length-append l (replicate (k - length l) 0), length-replicate {A = ℕ} (k - length l) 0)

pub padded_none : (k : ℕ) → padded k [] ≡ replicate k 0
unfolding padded
padded_none k = ap (λ i. replicate i 0) (sub-zero k)

pub padded_more : (k : ℕ) (l : List ℕ) (x : ℕ) → length l < k → set (padded k l) (length l) x ≡ padded k (l ++ (x ∷ []))
unfolding padded
padded_more k l x h =
    let e : k - length l ≡ suc (k - length (l ++ (x ∷ []))) = omega (arith, length-append l (x ∷ [])) in
    ap (λ i. set (l ++ replicate i 0) (length l) x) e
    ∙ set-append_seam l 0 (replicate (k - length (l ++ (x ∷ []))) 0) x
    ∙ sym (append_assoc l (x ∷ []) (replicate (k - length (l ++ (x ∷ []))) 0))

-- one more of a list's elements
pub padded_take : (k i : ℕ) (l : List ℕ) → i < length l → length l ≤ k → set (padded k (take i l)) i (get_or l i 0) ≡ padded k (take (i + 1) l)
padded_take k i l h s =
    let e : length (take i l) ≡ i = length-take-le i l (omega arith) in
    ap (λ j. set (padded k (take i l)) j (get_or l i 0)) (sym e)
    ∙ padded_more k (take i l) (get_or l i 0) (omega arith)
    ∙ ap (padded k) (sym (take-suc l i 0 h) ∙ ap (λ j. take j l) (sym (add-one i)))

pub padded_all : (k i : ℕ) (l : List ℕ) → i ≡ length l → padded k (take i l) ≡ padded k l
padded_all k i l e = ap (padded k) (ap (λ j. take j l) e ∙ take-length l)
