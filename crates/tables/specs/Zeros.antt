-- Tables of zeros, and their front parts.
-- Main results: zeros_long, zeros, zeros_of, zeros_room, zeros_part, front_long.
use Rattle.std.specs.Prelude.{◌≡◌, refl, List, ◌∷◌, ℕ, zero, suc, ◌*◌, ◌≤◌, length, take, replicate}
use Rattle.std.proofs.Common.{sym, ◌∙◌, ap, arith, length-take-le}
use Rattle.std.proofs.lemmas.List.{length-replicate}

-- a table of zeros with an entry for each row
pub zeros_long : (t : ℕ) (sum : List ℕ) → sum ≡ replicate (2 * t) 0 → length sum ≡ 2 * t
zeros_long t sum e = rw e (length-replicate (2 * t) 0)

-- a table of zeros with room for m entries
pub record Zeros (m : ℕ) (table : List ℕ) : Type 0 where
  pub size : ℕ
  pub zeros : table ≡ replicate size 0
  pub room : m ≤ size

pub zeros : {m : ℕ} (k : ℕ) → m ≤ k → Zeros m (replicate k 0)
zeros k h = record { size = k; zeros = refl; room = h }

-- The law of every size: an array of k zeros is a table for a plan with t at most m, if k is at least 2m. A is what is known beside.
pub zeros_of : {A : Type 0} {t m : ℕ} (k : ℕ) → A × (t ≤ m) → 2 * m ≤ k → A × Zeros (2 * t) (replicate k 0)
zeros_of k g h = (g.0, zeros k (omega (arith, g.1)))

zeros_front : (m k : ℕ) → m ≤ k → take m (replicate {A = ℕ} k 0) ≡ replicate m 0
zeros_front zero k h = refl
zeros_front (suc m) zero h = absurd (omega arith)
zeros_front (suc m) (suc k) h = ap (λ l. 0 ∷ l) (zeros_front m k (omega arith))

module _ {m : ℕ} {table : List ℕ} (z : Zeros m table) where
  pub zeros_room : m ≤ length table
  zeros_room = omega (arith, z.room, ap length z.zeros, length-replicate {A = ℕ} z.size 0)

  pub zeros_part : take m table ≡ replicate m 0
  zeros_part = ap (take m) z.zeros ∙ zeros_front m z.size z.room

-- the first m entries of a table
pub front_long : (m : ℕ) (l : List ℕ) → m ≤ length l → m ≡ length (take m l)
front_long m l h = sym (length-take-le m l h)
