-- The upper rows of matrix (1): a one where the place has the row as its top row.
use Rattle.std.specs.Prelude.{◌≡◌}
use Rattle.std.proofs.Math.Path.{sym, ap, ◌∙◌}
use Rattle.std.proofs.Math.Logic.{by_cases}
use Rattle.std.proofs.Math.Decide.{ℕ_discrete}
use Prim.Native.Nat.{ℕ, ◌-◌, ◌%◌, ◌<◌}
use Rattle.std.proofs.Math.Nat.{mod-eq_of_lt, add-zero}
use Rattle.std.proofs.Math.Dec.{eqb}
use borrow.Author.Tests.{lt-ltb, eq-eqb, ne_eqb}
use Rattle.math.specs.Sums.{only}
use Rattle.plan.specs.Layout.{Layout, top_row, top}
use Rattle.code.specs.Places.{cpm, matrix}

-- tests of two statements that follow from one another are equal
pub eqb_iff : (a b c d : ℕ) → (a ≡ b → c ≡ d) → (c ≡ d → a ≡ b) → eqb a b ≡ eqb c d
eqb_iff a b c d f g =
    by_cases (ℕ_discrete a b)
    (λ e. eq-eqb a b e ∙ sym (eq-eqb c d (f e)))
    (λ n. ne_eqb a b n ∙ sym (ne_eqb c d (λ e. n (g e))))

pub matrix_upper : (L : Layout) (c : ℕ) {r : ℕ} → r < L.t → matrix L r c ≡ only (eqb r (top L c)) 1
unfolding matrix cpm top top_row
matrix_upper L c {r} h = rw (lt-ltb r L.t h, add-zero, mod-eq_of_lt h) (ap (λ b. only b 1) (eqb_iff (c % L.t) r r (c % L.t) sym sym))
