-- A row with one erasure left: its only place (Single), and the counts once that is taken from its two rows (Lowers).
-- Main result: single.
use Rattle.std.specs.Prelude.{◌≡◌, refl, ◌≢◌, List, [], ◌∷◌, ℕ, ◌+◌, ◌*◌, ◌<◌, length, get_or}
use Rattle.std.proofs.Common.{sym, ◌∙◌, ap, subst, add-zero, arith}
use mathlib.Core.List.Memᴰ
use mathlib.Core.List.Memᴰ.{head as here}
use Rattle.math.specs.Members.{◌∈◌}
use Rattle.math.specs.Sums.{sum_over}
use Rattle.plan.specs.Layout.{Layout}
use Rattle.code.specs.Places.{places, Meets}
use Rattle.code.specs.Rounds.{on_row}
use Rattle.code.proofs.Laws.Leaves.{∈_on_row, on_row_∈}
use Rattle.tables.specs.Picture.{weight, counts, Counted}

-- c is the only erasure on row r, and v is its weight
pub record Single (L : Layout) (E : List ℕ) (r v c : ℕ) : Type 0 where
  pub member : c ∈ E
  pub inside : c ∈ places L
  pub meet : Meets L c r
  pub sole : (d : ℕ) → d ∈ E → Meets L d r → d ≡ c
  pub weighs : v ≡ weight L.t c

one_member : (l : List ℕ) → length l ≡ 1 → (c : ℕ) × (l ≡ c ∷ [])
one_member [] e = absurd (omega arith)
one_member (c ∷ []) e = (c, refl)
one_member (c ∷ (d ∷ l)) e = absurd (omega arith)

sum_over_single : (c : ℕ) (f : ℕ → ℕ) → sum_over (c ∷ []) f ≡ f c
unfolding sum_over
sum_over_single c f = add-zero (f c)

pub single : (L : Layout) {E tally : List ℕ} → Counted L E tally → {r : ℕ} → r < 2 * L.t → length (on_row L E r) ≡ 1
    → (c : ℕ) × Single L E r (get_or tally r 0) c
single L {E} p {r} h e =
    let o = one_member (on_row L E r) e in
    let c : ℕ = o.0 in
    let f = on_row_∈ L E r (subst (λ l. c ∈ l) (sym o.1) (here refl)) in (
      c,
      record {
        member = f.0;
        inside = p.erased.inside c f.0;
        meet = f.1;
        sole = λ d m y. Memᴰ.eq_of_singleton (subst (λ l. d ∈ l) o.1 (∈_on_row L m y));
        weighs = p.tallies r h ∙ ap (λ l. sum_over l (weight L.t)) o.1 ∙ sum_over_single c (weight L.t);
      },
    )

-- how the counts change when the one erasure of row a is settled, b being its other row
pub record Lowers (tally tally' : List ℕ) (a b : ℕ) : Type 0 where
  pub none : counts tally' a ≡ 0
  pub less : counts tally b ≡ counts tally' b + 1
  pub rest : (r : ℕ) → r ≢ a → r ≢ b → counts tally' r ≡ counts tally r
