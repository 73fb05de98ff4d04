-- Reading: the row test tells codewords from other blocks.
-- Main result: tells_codeword.
use Rattle.std.specs.Prelude.{◌≡◌, List, ◌++◌, ℕ, ◌*◌, ◌≤◌, ◌<◌, length, get_or, take, Bool, true, false}
use Rattle.std.proofs.Common.{sym, ◌∙◌, ap, arith, length-append, take_at, true≢false}
use Rattle.plan.specs.Layout.{layout}
use Rattle.code.specs.Codewords.{Codeword}
use Rattle.slices.specs.Zeros.{all_zero, all_zero_at, at_all_zero}
use Rattle.sums.specs.SumLaws.{Syndromes}

-- the test says whether A holds
pub record Tells (A : Type 0) (b : Bool) : Type 0 where
  pub yes : b ≡ true → A
  pub no : b ≡ false → ¬ A

-- the sums come back at the front of their table
module _ {n t : ℕ} {shifts v sum : List ℕ} (s : Syndromes n t shifts v sum) (rest : List ℕ) where
  pub sums_room : 2 * t ≤ length (sum ++ rest)
  sums_room = omega (arith, length-append sum rest, s.long)

  pub sums_same : take (2 * t) (sum ++ rest) ≡ sum
  sums_same = take_at sum rest (2 * t) s.long

-- the test goes by a list that is the table of row sums
pub tells_codeword : (n t : ℕ) (shifts v : List ℕ) {sum list : List ℕ} {b : Bool} → length v ≡ n * t → ((c : ℕ) → get_or v c 0 < 256) →
    Syndromes n t shifts v sum → list ≡ sum → b ≡ all_zero list → Tells (Codeword (layout n t shifts) v) b
unfolding layout
tells_codeword n t shifts v {sum} {list} long byte s same e =
    let f = e ∙ ap all_zero same in
    record {
      yes = λ q. record { whole = long; symbols = byte; sums = λ r h. sym (s.each r h) ∙ all_zero_at sum (sym f ∙ q) r };
      no = λ q w. true≢false
          (sym (at_all_zero sum (λ r h. let l : r < 2 * t = omega (arith, s.long) in s.each r l ∙ w.sums r l)) ∙ sym f ∙ q);
    }
