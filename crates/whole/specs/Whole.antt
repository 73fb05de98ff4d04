-- When a block is whole: what the tests for it show.
-- Main results: intact (no mark and no sum: the block is the codeword), summed.
use Rattle.std.specs.Prelude.{◌≡◌, refl, Bool, false, List, ◌++◌, ℕ, ◌*◌, ◌/◌, ◌%◌, ◌^◌, ◌≤◌, ◌<◌, length, get_or, take, replicate}
use Rattle.std.proofs.Math.Path.{sym, ap}
use Rattle.std.proofs.Common.{◌∙◌, true≢false, arith, length-append, take_at}
use Rattle.std.proofs.Math.Bool.{true}
use Rattle.std.proofs.Math.Nat.{zero-div}
use Rattle.std.proofs.Math.Seq.{ext_get_or}
use Rattle.math.specs.Members.{◌∈◌}
use Rattle.plan.specs.Layout.{Layout, layout}
use Rattle.code.specs.Codewords.{at, bit_of}
use Rattle.code.specs.Marks.{mark, erasures}
use Rattle.code.proofs.Laws.MarksLaws.{in_erasures}
use Rattle.tables.specs.Scan.{Lent}
use Rattle.sums.specs.SumLaws.{Syndromes}
use Rattle.slices.specs.Zeros.{all_zero, all_zero_at}
use Rattle.promises.specs.Promises.{Decides}
use Rattle.promises.proofs.Building.{decides_recovered}
use Rattle.answers.specs.declared.Recovery.{Recovery}
use Rattle.answers.specs.declared.Recovery.TheVariants.{Recovered}

-- the table begins with the block's row sums
pub record Summed (n t : ℕ) (shifts block sum : List ℕ) : Type 0 where
  pub room : 2 * t ≤ length sum
  pub sums : Syndromes n t shifts block (take (2 * t) sum)

-- where the answer is yes, the block is recovered as it stands
pub record Intact (n t : ℕ) (shifts block marks : List ℕ) (r : Bool) : Type 0 where
  pub decides : {a : Recovery} {w' : List ℕ} → r ≡ true → (a ≡ Recovered) × (w' ≡ replicate (2 * t) 0)
      → Decides (layout n t shifts) (erasures (layout n t shifts) marks) block a block w'

-- the sums come back at the front of their table
module _ {n t : ℕ} {shifts block sum : List ℕ} (s : Syndromes n t shifts block sum) (rest : List ℕ) where
  pub sums_same : take (2 * t) (sum ++ rest) ≡ sum
  sums_same = take_at sum rest (2 * t) s.long

  pub summed : Summed n t shifts block (sum ++ rest)
  summed = record { room = omega (arith, length-append sum rest, s.long); sums = rw sums_same s }

-- ---- no erasures

pub not_intact : {n t : ℕ} {shifts block marks : List ℕ} {r : Bool} → r ≡ false → Intact n t shifts block marks r
not_intact e = record { decides = λ f g. absurd (true≢false (sym f ∙ e)) }

-- the bytes of the marks are 0, so no place is marked
none_erased : (L : Layout) (marks : List ℕ) → all_zero marks ≡ true → (c : ℕ) → ¬ (c ∈ erasures L marks)
unfolding mark bit_of
none_erased L marks z c i =
    let e : get_or marks (c / 8) 0 / 2 ^ (c % 8) % 2 ≡ 1 = ((in_erasures L marks c).0 i).1 in
    let f : 0 / 2 ^ (c % 8) % 2 ≡ 1 = rw (all_zero_at marks z (c / 8)) at e in
    omega (arith, zero-div (2 ^ (c % 8)))

module _ {n t : ℕ} {shifts block marks : List ℕ} (m : Lent n t shifts marks) (long : length block ≡ n * t) (byte : (c : ℕ) → at block c < 256) where
  pub intact : {sum list : List ℕ} {r : Bool} → all_zero marks ≡ true → Syndromes n t shifts block sum → list ≡ sum → r ≡ all_zero list
      → Intact n t shifts block marks r
  unfolding layout
  intact {sum} z s same e =
      let L = layout n t shifts in
      record {
        decides = λ f q.
            let zero : all_zero sum ≡ true = ap all_zero (sym same) ∙ sym e ∙ f in
            rw q.0 (decides_recovered (record {
              codeword = record { whole = long; symbols = byte; sums = λ r h. sym (s.each r h) ∙ all_zero_at sum zero r };
              unmarked = λ c h out. refl;
            })
            (λ x a. ext_get_or 0 x block (a.codeword.whole ∙ sym long)
            (λ c h. a.unmarked c (rw a.codeword.whole at h) (none_erased L marks z c)))
            q.1);
      }
