-- The scan of the marks, a word of 64 at a time: the table tallies the erasures below the place that the scan has come to.
use Rattle.std.specs.Prelude.{◌≡◌, List, ℕ, ◌+◌, ◌*◌, ◌/◌, length}
use Rattle.plan.specs.Layout.{layout}
use Rattle.plan.specs.GoodPlan.{GoodPlan}
use Rattle.code.specs.Marks.{erasures, NoSpare}
use Rattle.tables.specs.Counting.{from_place, Seen}

-- what is lent for a scan: a plan's numbers, and a mark bit for each place
pub record Lent (n t : ℕ) (shifts marks : List ℕ) : Type 0 where
  pub good : GoodPlan n t shifts
  pub marks_long : length marks ≡ (n * t + 7) / 8
  pub no_spare : NoSpare (layout n t shifts) marks

-- the erasures that are noted: the marked places from a on
unfoldable pub to_note : ℕ → ℕ → List ℕ → List ℕ → ℕ → List ℕ
to_note n t shifts marks a = from_place a (erasures (layout n t shifts) marks)

-- the table tallies those of them below place c
pub record Scanned (n t : ℕ) (shifts marks : List ℕ) (a c : ℕ) (tally : List ℕ) : Type 0 where
  pub seen : Seen n t shifts (to_note n t shifts marks a) c tally
