-- The rulers of table I keep the ruler rule as the distance needs it, so their distance is 6.
use Rattle.std.proofs.Common.{subst, sym, arith}
use Rattle.std.specs.Prelude.{ℕ, ◌≤◌, ◌<◌, length}
use Rattle.math.specs.MembersLaws.{up_to_∈, length_up_to, rising_up_to}
use Rattle.plan.specs.Layout.{Layout, Valid, layout}
use Rattle.ruler.specs.Ruler.{ruler_t, ruler_shifts, RulerRule}
use Rattle.ruler.proofs.RulerLaws.{rulers_keep_rule, ruler_length, ruler_below, ruler_wide}
use Rattle.shifts.specs.ShiftsLaws.{all_below_below}
use Rattle.code.specs.Figures.{Ruler, Least, NonzeroWeight}
use Rattle.code.proofs.Laws.Distance.{distance_ruler}

unfoldable pub ruler_layout : ℕ → Layout
ruler_layout n = layout n (ruler_t n) (ruler_shifts n)

module _ (n : ℕ) (low : 3 ≤ n) (high : n ≤ 14) where
  ruler_valid : Valid (ruler_layout n)
  unfolding ruler_layout layout
  ruler_valid =
      record {
        positive = omega (arith, ruler_wide n low high);
        rising = rising_up_to n;
        inside = λ j m. up_to_∈ n m;
        below = λ j m. all_below_below (ruler_t n) (ruler_shifts n) (ruler_below n low high) j (subst (λ k. j < k) (sym (ruler_length n low high)) (up_to_∈ n m));
      }

  -- the rule of the table is the rule of the layout
  pub ruler_rule : Ruler (ruler_layout n)
  unfolding ruler_layout layout RulerRule
  ruler_rule =
      record {
        rule = λ i j k l a b e. rulers_keep_rule n low high i j k l (up_to_∈ n a.first) (up_to_∈ n a.second) (up_to_∈ n b.first) (up_to_∈ n b.second)
            a.differ b.differ e;
      }

  ruler_sections : 3 ≤ length (ruler_layout n).sections
  unfolding ruler_layout layout
  ruler_sections = rw (length_up_to n) low

  pub ruler_distance : Least (NonzeroWeight (ruler_layout n)) 6
  ruler_distance = distance_ruler (ruler_layout n) ruler_valid ruler_sections ruler_rule
