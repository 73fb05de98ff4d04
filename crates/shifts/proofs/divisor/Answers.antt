-- `divisor` meets its contract: the chain goes over the shifts from the last to the first. Assumes nothing.
use Rattle.std.proofs.Common.{◌≡◌, refl, ◌∙◌, ap, List, [], ◌∷◌, ℕ, ◌+◌, ◌-◌, get_or, rules, tests}
use Rattle.std.specs.List.{slice_get}
use Rattle.std.specs.Option.{unwrap_or}
use Rattle.std.proofs.lemmas.Iterator.Adapters.{YieldsList-from_rev_slice}
use Rattle.std.proofs.lemmas.Iterator.Consumers.{fold_from_yields_List}
use Rattle.math.specs.Gcd.{gcd}
use Rattle.shifts.specs.ShiftsLaws.{divisor_fold}
use Rattle.shifts.proofs.divisor.Goals as goal

first_or : (s : List ℕ) → unwrap_or (slice_get s 0) 0 ≡ get_or s 0 0
first_or [] = refl
first_or (x ∷ xs) = refl

pub returns : goal.returns
returns c =
    let first : ℕ = c.unwrap_or-first.result in
    let e : first ≡ get_or c.args.s.now 0 0 = c.unwrap_or-first.ensures ∙ ap (λ o. unwrap_or o 0) (c.copied.ensures ∙ c.first.ensures.value) ∙ first_or c.args.s.now in
    fold_from_yields_List _ (λ g p. gcd ((p - first) + (first - p)) g) _ _ c.fold.ensures.ran (YieldsList-from_rev_slice c.args.s.now cc) (λ g x r q k. search (rules, tests))
    ∙ divisor_fold c.args.t first c.args.s.now e
