-- A command by the variants that it is not: what is left makes a plan, or makes none.
-- Main results: tag_makes, tag_makes_none, passes_rest.
use Rattle.std.specs.Prelude.{◌≡◌, refl, true, false, ℕ, Ok}
use Rattle.commands.specs.declared.Command.{Command}
use Rattle.commands.specs.declared.Command.TheVariants.{NewPlan, SetShift, SetSymbol, MarkOne, MarkRun, Recover, Seal, Show, Figures, Straight, Powers, Ruler, Fetch}
use Rattle.std.proofs.Common.{true≢false}
use Rattle.plan.specs.declared.Plan.{Plan}
use Rattle.state.specs.Refusing.{early, makes_plan, refusal_of}
use Rattle.state.specs.RefusingLaws.{bare}

-- none of the commands that make no plan
pub tag_makes : (c : Command) → ((j p : ℕ) → c ≡ SetShift j p → ⊥) → ((k v : ℕ) → c ≡ SetSymbol k v → ⊥) → ((k : ℕ) → c ≡ MarkOne k → ⊥)
    → ((k m : ℕ) → c ≡ MarkRun k m → ⊥) → (c ≡ Recover → ⊥) → (c ≡ Seal → ⊥) → ((k : ℕ) → c ≡ Show k → ⊥) → (c ≡ Figures → ⊥) → (c ≡ Fetch → ⊥)
    → makes_plan c ≡ true
unfolding makes_plan
tag_makes (NewPlan n t) _ _ _ _ _ _ _ _ _ = refl
tag_makes (SetShift j p) h _ _ _ _ _ _ _ _ = absurd (h j p refl)
tag_makes (SetSymbol k v) _ h _ _ _ _ _ _ _ = absurd (h k v refl)
tag_makes (MarkOne k) _ _ h _ _ _ _ _ _ = absurd (h k refl)
tag_makes (MarkRun k m) _ _ _ h _ _ _ _ _ = absurd (h k m refl)
tag_makes Recover _ _ _ _ h _ _ _ _ = absurd (h refl)
tag_makes Seal _ _ _ _ _ h _ _ _ = absurd (h refl)
tag_makes (Show k) _ _ _ _ _ _ h _ _ = absurd (h k refl)
tag_makes Figures _ _ _ _ _ _ _ h _ = absurd (h refl)
tag_makes (Straight n t) _ _ _ _ _ _ _ _ _ = refl
tag_makes (Powers n t q) _ _ _ _ _ _ _ _ _ = refl
tag_makes (Ruler n) _ _ _ _ _ _ _ _ _ = refl
tag_makes Fetch _ _ _ _ _ _ _ _ h = absurd (h refl)

-- none of those that make one
pub tag_makes_none : (c : Command) → ((n t : ℕ) → c ≡ NewPlan n t → ⊥) → ((n t : ℕ) → c ≡ Straight n t → ⊥) → ((n t q : ℕ) → c ≡ Powers n t q → ⊥)
    → ((n : ℕ) → c ≡ Ruler n → ⊥) → makes_plan c ≡ false
unfolding makes_plan
tag_makes_none (NewPlan n t) h _ _ _ = absurd (h n t refl)
tag_makes_none (SetShift j p) _ _ _ _ = refl
tag_makes_none (SetSymbol k v) _ _ _ _ = refl
tag_makes_none (MarkOne k) _ _ _ _ = refl
tag_makes_none (MarkRun k m) _ _ _ _ = refl
tag_makes_none Recover _ _ _ _ = refl
tag_makes_none Seal _ _ _ _ = refl
tag_makes_none (Show k) _ _ _ _ = refl
tag_makes_none Figures _ _ _ _ = refl
tag_makes_none (Straight n t) _ h _ _ = absurd (h n t refl)
tag_makes_none (Powers n t q) _ _ h _ = absurd (h n t q refl)
tag_makes_none (Ruler n) _ _ _ h = absurd (h n refl)
tag_makes_none Fetch _ _ _ _ = refl

-- none of those that name a section, a place or a run: nothing more refuses a command that makes no plan
pub passes_rest : (p : Plan) (c : Command) → makes_plan c ≡ false → ((j q : ℕ) → c ≡ SetShift j q → ⊥) → ((k v : ℕ) → c ≡ SetSymbol k v → ⊥) → ((k : ℕ) → c ≡ MarkOne k → ⊥)
    → ((k m : ℕ) → c ≡ MarkRun k m → ⊥) → ((k : ℕ) → c ≡ Show k → ⊥) → Ok tt ≡ refusal_of (bare true p) c
unfolding makes_plan refusal_of early
passes_rest p (NewPlan n t) m _ _ _ _ _ = absurd (true≢false m)
passes_rest p (SetShift j q) m h _ _ _ _ = absurd (h j q refl)
passes_rest p (SetSymbol k v) m _ h _ _ _ = absurd (h k v refl)
passes_rest p (MarkOne k) m _ _ h _ _ = absurd (h k refl)
passes_rest p (MarkRun k n) m _ _ _ h _ = absurd (h k n refl)
passes_rest p Recover m _ _ _ _ _ = refl
passes_rest p Seal m _ _ _ _ _ = refl
passes_rest p (Show k) m _ _ _ _ h = absurd (h k refl)
passes_rest p Figures m _ _ _ _ _ = refl
passes_rest p (Straight n t) m _ _ _ _ _ = absurd (true≢false m)
passes_rest p (Powers n t q) m _ _ _ _ _ = absurd (true≢false m)
passes_rest p (Ruler n) m _ _ _ _ _ = absurd (true≢false m)
passes_rest p Fetch m _ _ _ _ _ = refl
