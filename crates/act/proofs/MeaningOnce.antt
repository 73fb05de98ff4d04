-- A command that is not refused means one thing: one state after it and one text. And it keeps a state standing.
-- Main definition: Standing. Main results: means_stands, means_once.
use Rattle.std.specs.Prelude.{◌≡◌, refl, true, List, [], ◌∷◌, map, ℕ, length, replicate, Ok}
use Rattle.std.proofs.Common.{sym, ◌∙◌, ap, ap₂, subst}
use Rattle.plan.specs.Plans.{plan_in, blank_of, layout_of, plan_check, straight_of, powers_of, ruler_of}
use Rattle.plan.proofs.PlanLaws.{good_valid, shift_good, answer_good}
use Rattle.plan.specs.declared.Plan.{Plan}
use Rattle.code.specs.Codewords.{at}
use Rattle.code.specs.Marks.{mark_bytes}
use Rattle.code.specs.Messages.{Carries}
use Rattle.code.proofs.FiguresOnce.{figures_unique}
use Rattle.code.proofs.Laws.Carrying.{lists_unique}
use Rattle.code.proofs.Laws.MarksLaws.{erasures_erased}
use Rattle.code.proofs.Theorems.{fetch_list_once}
use Rattle.promises.proofs.Building.{no_other_carries}
use Rattle.promises.proofs.Once.{decides_once}
use Rattle.answers.specs.declared.Recovery.{Recovery}
use Rattle.answers.specs.declared.Recovery.TheVariants as recovery
use Rattle.lines.specs.Lines.{line, sealed_word, figures_word, fetch_word}
use Rattle.commands.specs.declared.Command.{Command}
use Rattle.commands.specs.declared.Command.TheVariants.{NewPlan, SetShift, SetSymbol, MarkOne, MarkRun, Recover, Seal, Show, Figures, Straight, Powers, Ruler, Fetch}
use Rattle.state.specs.State.{State, fresh, with_plan, with_block}
use Rattle.state.specs.Refusing.{refusal_of}
use Rattle.bits.specs.MarkedOnce.{marked_once}
use Rattle.act.specs.Meaning.{Means, Recovering, Sealing, Figuring, Listing, Marking}
use Rattle.act.proofs.RecoveringLaws.{recovery_line, recovery_state, recovering_is}
use Rattle.act.proofs.StateLaws.{place_inside, mark_inside, run_inside, shift_inside, recover_planned, seal_planned}
use Rattle.act.proofs.ActLaws.{blank_makes, straight_makes, powers_makes, ruler_makes}

-- a state that a job can be in: a plan that is held is good
pub record Standing (s : State) : Type 0 where
  pub good : s.planned ≡ true → plan_check s.plan ≡ Ok tt

-- ---- standing is kept

fresh_stands : {s : State} (p : Plan) → plan_check p ≡ Ok tt → s ≡ fresh p → Standing s
unfolding fresh
fresh_stands p g e = rw e (record { good = λ _. g })

block_stands : {s s' : State} (v m : List ℕ) → Standing s → s.planned ≡ true → s' ≡ with_block s v m → Standing s'
unfolding with_block
block_stands v m k planned e = rw e (record { good = λ _. k.good planned })

same_stands : {s s' : State} → Standing s → s' ≡ s → Standing s'
same_stands k e = rw e k

recovering_stands : {s s' : State} {text : List ℕ} → Standing s → s.planned ≡ true → Recovering s s' text → Standing s'
recovering_stands {s} {s'} k planned r = go r.answer refl
  where
    go : (a : Recovery) → r.answer ≡ a → Standing s'
    go recovery.Recovered e = block_stands _ _ k planned (r.recovered e).1
    go (recovery.Loose z) e = same_stands k (r.loose z e).1
    go (recovery.Crossed z) e = same_stands k (r.crossed z e).1
    go (recovery.Refused x) e = absurd (r.decides.not_refused x e)

-- a command that is not refused keeps a state standing
pub means_stands : {s s' : State} (text : List ℕ) → Standing s → (c : Command) → refusal_of s c ≡ Ok tt → Means c s s' text → Standing s'
unfolding Means with_plan refusal_of
means_stands {s} text k (NewPlan n t) e m = fresh_stands (plan_in (blank_of n t)) (answer_good _ ((blank_makes n t).good) e) m.0
means_stands {s} text k (SetShift j p) e m = let h = shift_inside s j p e in rw m.0 (record { good = λ _. shift_good s.plan j p (k.good h.0) h.2 })
means_stands {s} text k (SetSymbol c v) e m = block_stands _ _ k (place_inside s c v e).0 m.0.state
means_stands {s} text k (MarkOne c) e m = block_stands _ _ k (mark_inside s c e).0 m.0.state
means_stands {s} text k (MarkRun c n) e m = block_stands _ _ k (run_inside s c n e).0 m.0.state
means_stands {s} text k Recover e m = recovering_stands k (recover_planned s e) m
means_stands {s} text k Seal e m = block_stands _ _ k (seal_planned s e) m.state
means_stands {s} text k (Show c) e m = same_stands k m.0
means_stands {s} text k Figures e m = same_stands k m.state
means_stands {s} text k (Straight n t) e m = fresh_stands (plan_in (straight_of n t)) (answer_good _ ((straight_makes n t).good) e) m.0
means_stands {s} text k (Powers n t q) e m = fresh_stands (plan_in (powers_of n t q)) (answer_good _ ((powers_makes n t q).good) e) m.0
means_stands {s} text k (Ruler n) e m = fresh_stands (plan_in (ruler_of n)) (answer_good _ ((ruler_makes n).good) e) m.0
means_stands {s} text k Fetch e m = same_stands k m.stays

-- ---- one meaning

-- the same equations say the same
both : {a b s : State} {x y text : List ℕ} → (a ≡ s) × (x ≡ text) → (b ≡ s) × (y ≡ text) → (a ≡ b) × (x ≡ y)
both p q = (p.0 ∙ sym q.0, p.1 ∙ sym q.1)

marking_once : {s a b : State} {v : List ℕ} {c k n : ℕ} → Marking s a v c k n → Marking s b v c k n → a ≡ b
marking_once {s} {a} {b} {v} p q = p.state ∙ ap (with_block s v) (marked_once p.marked q.marked) ∙ sym q.state

marks_once : {s a b : State} {v x y : List ℕ} {c k n : ℕ} → Marking s a v c k n × (x ≡ []) → Marking s b v c k n × (y ≡ []) → (a ≡ b) × (x ≡ y)
marks_once p q = (marking_once p.0 q.0, p.1 ∙ sym q.1)

figuring_once : {s a b : State} {x y : List ℕ} → Figuring s a x → Figuring s b y → (a ≡ b) × (x ≡ y)
figuring_once {s} {a} {b} {x} {y} p q =
    let e = figures_unique p.figures q.figures in
    (p.state ∙ sym q.state, p.says ∙ ap (line figures_word) (cc (e.0, e.1, e.2, e.3)) ∙ sym q.says)

listing_once : {s a b : State} {x y : List ℕ} → Listing s a x → Listing s b y → (a ≡ b) × (x ≡ y)
listing_once p q =
    let e = fetch_list_once p.fetch q.fetch in
    (p.stays ∙ sym q.stays, p.says ∙ ap (λ l. line fetch_word (length l ∷ l)) e ∙ sym q.says)

-- the one codeword that carries the data
sealing_once : {s a b : State} {x y : List ℕ} → plan_check s.plan ≡ Ok tt → Sealing s a x → Sealing s b y → (a ≡ b) × (x ≡ y)
sealing_once {s} {a} {b} {x} {y} good p q =
    let e : p.places ≡ q.places = lists_unique p.message_places q.message_places in
    let f : p.block ≡ q.block =
    no_other_carries s.plan (good_valid s.plan good)
    (subst (λ l. Carries (layout_of s.plan) q.block (map (at s.block) l)) (sym e) q.carries) p.block p.carries in (
      p.state ∙ ap (λ v. with_block s v (replicate (mark_bytes (layout_of s.plan)) 0)) f ∙ sym q.state,
      p.says ∙ ap (λ l. line sealed_word (length l ∷ [])) e ∙ sym q.says,
    )

-- recovery decides one way, and shows one list
recovering_once : {s a b : State} {x y : List ℕ} → plan_check s.plan ≡ Ok tt → Recovering s a x → Recovering s b y → (a ≡ b) × (x ≡ y)
recovering_once {s} {a} {b} {x} {y} good p q =
    let o = decides_once (good_valid s.plan good) (erasures_erased (layout_of s.plan) s.marks) p.decides q.decides in
    let f = recovering_is p in
    let g = recovering_is q in
    (f.1 ∙ ap₂ (recovery_state s) o.0 o.1 ∙ sym g.1, f.0 ∙ ap₂ (recovery_line s) o.0 o.2 ∙ sym g.0)

-- a command that is not refused leaves one state and writes one text
pub means_once : {s a b : State} {x y : List ℕ} → Standing s → (c : Command) → refusal_of s c ≡ Ok tt → Means c s a x → Means c s b y → (a ≡ b) × (x ≡ y)
unfolding Means
means_once {s} k (NewPlan n t) e p q = both p q
means_once {s} k (SetShift j d) e p q = both p q
means_once {s} k (SetSymbol c v) e p q = marks_once p q
means_once {s} k (MarkOne c) e p q = marks_once p q
means_once {s} k (MarkRun c n) e p q = marks_once p q
means_once {s} k Recover e p q = recovering_once (k.good (recover_planned s e)) p q
means_once {s} k Seal e p q = sealing_once (k.good (seal_planned s e)) p q
means_once {s} k (Show c) e p q = both p q
means_once {s} k Figures e p q = figuring_once p q
means_once {s} k (Straight n t) e p q = both p q
means_once {s} k (Powers n t d) e p q = both p q
means_once {s} k (Ruler n) e p q = both p q
means_once {s} k Fetch e p q = listing_once p q
