-- First lines of a job: every sheet of the rest completes them, and every sheet of the job begins with them.
-- Main definition: Begins. Main results: begins_more, begins_stands, begins_sheet, begins_longer; held_start; left_less.
use Rattle.std.specs.Prelude.{◌≡◌, refl, cond, List, [], ◌++◌, ℕ, suc, ◌+◌, ◌-◌, ◌≤◌, ◌<◌, eqb, get_or, drop, Ok}
use Rattle.std.proofs.Common.{sym, ◌∙◌, ap, subst, append_assoc, arith, length-drop, eq-eqb, ne_eqb, drop-drop}
use Rattle.std.proofs.Math.Logic.{by_cases}
use Rattle.std.proofs.Math.Decide.{ℕ_discrete}
use Rattle.std.proofs.Math.ListN.{get_or-append}
use Rattle.std.proofs.lemmas.List.{drop-append-le}
use Rattle.plan.specs.Layout.{layout}
use Rattle.plan.specs.Plans.{no_plan, plan, layout_of}
use Rattle.code.specs.Marks.{mark_bytes}
use Rattle.commands.specs.Commands.{size_of, parsed}
use Rattle.commands.specs.declared.Command.{Command}
use Rattle.commands.specs.declared.Parsed.TheVariants.{Whole}
use Rattle.state.specs.State.{State}
use Rattle.state.specs.Refusing.{refusal_of}
use Rattle.act.specs.Meaning.{Means}
use Rattle.act.specs.Acts.{state_of}
use Rattle.act.proofs.MeaningOnce.{Standing, means_stands, means_once}
use Rattle.turns.specs.Sheets as sheets
use Rattle.turns.specs.Sheets.{Sheet, start}
use Rattle.turns.specs.Turns.{unplanned}
use Rattle.one_sheet.specs.ParsedLaws.{zero_one, whole_size, parsed_prefix}
use Rattle.one_sheet.specs.OneSheet.{start_stands, sheet_goes}

-- the lines of a job's first commands, which lead to this offset and this state
pub data Begins (job : List ℕ) : ℕ → State → List ℕ → Type 0 where
  nothing_yet : Begins job 0 start []
  one_more : {o : ℕ} {s : State} {text : List ℕ} → Begins job o s text → (c : Command) (s' : State) (said : List ℕ) → parsed (drop o job) ≡ Whole c →
      refusal_of s c ≡ Ok tt → Means c s s' said → Begins job (o + size_of (get_or (drop o job) 0 0)) s' (text ++ said)

-- every sheet of the rest completes first lines to a sheet of the job
pub begins_more : {job : List ℕ} {o : ℕ} {s : State} {text : List ℕ} → Begins job o s text → (rest : List ℕ) → Sheet o s (drop o job) rest → Sheet 0 start job (text ++ rest)
begins_more nothing_yet rest t = t
begins_more {job} (one_more {o = o} {s = s} {text = text} b c s' said p z m) rest t =
    subst (Sheet 0 start job) (sym (append_assoc text said rest))
    (begins_more b (said ++ rest) (sheets.goes_on {o = o} {s = s} {b = drop o job} s' said rest c p z m
    (rw (drop-drop (size_of (get_or (drop o job) 0 0)) o job) t)))

pub begins_stands : {job : List ℕ} {o : ℕ} {s : State} {text : List ℕ} → Begins job o s text → Standing s
begins_stands nothing_yet = start_stands
begins_stands (one_more b c s' said p z m) = means_stands said (begins_stands b) c z m

-- a text is the first part of another, and the rest is a sheet
pub record Starts (o : ℕ) (s : State) (b text x : List ℕ) : Type 0 where
  pub rest : List ℕ
  pub follows : Sheet o s b rest
  pub parts : x ≡ text ++ rest

-- every sheet of the job starts with its first lines, and goes on with a sheet of the rest
pub begins_sheet : {job : List ℕ} {o : ℕ} {s : State} {text x : List ℕ} → Begins job o s text → Sheet 0 start job x → Starts o s (drop o job) text x
begins_sheet {x = x} nothing_yet t = record { rest = x; follows = t; parts = refl }
begins_sheet {job} (one_more {o = o} {s = s} {text = text} b c s' said p z m) t =
    let r = begins_sheet b t in
    let g = sheet_goes c r.follows p z in
    let w = means_once (begins_stands b) c z m g.means in
    let size = size_of (get_or (drop o job) 0 0) in
    record {
      rest = g.rest;
      follows = subst (λ y. Sheet (o + size) s' y g.rest) (drop-drop size o job)
          (subst (λ (y : State). Sheet (o + size) y (drop size (drop o job)) g.rest) (sym w.0) g.follows);
      parts = r.parts ∙ ap (λ y. text ++ y) (g.parts ∙ ap (λ y. y ++ g.rest) (sym w.1)) ∙ sym (append_assoc text said g.rest);
    }

-- more bytes behind them change nothing
pub begins_longer : {job : List ℕ} {o : ℕ} {s : State} {text : List ℕ} (z : List ℕ) → Begins job o s text → Begins (job ++ z) o s text
begins_longer z nothing_yet = nothing_yet
begins_longer {job} z (one_more {o = o} {text = text} b c s' said p x m) =
    let y = whole_size (drop o job) c p in
    let d = length-drop o job in
    let cut : drop o (job ++ z) ≡ drop o job ++ z = drop-append-le o job z (omega arith) in
    let same : get_or (drop o (job ++ z)) 0 0 ≡ get_or (drop o job) 0 0 = ap (λ q. get_or q 0 0) cut ∙ get_or-append (drop o job) z 0 0 (omega arith) in
    let whole : parsed (drop o (job ++ z)) ≡ Whole c = ap parsed cut ∙ parsed_prefix (drop o job) z (λ q. zero_one (cc)) (λ q. zero_one (cc)) ∙ p in
    subst (λ q. Begins (job ++ z) (o + size_of q) s' (text ++ said)) same (one_more (begins_longer z b) c s' said whole x m)

-- a job starts with no plan
pub held_start : (v m : List ℕ) → state_of unplanned v m ≡ start
unfolding state_of start no_plan plan mark_bytes layout_of layout
held_start v m = refl

-- ---- a loop over the commands of n bytes: where it halts, or else the index in them, rises

-- what is left to do: the commands that the rest can hold, and what is wanted then
abbrev pub left : ℕ → ℕ → ℕ → ℕ
left halt at n = cond (eqb halt 0) (suc n - at) 0

pub left_less : (halt at n halt' at' : ℕ) → halt ≡ 0 → at ≤ n → (halt' ≡ 0 → at < at') → left halt' at' n < left halt at n
left_less halt at n halt' at' e h g =
    by_cases (ℕ_discrete halt' 0)
    (λ z. rw (eq-eqb halt 0 e, eq-eqb halt' 0 z) (omega (arith, g z)))
    (λ o. rw (eq-eqb halt 0 e, ne_eqb halt' 0 o) (omega arith))
