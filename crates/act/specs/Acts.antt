-- The state of a job over lent buffers, and what it is to perform a command on them.
-- Main definitions: Held, state_of, Kept, Rest, Makes, Acts.
use Rattle.std.specs.Prelude.{is_some, ◌≡◌, true, List, [], ℕ, ◌*◌, ◌/◌, length, take, drop, Ok, Option, Result}
use Rattle.plan.specs.Plans.{no_plan, plan_in, layout_of, plan_check}
use Rattle.plan.specs.declared.Plan.{Plan}
use Rattle.refusals.specs.declared.Refusal.{Refusal}
use Rattle.refusals.specs.Refusals.{test_of}
use Rattle.std.specs.Option.{unwrap_or}
use Rattle.bounds.specs.Bounds.{max_places}
use Rattle.code.specs.Marks.{mark_bytes, NoSpare}
use Rattle.commands.specs.declared.Command.{Command}
use Rattle.state.specs.State.{State, fresh}
use Rattle.state.specs.Refusing.{refusal_of}
use Rattle.act.specs.Meaning.{Means}

-- the plan of a job, or none: Rust's Option<Plan>
abbrev pub Held : Type 0
Held = Option Plan

abbrev pub held_plan : Held → Plan
held_plan h = unwrap_or h no_plan

-- the buffers hold the largest block and its marks
abbrev pub block_length : ℕ
block_length = max_places

abbrev pub marks_length : ℕ
marks_length = max_places / 8

-- the state: its block is the first n × t of the block buffer, its marks the first bytes of the mark buffer
unfoldable pub state_of : Held → List ℕ → List ℕ → State
state_of h v m = record {
  planned = (is_some h);
  plan = (held_plan h);
  block = take ((held_plan h).n * (held_plan h).t) v;
  marks = take (mark_bytes (layout_of (held_plan h))) m;
}

-- what every command keeps: a plan that is held is good, its marks have no spare bit, the buffers have their lengths
pub record Kept (h : Held) (v m : List ℕ) : Type 0 where
  pub good : is_some h ≡ true → plan_check (held_plan h) ≡ Ok tt
  pub spare : is_some h ≡ true → NoSpare (layout_of (held_plan h)) (take (mark_bytes (layout_of (held_plan h))) m)
  pub block_long : length v ≡ block_length
  pub marks_long : length m ≡ marks_length

-- what stands past the state in the buffers is kept
pub record Rest (h' : Held) (v m v' m' : List ℕ) : Type 0 where
  pub block : drop ((held_plan h').n * (held_plan h').t) v' ≡ drop ((held_plan h').n * (held_plan h').t) v
  pub marks : drop (mark_bytes (layout_of (held_plan h'))) m' ≡ drop (mark_bytes (layout_of (held_plan h'))) m

-- a command that makes a plan: what refuses it is what refuses that plan, its meaning is that plan, fresh, and a plan that was made is good
pub record Makes (c : Command) (x : Result Plan Refusal) : Type 0 where
  pub refusal : (s : State) → refusal_of s c ≡ test_of x
  pub means : (s s' : State) → s' ≡ fresh (plan_in x) → Means c s s' []
  pub good : (p : Plan) → x ≡ Ok p → plan_check p ≡ Ok tt

-- a command that is not refused was performed: its meaning holds of the state before and after and of its text
pub record Acts (c : Command) (h : Held) (v m text : List ℕ) (h' : Held) (v' m' : List ℕ) : Type 0 where
  pub means : Means c (state_of h v m) (state_of h' v' m') text
  pub kept : Kept h' v' m'
  pub rest : Rest h' v m v' m'
