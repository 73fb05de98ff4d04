-- What refuses a call (01, "What is turned away"): one definition for every entry; and the number of marked places.
-- Main definitions: check_of, also_lent, counted_of.
use Rattle.std.specs.Prelude.{Bool, true, ◌&&◌, List, ℕ, ◌+◌, ◌*◌, ◌/◌, eqb, length, take, Result, Option, None, Some}
use Rattle.refusals.specs.Refusals.{unless, ◌then◌, earlier, Check}
use Rattle.refusals.specs.declared.Refusal.{Refusal}
use Rattle.refusals.specs.declared.Refusal.TheVariants.{Length, Spare}
use Rattle.plan.specs.Layout.{message_count}
use Rattle.plan.specs.Plans.{layout_of, plan_check, count_of}
use Rattle.plan.specs.declared.Plan.{Plan}
use Rattle.code.specs.Marks.{erasures}
-- passed on: it is part of what refuses a call
unfoldable pub use Rattle.stretches.specs.Stretches.{none_from}
use Rattle.calls.specs.declared.Lent.{Lent}

-- a buffer that a call does not take
abbrev pub unlent : Option ℕ
unlent = None

-- a buffer that is lent has the plan's length; one that a call does not take is no matter
abbrev pub part_fits : Option ℕ → ℕ → Bool
part_fits None k = true
part_fits (Some m) k = eqb m k

-- the plan's lengths: block n × t, marks a bit per place in whole bytes, witness list 2t, message the number of message places
unfoldable pub lengths_fit : ℕ → ℕ → ℕ → Lent → Bool
lengths_fit n t count lent =
    part_fits lent.block (n * t) && part_fits lent.marks ((n * t + 7) / 8) && part_fits lent.witness (2 * t) && part_fits lent.message count

-- no spare bit of the marks is 1: in the bytes that so many places take, none from the first place past them on
unfoldable pub spare_clear : ℕ → List ℕ → Bool
spare_clear places m = none_from (take ((places + 7) / 8) m) places

-- 3, then 4; `fits`: every lent buffer has its length
unfoldable pub lent_check : ℕ → Bool → List ℕ → Check
lent_check places fits m = unless fits Length then unless (spare_clear places m) Spare

-- what refuses a call: 1 and 2 by the plan, then 3, then 4
unfoldable pub call_check : Plan → Bool → List ℕ → Check
call_check p fits m = plan_check p then lent_check (p.n * p.t) fits m

-- the same of a call whose buffers go by the plan
unfoldable pub check_of : Plan → Lent → List ℕ → Check
check_of p lent m = call_check p (lengths_fit p.n p.t (message_count (layout_of p)) lent) m

-- what refuses a call that is lent a further buffer; `fits`: that one has its length too. It counts with the other lengths: after 1 and 2, before 4 (also_length).
unfoldable pub also_lent : Check → Bool → Check
also_lent c fits = earlier c (unless fits Length)

-- what the count of marks is lent
unfoldable pub count_lent : List ℕ → Lent
count_lent m = record { block = unlent; marks = Some (length m); witness = unlent; message = unlent }

-- "The sheet gives the number of marked places, counted from the bits": refusals 1 to 4, else the number of marked places
unfoldable pub counted_of : Plan → List ℕ → Result ℕ Refusal
counted_of p m = count_of (check_of p (count_lent m) m) (length (erasures (layout_of p) m))
