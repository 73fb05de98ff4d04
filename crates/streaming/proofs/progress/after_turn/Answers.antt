-- By what the turn comes to.
use mathlib.Core.Path.{refl}
use native.Mathlib.Omega.{arith}
use Rattle.stream.proofs.CourseLaws.{on_fits, end_fits, stop_fits, plus_none}
use borrow.Author.Rules.{rules}
use Rattle.streaming.proofs.progress.after_turn.Goals as goal

pub enum_known-turn : goal.enum_known-turn
enum_known-turn c = search rules

pub overflow_add-result : goal.overflow_add-result
overflow_add-result c = omega (arith, (on_fits _ _ c.in-On.is c.requires).0)

pub overflow_add-result-in-On : goal.overflow_add-result-in-On
overflow_add-result-in-On c = omega (arith, (on_fits _ _ c.in-On.is c.requires).1)

pub enum_told-1 : goal.enum_told-1
enum_told-1 c = search rules

pub enum_known-turn-in-End-1 : goal.enum_known-turn-in-End-1
enum_known-turn-in-End-1 c = search rules

pub overflow_add-result-in-End : goal.overflow_add-result-in-End
overflow_add-result-in-End c = omega (arith, end_fits _ _ c.in-End.is c.requires)

pub enum_known-turn-in-Stop-1 : goal.enum_known-turn-in-Stop-1
enum_known-turn-in-Stop-1 c = search rules

pub overflow_add-result-in-Stop : goal.overflow_add-result-in-Stop
overflow_add-result-in-Stop c = omega (arith, stop_fits _ _ c.in-Stop.is c.requires)

pub enum_told-in-Bad : goal.enum_told-in-Bad
enum_told-in-Bad c = search rules

pub returns-in-On : goal.returns-in-On
returns-in-On c = rw c.in-On.is (refl, refl, refl, refl)

pub returns-in-Wait : goal.returns-in-Wait
returns-in-Wait c = rw c.in-Wait.is (refl, plus_none _, plus_none _, refl)

pub returns-in-End : goal.returns-in-End
returns-in-End c = rw c.in-End.is (refl, plus_none _, refl, refl)

pub returns-in-Stop : goal.returns-in-Stop
returns-in-Stop c = rw c.in-Stop.is (refl, plus_none _, refl, refl)

pub returns-in-Bad : goal.returns-in-Bad
returns-in-Bad c = rw c.in-Bad.is (refl, plus_none _, plus_none _, refl)
