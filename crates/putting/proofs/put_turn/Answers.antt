-- By what the turn comes to.
use mathlib.Core.Path.{refl}
use native.Mathlib.Omega.{arith}
use Rattle.putting.specs.Putting.{on, ended, stopped, waits, bad}
use Rattle.putting.proofs.put_turn.Goals as goal

pub overflow_add-at : goal.overflow_add-at
overflow_add-at c = omega (arith, (c.requires.0.on _ _ c.in-On.is).1)

pub put_line-requires : goal.put_line-requires
put_line-requires c = ((c.requires.0.on _ _ c.in-On.is).0, c.requires.1)

pub put_line-requires-in-End : goal.put_line-requires-in-End
put_line-requires-in-End c = (c.requires.0.ended _ c.in-End.is, c.requires.1)

pub put_line-requires-in-Stop : goal.put_line-requires-in-Stop
put_line-requires-in-Stop c = (c.requires.0.stopped _ _ c.in-Stop.is, c.requires.1)

pub returns-in-On : goal.returns-in-On
returns-in-On c = let p = c.put_line.ensures in (p.0, on _ _ c.in-On.is p.1 p.2)

pub returns-in-End : goal.returns-in-End
returns-in-End c = let p = c.put_line-in-End.ensures in (p.0, ended _ c.in-End.is p.1 p.2)

pub returns-in-Stop : goal.returns-in-Stop
returns-in-Stop c = let p = c.put_line-in-Stop.ensures in (p.0, stopped _ _ c.in-Stop.is p.1 p.2)

pub returns-in-Wait : goal.returns-in-Wait
returns-in-Wait c = (refl, waits c.in-Wait.is refl refl refl refl)

pub returns-in-Bad : goal.returns-in-Bad
returns-in-Bad c = (refl, bad _ c.in-Bad.is refl refl refl refl)
