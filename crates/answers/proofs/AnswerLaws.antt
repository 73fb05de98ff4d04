-- No answer has the number that document 02 struck from the table of refusals.
-- Main results: recovery_not_eleven, reading_not_eleven.
use Rattle.std.specs.Prelude.{◌≢◌}
use Rattle.std.proofs.Common.{arith}
use Rattle.refusals.proofs.RefusalLaws.{not_eleven}
use Rattle.answers.specs.Answers.{recovery_number, reading_number}
use Rattle.answers.specs.declared.Recovery.{Recovery}
use Rattle.answers.specs.declared.Recovery.TheVariants as recovery
use Rattle.answers.specs.declared.Reading.{Reading}
use Rattle.answers.specs.declared.Reading.TheVariants as reading

pub recovery_not_eleven : (a : Recovery) → recovery_number a ≢ 11
recovery_not_eleven recovery.Recovered e = omega (arith, e)
recovery_not_eleven (recovery.Crossed z) e = omega (arith, e)
recovery_not_eleven (recovery.Loose z) e = omega (arith, e)
recovery_not_eleven (recovery.Refused x) e = not_eleven x e

pub reading_not_eleven : (a : Reading) → reading_number a ≢ 11
reading_not_eleven reading.Read e = omega (arith, e)
reading_not_eleven reading.Crossed e = omega (arith, e)
reading_not_eleven (reading.Refused x) e = not_eleven x e
