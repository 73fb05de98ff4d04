-- The number and values of the answers of recover and message_of.
use Rattle.std.specs.Prelude.{ℕ}
use Rattle.refusals.specs.Refusals.{number_of}
use Rattle.refusals.specs.declared.Refusal.TheVariants as refusal
use Rattle.answers.specs.declared.Recovery.{Recovery}
use Rattle.answers.specs.declared.Recovery.TheVariants as recovery
use Rattle.answers.specs.declared.Reading.{Reading}
use Rattle.answers.specs.declared.Reading.TheVariants as reading

abbrev pub recovery_number : Recovery → ℕ
recovery_number recovery.Recovered = 0
recovery_number (recovery.Crossed z) = number_of refusal.Crossed
recovery_number (recovery.Loose z) = number_of refusal.Loose
recovery_number (recovery.Refused x) = number_of x

-- the count that goes with the witness list
abbrev pub recovery_count : Recovery → ℕ
recovery_count recovery.Recovered = 0
recovery_count (recovery.Crossed z) = z
recovery_count (recovery.Loose z) = z
recovery_count (recovery.Refused x) = 0

abbrev pub reading_number : Reading → ℕ
reading_number reading.Read = 0
reading_number reading.Crossed = number_of refusal.Crossed
reading_number (reading.Refused x) = number_of x
