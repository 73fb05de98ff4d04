-- Reading a command (01, "The job and its sheet"): "Commands are one hex byte, operands unsigned, low byte first, width in bytes in brackets." Document 02 adds 0D, which has no operand.
use Rattle.std.specs.Prelude.{cond, List, [], ◌∷◌, ℕ, ◌+◌, ◌*◌, eqb, ltb, length, get_or, Ok, Err}
use Rattle.refusals.specs.declared.Refusal.TheVariants as refusal
use Rattle.refusals.specs.Refusals.{Check}
use Rattle.commands.specs.declared.Command.{Command}
use Rattle.commands.specs.declared.Command.TheVariants.{NewPlan, SetShift, SetSymbol, MarkOne, MarkRun, Recover, Seal, Show, Figures, Straight, Powers, Ruler, Fetch}
use Rattle.commands.specs.declared.Parsed.{Parsed}
use Rattle.commands.specs.declared.Parsed.TheVariants.{Whole, Unknown, Short, Nothing}

-- the bytes that a command takes, its first byte among them; 0: no such command
unfoldable pub size_of : ℕ → ℕ
size_of b =
    cond (eqb b 0x01) 4 (cond (eqb b 0x02) 4 (cond (eqb b 0x03) 4 (cond (eqb b 0x04) 3 (cond (eqb b 0x05) 5 (cond (eqb b 0x06) 1
    (cond (eqb b 0x07) 1 (cond (eqb b 0x08) 3 (cond (eqb b 0x09) 1 (cond (eqb b 0x0A) 4 (cond (eqb b 0x0B) 6 (cond (eqb b 0x0C) 2
    (cond (eqb b 0x0D) 1 0))))))))))))

-- no command is longer (size_most)
abbrev pub longest : ℕ
longest = 6

-- a byte, and a two-byte number, low byte first
abbrev pub one : List ℕ → ℕ → ℕ
one s i = get_or s i 0

abbrev pub two : List ℕ → ℕ → ℕ
two s i = get_or s i 0 + 256 * get_or s (i + 1) 0

-- the command that begins with a known first byte
unfoldable pub command_of : List ℕ → Command
command_of s =
    cond (eqb (one s 0) 0x01) (NewPlan (one s 1) (two s 2))
    (cond (eqb (one s 0) 0x02) (SetShift (one s 1) (two s 2))
    (cond (eqb (one s 0) 0x03) (SetSymbol (two s 1) (one s 3))
    (cond (eqb (one s 0) 0x04) (MarkOne (two s 1))
    (cond (eqb (one s 0) 0x05) (MarkRun (two s 1) (two s 3))
    (cond (eqb (one s 0) 0x06) Recover
    (cond (eqb (one s 0) 0x07) Seal
    (cond (eqb (one s 0) 0x08) (Show (two s 1))
    (cond (eqb (one s 0) 0x09) Figures
    (cond (eqb (one s 0) 0x0A) (Straight (one s 1) (two s 2))
    (cond (eqb (one s 0) 0x0B) (Powers (one s 1) (two s 2) (two s 4))
    (cond (eqb (one s 0) 0x0C) (Ruler (one s 1))
    Fetch)))))))))))

-- what stands at the front of the bytes: an unknown first byte goes before a cut-off command
unfoldable pub parsed : List ℕ → Parsed
parsed [] = Nothing
parsed (b ∷ rest) =
    cond (eqb (size_of b) 0) Unknown (cond (ltb (length (b ∷ rest)) (size_of b)) Short (Whole (command_of (b ∷ rest))))

-- 7, command: "unknown first byte in a job"; 8, short: "the job ends inside a command"
abbrev pub parsed_check : Parsed → Check
parsed_check (Whole c) = Ok tt
parsed_check Unknown = Err refusal.Command
parsed_check Short = Err refusal.Short
parsed_check Nothing = Ok tt
