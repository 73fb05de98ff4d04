-- 01, "What is turned away": the number of each refusal, and how tests follow each other.
-- Main definitions: number_of, Check, check_number, test_of, count_value, unless, _then_, rank_of, earlier.
use Rattle.std.specs.Prelude.{Bool, true, false, cond, ℕ, leb, Result, Ok, Err}
use Rattle.std.specs.Result.{result_unwrap_or}
use Rattle.refusals.specs.declared.Refusal.{Refusal}
use Rattle.refusals.specs.declared.Refusal.TheVariants.{Size, Shift, Length, Spare, Crossed, Loose, Command, Short, Early, Family}

-- the table's numbers. Document 02, N4: "strike number 11 from the table"; "the number isn't used again" (not_eleven).
abbrev pub number_of : Refusal → ℕ
number_of Size = 1
number_of Shift = 2
number_of Length = 3
number_of Spare = 4
number_of Crossed = 5
number_of Loose = 6
number_of Command = 7
number_of Short = 8
number_of Early = 9
number_of Family = 10

-- the answer of a test: it passes, or stops at a refusal
abbrev pub Check : Type 0
Check = Result (Unit {0}) Refusal

-- the number of an answer: "Success is 0."
abbrev pub check_number : {T : Type 0} → Result T Refusal → ℕ
check_number (Ok v) = 0
check_number (Err x) = number_of x

-- the test that an answer passed, or stopped at
abbrev pub test_of : {T : Type 0} → Result T Refusal → Check
test_of (Ok v) = Ok tt
test_of (Err x) = Err x

-- a number that was asked for; 0 beside a refusal
abbrev pub count_value : Result ℕ Refusal → ℕ
count_value r = result_unwrap_or r 0

-- a test: where it fails, the refusal
abbrev pub unless : Bool → Refusal → Check
unless true x = Ok tt
unless false x = Err x

-- one test, and where it passes the next: the order of the table
infixr 20 ◌then◌
abbrev pub ◌then◌ : Check → Check → Check
Ok tt then c = c
Err x then c = Err x

-- the place of a refusal in the order of tests: "Order 1, 2, 3, 4; then 5 and 6 exclude each other. 10 follows 1 .. In a job: 7, 8, 9, then the others."
abbrev pub rank_of : Refusal → ℕ
rank_of Command = 0
rank_of Short = 1
rank_of Early = 2
rank_of Size = 3
rank_of Family = 4
rank_of Shift = 5
rank_of Length = 6
rank_of Spare = 7
rank_of Crossed = 8
rank_of Loose = 9

-- whichever of two is asked first
abbrev pub first_of : Refusal → Refusal → Refusal
first_of x y = cond (leb (rank_of x) (rank_of y)) x y

-- two tests of one call, whatever order they were made in: the one that stops first by the order above; it passes where both do
abbrev pub earlier : Check → Check → Check
earlier (Ok tt) c = c
earlier (Err x) (Ok tt) = Err x
earlier (Err x) (Err y) = Err (first_of x y)
