-- Each number stands for one refusal, none for success, and 11 for nothing; what a check that passes, or stops, says of the tests in it.
-- Main results: number_some, number_byte, not_eleven, number_once; check_not_eleven, check_number_byte, check_number_zero, check_number_stop; pass_not_stop, answer_not_stop, handed_on, stop_or_pass, dec_pass, stop_same, unless_pass, then_pass; ranked, earlier_pass, then_earlier.
use Rattle.std.specs.Prelude.{◌≡◌, refl, ◌≢◌, ◌⊎◌, Bool, true, false, cond, ℕ, ◌≤◌, ◌<◌, eqb, Result, Ok, Err, IsErrAnd}
use Rattle.std.proofs.Common.{sym, ◌∙◌, ap, inl, inr, arith, le-leb}
use Rattle.std.proofs.lemmas.Bool.{lt-leb}
use Rattle.std.proofs.lemmas.Result.{err_from_is_err_and}
use Rattle.refusals.specs.Refusals.{number_of, Check, check_number, unless, ◌then◌, rank_of, first_of, earlier}
use Rattle.refusals.specs.declared.Refusal.{Refusal}
use Rattle.refusals.specs.declared.Refusal.TheVariants.{Size, Shift, Length, Spare, Crossed, Loose, Command, Short, Early, Family}

-- "Success is 0"; a number is a byte, as the C entries answer it; 11 is struck
number_within : (x : Refusal) → (0 < number_of x) × (number_of x < 256) × (number_of x ≢ 11)
number_within Size = (omega arith, omega arith, λ e. omega (arith, e))
number_within Shift = (omega arith, omega arith, λ e. omega (arith, e))
number_within Length = (omega arith, omega arith, λ e. omega (arith, e))
number_within Spare = (omega arith, omega arith, λ e. omega (arith, e))
number_within Crossed = (omega arith, omega arith, λ e. omega (arith, e))
number_within Loose = (omega arith, omega arith, λ e. omega (arith, e))
number_within Command = (omega arith, omega arith, λ e. omega (arith, e))
number_within Short = (omega arith, omega arith, λ e. omega (arith, e))
number_within Early = (omega arith, omega arith, λ e. omega (arith, e))
number_within Family = (omega arith, omega arith, λ e. omega (arith, e))

pub number_some : (x : Refusal) → 0 < number_of x
number_some x = (number_within x).0

pub number_byte : (x : Refusal) → number_of x < 256
number_byte x = (number_within x).1

-- document 02, N4: "the number isn't used again"
pub not_eleven : (x : Refusal) → number_of x ≢ 11
not_eleven x = (number_within x).2

-- the refusal of a number, by which no two have the same
named : ℕ → Refusal
named n =
    cond (eqb n 1) Size (cond (eqb n 2) Shift (cond (eqb n 3) Length (cond (eqb n 4) Spare (cond (eqb n 5) Crossed (cond (eqb n 6) Loose (cond (eqb n 7) Command
    (cond (eqb n 8) Short (cond (eqb n 9) Early Family))))))))

named_back : (x : Refusal) → named (number_of x) ≡ x
unfolding named
named_back Size = refl
named_back Shift = refl
named_back Length = refl
named_back Spare = refl
named_back Crossed = refl
named_back Loose = refl
named_back Command = refl
named_back Short = refl
named_back Early = refl
named_back Family = refl

pub number_once : (x y : Refusal) → number_of x ≡ number_of y → x ≡ y
number_once x y e = sym (named_back x) ∙ ap named e ∙ named_back y

pub check_not_eleven : {T : Type 0} (c : Result T Refusal) → check_number c ≢ 11
check_not_eleven (Ok v) e = omega (arith, e)
check_not_eleven (Err x) e = not_eleven x e

pub check_number_byte : {T : Type 0} (c : Result T Refusal) → check_number c < 256
check_number_byte (Ok v) = omega arith
check_number_byte (Err x) = number_byte x

pub check_number_zero : (c : Check) → check_number c ≡ 0 → c ≡ Ok tt
check_number_zero (Ok tt) e = refl
check_number_zero (Err x) e = absurd (omega (arith, number_some x, e))

pub check_number_stop : (c : Check) (x : Refusal) → check_number c ≡ number_of x → c ≡ Err x
check_number_stop (Ok tt) x e = absurd (omega (arith, number_some x, e))
check_number_stop (Err y) x e = ap Err (number_once y x e)

pub pass_not_stop : (x : Refusal) → ◌≡◌ {A = Check} (Ok tt) (Err x) → ⊥
pass_not_stop x e = let z : 0 ≡ number_of x = ap check_number e in omega (arith, number_some x)

-- the same of any answer
pub answer_not_stop : {T : Type 0} {v : T} (x : Refusal) → ◌≡◌ {A = Result T Refusal} (Ok v) (Err x) → ⊥
answer_not_stop x e = let z : 0 ≡ number_of x = ap check_number e in omega (arith, number_some x)

-- what a `?` hands on is the refusal that it met
pub handed_on : {T : Type 0} (r : Result T Refusal) {x : Refusal} → IsErrAnd r (λ y. y ≡ x) → r ≡ Err x
handed_on r h = let p = err_from_is_err_and r h in p.1 ∙ ap Err p.2

pub stop_or_pass : (c : Check) → (c ≡ Ok tt) ⊎ ((x : Refusal) × (c ≡ Err x))
stop_or_pass (Ok tt) = inl refl
stop_or_pass (Err x) = inr (x, refl)

pub dec_pass : (c : Check) → Dec (c ≡ Ok tt)
dec_pass (Ok tt) = yes refl
dec_pass (Err x) = no (λ e. pass_not_stop x (sym e))

pub stop_same : {x y : Refusal} → ◌≡◌ {A = Check} (Err x) (Err y) → x ≡ y
stop_same {x} {y} e = number_once x y (ap check_number e)

pub unless_pass : (b : Bool) (x : Refusal) → unless b x ≡ Ok tt → b ≡ true
unless_pass true x e = refl
unless_pass false x e = absurd (pass_not_stop x (sym e))

pub then_pass : (a b : Check) → (a then b) ≡ Ok tt → (a ≡ Ok tt) × (b ≡ Ok tt)
then_pass (Ok tt) b e = (refl, e)
then_pass (Err x) b e = absurd (pass_not_stop x (sym e))

-- "Order 1, 2, 3, 4; then 5 and 6"; "10 follows 1 .. In a job: 7, 8, 9, then the others."
pub ranked : (rank_of Size < rank_of Shift) × (rank_of Shift < rank_of Length) × (rank_of Length < rank_of Spare) × (rank_of Spare < rank_of Crossed) × (rank_of Spare < rank_of Loose)
    × (rank_of Size < rank_of Family) × (rank_of Command < rank_of Short) × (rank_of Short < rank_of Early) × (rank_of Early < rank_of Size)
ranked = (omega arith, omega arith, omega arith, omega arith, omega arith, omega arith, omega arith, omega arith, omega arith)

-- which of two refusals is asked first, by their ranks a and b
pub first_left : (x y : Refusal) {a b : ℕ} → a ≡ rank_of x → b ≡ rank_of y → a ≤ b → x ≡ first_of x y
first_left x y e f h = rw (le-leb (rank_of x) (rank_of y) (omega arith))

pub first_right : (x y : Refusal) {a b : ℕ} → a ≡ rank_of x → b ≡ rank_of y → b < a → y ≡ first_of x y
first_right x y e f h = rw (lt-leb (rank_of x) (rank_of y) (omega arith))

-- the tests as they came out
pub earlier_by : {a b c d : Check} → a ≡ c → b ≡ d → earlier c d ≡ earlier a b
earlier_by e f = rw (e, f)

pub earlier_pass : (a b : Check) → earlier a b ≡ Ok tt → (a ≡ Ok tt) × (b ≡ Ok tt)
earlier_pass (Ok tt) b e = (refl, e)
earlier_pass (Err x) (Ok tt) e = absurd (pass_not_stop x (sym e))
earlier_pass (Err x) (Err y) e = absurd (pass_not_stop _ (sym e))

-- tests that are made in the order of the table: the one that stops first is the first
pub then_earlier : (a b : Check) → ((x y : Refusal) → a ≡ Err x → b ≡ Err y → rank_of x ≤ rank_of y) → (a then b) ≡ earlier a b
then_earlier (Ok tt) b h = refl
then_earlier (Err x) (Ok tt) h = refl
then_earlier (Err x) (Err y) h = rw (le-leb (rank_of x) (rank_of y) (h x y refl refl))
