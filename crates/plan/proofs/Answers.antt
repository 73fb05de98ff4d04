-- The cases of the constructors' definitions as laws over plain numbers: which answer a failed or passed test gives.
use mathlib.Core.Path.{◌≡◌, sym, ◌∙◌}
use mathlib.Core.Bool.{Bool, true, false, not}
use mathlib.Core.List.{List, map}
use Prim.Native.Nat.{ℕ, ◌^◌, ◌%◌, ◌<◌, ◌≤◌}
use native.Mathlib.Omega.{arith}
use lib.Dec.{eqb}
use lib.ListN.{length, take, replicate}
use borrow.Author.Tests.{le-leb, lt-leb, eq-eqb, eqb-true, ne_eqb, not-true, not-false}
use Rattle.math.specs.Tests.{no_right}
use Rattle.math.specs.Members.{up_to}
use Rattle.refusals.specs.Refusals.{unless, Check}
use Rattle.refusals.proofs.RefusalLaws.{unless_pass, then_pass}
use Rattle.refusals.specs.declared.Refusal.{Refusal}
use Rattle.refusals.specs.declared.Refusal.TheVariants.{Size, Shift, Family}
use Rattle.std.specs.Prelude.{Ok, Err}
use Rattle.bounds.specs.Bounds.{size_fits, all_below}
use Rattle.families.specs.Families.{powers_need}
use Rattle.ruler.specs.Ruler.{ruler_t, ruler_shifts}
use Rattle.plan.specs.Plans.{plan, plan_check, check_by, shifts_check, answered, plan_of, blank_of, straight_of, powers_of, ruler_of}
use Rattle.plan.specs.declared.Plan.{Plan}

-- a test that the code negates
pub failed : (r : Bool) {b : Bool} → r ≡ b → not r ≡ true → b ≡ false
failed r e h = sym e ∙ not-true r h

pub passed : (r : Bool) {b : Bool} → r ≡ b → not r ≡ false → b ≡ true
passed r e h = sym e ∙ not-false r h

module _ (n t : ℕ) where
  pub straight_size : size_fits n t ≡ false → Err Size ≡ straight_of n t
  unfolding straight_of answered
  straight_size e = simp e

  pub straight_not : size_fits n t ≡ true → t < n → Err Family ≡ straight_of n t
  unfolding straight_of answered
  straight_not e h = simp (e, lt-leb n t h)

  pub straight_made : size_fits n t ≡ true → n ≤ t → Ok (plan n t (up_to n)) ≡ straight_of n t
  unfolding straight_of answered
  straight_made e h = simp (e, le-leb n t h)

module _ (n t q : ℕ) where
  pub powers_size : size_fits n t ≡ false → Err Size ≡ powers_of n t q
  unfolding powers_of answered
  powers_size e = simp e

  pub powers_not : size_fits n t ≡ true → powers_need n t q ≡ false → Err Family ≡ powers_of n t q
  unfolding powers_of answered
  powers_not e f = simp (e, f)

  pub powers_made : size_fits n t ≡ true → powers_need n t q ≡ true → Ok (plan n t (map (λ j. q ^ j % t) (up_to n))) ≡ powers_of n t q
  unfolding powers_of answered
  powers_made e f = simp (e, f)

module _ (n : ℕ) where
  pub ruler_few : n < 2 → Err Size ≡ ruler_of n
  unfolding ruler_of answered
  ruler_few h = simp (lt-leb 2 n h)

  pub ruler_many : 32 < n → Err Size ≡ ruler_of n
  unfolding ruler_of answered
  ruler_many h = simp (lt-leb n 32 h, no_right)

  pub ruler_below : 2 ≤ n → n < 3 → Err Family ≡ ruler_of n
  unfolding ruler_of answered
  ruler_below h g = let k : n ≤ 32 = omega arith in simp (le-leb 2 n h, le-leb n 32 k, lt-leb 3 n g)

  pub ruler_above : n ≤ 32 → 14 < n → Err Family ≡ ruler_of n
  unfolding ruler_of answered
  ruler_above h g = let k : 2 ≤ n = omega arith in simp (le-leb 2 n k, le-leb n 32 h, lt-leb n 14 g, no_right)

  pub ruler_made : {t : ℕ} → t ≡ ruler_t n → 3 ≤ n → n ≤ 14 → Ok (plan n t (ruler_shifts n)) ≡ ruler_of n
  unfolding ruler_of answered
  ruler_made e h g =
      let k : 2 ≤ n = omega arith in
      let l : n ≤ 32 = omega arith in
      simp (e, le-leb 2 n k, le-leb n 32 l, le-leb 3 n h, le-leb n 14 g)

module _ (n t : ℕ) where
  pub blank_size : size_fits n t ≡ false → Err Size ≡ blank_of n t
  unfolding blank_of answered
  blank_size e = simp e

  pub blank_made : size_fits n t ≡ true → Ok (plan n t (replicate n 0)) ≡ blank_of n t
  unfolding blank_of answered
  blank_made e = simp e

module _ (n t : ℕ) (s : List ℕ) where
  pub shifts_count : (length s ≡ n → ⊥) → Err Shift ≡ shifts_check n t s
  unfolding shifts_check
  shifts_count h = simp (ne_eqb (length s) n h)

  pub shifts_below : length s ≡ n → all_below t s ≡ false → Err Shift ≡ shifts_check n t s
  unfolding shifts_check
  shifts_below h f = simp (eq-eqb (length s) n h, f)

  pub shifts_pass : length s ≡ n → all_below t s ≡ true → (Ok tt) ≡ shifts_check n t s
  unfolding shifts_check
  shifts_pass h f = simp (eq-eqb (length s) n h, f)

  pub shifts_long : shifts_check n t s ≡ Ok tt → length s ≡ n
  unfolding shifts_check
  shifts_long e = eqb-true (length s) n (unless_pass _ Shift (then_pass (unless (eqb (length s) n) Shift) _ e).0)

  pub of_size : size_fits n t ≡ false → Err Size ≡ plan_of n t s
  unfolding plan_of check_by answered
  of_size e = simp e

  pub of_refused : {x : Refusal} → size_fits n t ≡ true → shifts_check n t s ≡ Err x → Err x ≡ plan_of n t s
  unfolding plan_of check_by answered
  of_refused e f = simp (e, f)

  pub of_made : size_fits n t ≡ true → shifts_check n t s ≡ Ok tt → Ok (plan n t s) ≡ plan_of n t s
  unfolding plan_of check_by answered
  of_made e f = simp (e, f)

module _ (p : Plan) where
  pub check_size : size_fits p.n p.t ≡ false → Err Size ≡ plan_check p
  unfolding plan_check check_by
  check_size e = simp e

  pub check_shifts : {c : Check} → size_fits p.n p.t ≡ true → c ≡ shifts_check p.n p.t (take p.n p.shifts) → c ≡ plan_check p
  unfolding plan_check check_by
  check_shifts e f = f ∙ simp e
