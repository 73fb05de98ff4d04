-- The laws of the cursor: what is at hand after it is carried over.
-- Main results: drop_take, hand_carried; carried_none, carried_some.
use Rattle.std.specs.Prelude.{◌≡◌, refl, List, [], ◌∷◌, ◌++◌, ℕ, zero, suc, ◌-◌, ◌≤◌, ◌<◌, min, length, take, drop}
use Rattle.std.proofs.Common.{sym, ◌∙◌, ap, arith, length-take, length-drop, take_all, take_at, length-take-le}
use Rattle.std.proofs.Math.Logic.{by_cases}
use Rattle.std.proofs.Math.Decide.{dec_le}
use Rattle.std.proofs.Math.Seq.{take-nil}
use Rattle.reading.specs.Cursors.{hand, carried_of}
use Rattle.reading.specs.declared.Cursor.{Cursor}

-- ---- what is at hand

pub drop_take : (k j : ℕ) (l : List ℕ) → drop k (take j l) ≡ take (j - k) (drop k l)
drop_take zero j l = let e : j - 0 ≡ j = omega arith in rw e
drop_take (suc k) zero l = let e : 0 - suc k ≡ 0 = omega arith in rw e
drop_take (suc k) (suc j) [] = sym (take-nil (suc j - suc k))
drop_take (suc k) (suc j) (x ∷ l) = let e : suc j - suc k ≡ j - k = omega arith in drop_take k j l ∙ ap (λ n. take n (drop k l)) (sym e)

front_is : (h rest : List ℕ) → take (length h - 0) (h ++ rest) ≡ h
front_is h rest = take_at h rest (length h - 0) (omega arith)

-- carried over, the same bytes are at hand
pub hand_carried : (c : Cursor) (buffer : List ℕ) → hand (carried_of c buffer) (hand c buffer ++ drop (length (hand c buffer)) buffer) ≡ hand c buffer
unfolding hand carried_of
hand_carried c buffer = front_is (take (c.end - c.at) (drop c.at buffer)) (drop (length (take (c.end - c.at) (drop c.at buffer))) buffer)

-- ---- carried

pub none_empty : (l : List ℕ) → length l ≡ 0 → l ≡ []
none_empty [] e = refl
none_empty (x ∷ l) e = absurd (omega arith)

pub carried_none : (c : Cursor) (buffer : List ℕ) (e : ℕ) → e ≡ min c.end (length buffer) → e < c.at →
    (record { at = 0; end = 0; offset = c.offset } ≡ carried_of c buffer) × (buffer ≡ hand c buffer ++ drop (length (hand c buffer)) buffer)
unfolding hand carried_of
carried_none c buffer e f h = rw nothing (refl, refl)
  where
    nothing : take (c.end - c.at) (drop c.at buffer) ≡ []
    nothing = none_empty _ (omega (arith, length-take (c.end - c.at) (drop c.at buffer), length-drop c.at buffer))

pub carried_some : (c : Cursor) (buffer : List ℕ) (e : ℕ) → e ≡ min c.end (length buffer) → c.at ≤ e → {buffer' : List ℕ} →
    buffer' ≡ take (e - c.at) (drop c.at buffer) ++ drop (e - c.at) buffer →
    (record { at = 0; end = e - c.at; offset = c.offset } ≡ carried_of c buffer) × (buffer' ≡ hand c buffer ++ drop (length (hand c buffer)) buffer)
unfolding hand carried_of
carried_some c buffer e f h {buffer'} g = rw (← same, long) (refl, g)
  where
    same : take (e - c.at) (drop c.at buffer) ≡ take (c.end - c.at) (drop c.at buffer)
    same = by_cases (dec_le c.end (length buffer))
        (λ l. let q : e ≡ c.end = omega arith in rw q)
        (λ n. take_all (e - c.at) (drop c.at buffer) (omega (arith, length-drop c.at buffer))
        ∙ sym (take_all (c.end - c.at) (drop c.at buffer) (omega (arith, length-drop c.at buffer))))

    long : length (take (e - c.at) (drop c.at buffer)) ≡ e - c.at
    long = length-take-le (e - c.at) (drop c.at buffer) (omega (arith, length-drop c.at buffer))
