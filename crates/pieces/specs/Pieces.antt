-- The pieces of a line: numbers in base ten, each with a space before it; a text put at an index of a buffer.
use Rattle.std.specs.Prelude.{◌≡◌, cond, List, [], ◌∷◌, ◌++◌, ℕ, zero, suc, ◌+◌, ◌^◌, ltb, length, take, drop}
use Rattle.io.specs.Digits.{last_digits}

-- the number of decimal digits of n, at least 1: the fewest that hold it (searched from k on)
unfoldable pub width_from : ℕ → ℕ → ℕ → ℕ
width_from zero k n = k
width_from (suc fuel) k n = cond (ltb n (10 ^ k)) k (width_from fuel (suc k) n)

-- a number in base ten, in full for numbers below 2 ^ 64 (decimal_full)
unfoldable pub decimal : ℕ → List ℕ
decimal n = last_digits 10 (width_from 20 1 n) n

-- each number with a space before it
unfoldable pub fields : List ℕ → List ℕ
fields [] = []
fields (n ∷ ns) = (32 ∷ decimal n) ++ fields ns

-- a text was put at an index: what stands before it and past it is kept, and the next index is past it
pub record Appends (buffer : List ℕ) (at : ℕ) (text buffer' : List ℕ) (next : ℕ) : Type 0 where
  pub text_stands : take next buffer' ≡ take at buffer ++ text
  pub past : next ≡ at + length text
  pub long : length buffer' ≡ length buffer
  pub rest : drop next buffer' ≡ drop next buffer
