-- The lines of the sheet: a word, then numbers, "fields parted by one space", closed by a line feed.
use Rattle.std.specs.Prelude.{◌≡◌, List, [], ◌∷◌, ◌++◌, ℕ, ◌≤◌, length, take, drop}
use Rattle.pieces.specs.Pieces.{fields}

-- a whole line
unfoldable pub line : List ℕ → List ℕ → List ℕ
line word ns = word ++ fields ns ++ (10 ∷ [])

-- the words, in ASCII
unfoldable pub recovered_word : List ℕ
recovered_word = 114 ∷ 101 ∷ 99 ∷ 111 ∷ 118 ∷ 101 ∷ 114 ∷ 101 ∷ 100 ∷ []

unfoldable pub rounds_word : List ℕ
rounds_word = 114 ∷ 111 ∷ 117 ∷ 110 ∷ 100 ∷ 115 ∷ []

unfoldable pub loose_word : List ℕ
loose_word = 108 ∷ 111 ∷ 111 ∷ 115 ∷ 101 ∷ []

unfoldable pub crossed_word : List ℕ
crossed_word = 99 ∷ 114 ∷ 111 ∷ 115 ∷ 115 ∷ 101 ∷ 100 ∷ []

unfoldable pub sealed_word : List ℕ
sealed_word = 115 ∷ 101 ∷ 97 ∷ 108 ∷ 101 ∷ 100 ∷ []

unfoldable pub symbol_word : List ℕ
symbol_word = 115 ∷ 121 ∷ 109 ∷ 98 ∷ 111 ∷ 108 ∷ []

unfoldable pub figures_word : List ℕ
figures_word = 102 ∷ 105 ∷ 103 ∷ 117 ∷ 114 ∷ 101 ∷ 115 ∷ []

unfoldable pub fetch_word : List ℕ
fetch_word = 102 ∷ 101 ∷ 116 ∷ 99 ∷ 104 ∷ []

unfoldable pub refused_word : List ℕ
refused_word = 114 ∷ 101 ∷ 102 ∷ 117 ∷ 115 ∷ 101 ∷ 100 ∷ []

unfoldable pub end_word : List ℕ
end_word = 101 ∷ 110 ∷ 100 ∷ []

-- no line is longer (line_fits), and no text of a command is: only 06 writes two lines, and those are short
abbrev pub line_length : ℕ
line_length = 196624

-- room for a line with no list: a word of up to 16 letters with two numbers of 64 bits, or `figures` with four
abbrev pub short_length : ℕ
short_length = 92

-- a text was written: it stands at the front of the buffer, which is as long as before; what stands past the text is kept
pub record Wrote (buffer text buffer' : List ℕ) (count : ℕ) : Type 0 where
  pub text_stands : take count buffer' ≡ text
  pub within : count ≤ length buffer'
  pub long : length buffer' ≡ length buffer
  pub rest : drop count buffer' ≡ drop count buffer
