-- The text `refused 11 ` that no sheet has (document 02, N4), and texts that do not have it: what a line of the sheet adds.
use Rattle.std.specs.Prelude.{◌≡◌, refl, ◌≢◌, Bool, true, false, cond, not, ◌&&◌, ℕ, suc, ◌<◌, eqb, length, get_or, drop}
use Rattle.std.proofs.Common.{sym, ◌∙◌, subst, true≢false, arith}
use Rattle.std.proofs.Math.Path.{ap}
use mathlib.Core.List.{List, [], ◌∷◌, ◌++◌, append_assoc, append-nil}
use Rattle.std.proofs.lemmas.Bool.{eqb-false, not-true}
use Rattle.math.specs.Tests.{and_left, and_right}
use Rattle.pieces.specs.Pieces.{decimal, fields}
use Rattle.pieces.specs.ReadBack.{Letterless, nothing, more, letterless_fields, front, front_decimal}
use Rattle.refusals.specs.Refusals.{check_number, Check}
use Rattle.refusals.proofs.RefusalLaws.{check_not_eleven, check_number_byte}
use Rattle.lines.specs.Lines.{line, refused_word}
use Rattle.turns.specs.Sheets.{refused_line}

-- the words that are struck, with a space behind them, and then anything
abbrev struck : List ℕ → List ℕ
struck after = refused_word ++ fields (11 ∷ []) ++ (32 ∷ after)

-- they stand nowhere in the text
pub record Free (text : List ℕ) : Type 0 where
  pub free : (before after : List ℕ) → text ≢ before ++ struck after

-- ---- text in front

-- they do not begin here
record Other (text : List ℕ) : Type 0 where
  other : (after : List ℕ) → text ≢ struck after

free_cons : (c : ℕ) {text : List ℕ} → Other (c ∷ text) → Free text → Free (c ∷ text)
free_cons c {text} o f = record { free = go }
  where
    go : (before after : List ℕ) → (c ∷ text) ≢ before ++ struck after
    go [] after e = o.other after e
    go (b ∷ before) after e = f.free before after (ap (drop 1) e)

-- their first letter is r, their third f
other_first : (c : ℕ) (text : List ℕ) → c ≢ 114 → Other (c ∷ text)
unfolding refused_word
other_first c text n = record { other = λ after e. n (ap (λ l. get_or l 0 0) e) }

other_third : (c d k : ℕ) (text : List ℕ) → k ≢ 102 → Other (c ∷ d ∷ k ∷ text)
unfolding refused_word
other_third c d k text n = record { other = λ after e. n (ap (λ l. get_or l 2 0) e) }

free_letterless : {l text : List ℕ} → Letterless l → Free text → Free (l ++ text)
free_letterless nothing f = f
free_letterless {text = text} (more {c} {l} h p) f = free_cons c (other_first c (l ++ text) (λ e. omega (arith, h, e))) (free_letterless p f)

-- a letter of a word, and those after it: it is no r, or two after it stands another letter than f
unfoldable pub plain_at : ℕ → List ℕ → Bool
plain_at c w = cond (eqb c 114) (not (eqb (get_or w 1 102) 102)) true

unfoldable pub plain : List ℕ → Bool
plain [] = true
plain (c ∷ w) = plain_at c w && plain w

plain_other : (c : ℕ) (w text : List ℕ) → plain_at c w ≡ true → Other (c ∷ w ++ text)
unfolding plain_at
plain_other c w text h = go w (eqb c 114) refl h
  where
    go : (w : List ℕ) (b : Bool) → eqb c 114 ≡ b → cond b (not (eqb (get_or w 1 102) 102)) true ≡ true → Other (c ∷ w ++ text)
    go w false e h = other_first c (w ++ text) (eqb-false c 114 e)
    go [] true e h = absurd (true≢false (sym h))
    go (d ∷ []) true e h = absurd (true≢false (sym h))
    go (d ∷ k ∷ w) true e h = other_third c d k (w ++ text) (eqb-false k 102 (not-true (eqb k 102) h))

free_word : (w text : List ℕ) → plain w ≡ true → Free text → Free (w ++ text)
unfolding plain
free_word [] text h f = f
free_word (c ∷ w) text h f = free_cons c (plain_other c w text (and_left (plain_at c w) (plain w) h)) (free_word w text (and_right (plain_at c w) (plain w) h) f)

-- a line of another word
pub free_line : (word ns text : List ℕ) → plain word ≡ true → Free text → Free (line word ns ++ text)
unfolding line
free_line word ns text h f =
    subst Free (sym (append_assoc (word ++ fields ns) (10 ∷ []) text ∙ append_assoc word (fields ns) (10 ∷ text)))
    (free_word word (fields ns ++ (10 ∷ text)) h (free_letterless (letterless_fields ns) (free_letterless (more (omega arith) nothing) f)))

-- ---- the last line

pub free_nothing : Free []
unfolding refused_word
free_nothing = record { free = go }
  where
    go : (before after : List ℕ) → [] ≢ before ++ struck after
    go [] after e = let q : ◌≡◌ {A = ℕ} 0 114 = ap (λ l. get_or l 0 0) e in omega arith
    go (b ∷ before) after e = let q : 0 ≡ suc (length (before ++ struck after)) = ap length e in omega arith

pub free_end : {text : List ℕ} → Free (text ++ []) → Free text
free_end {text} f = subst Free (append-nil text) f

-- the number of a line `refused`, and that of the words that are struck
line_number : (n offset : ℕ) → n < 256 → front 0 (drop 8 (line refused_word (n ∷ offset ∷ []))) ≡ n
unfolding line refused_word fields
line_number n offset h = ap (front 0) (append_assoc (decimal n) (32 ∷ decimal offset ++ []) (10 ∷ [])) ∙ front_decimal n _ h

struck_number : (after : List ℕ) → front 0 (drop 8 (struck after)) ≡ 11
unfolding refused_word fields
struck_number after = ap (λ l. front 0 (l ++ (32 ∷ after))) (append-nil (decimal 11)) ∙ front_decimal 11 after (omega arith)

pub free_refused : (c : Check) (offset : ℕ) → Free (refused_line c offset)
unfolding refused_line line refused_word
free_refused c offset =
    free_cons 114 (record { other = another })
    (free_end (free_line (101 ∷ 102 ∷ 117 ∷ 115 ∷ 101 ∷ 100 ∷ []) (check_number c ∷ offset ∷ []) [] (unfold plain plain_at in refl) free_nothing))
  where
    another : (after : List ℕ) → line refused_word (check_number c ∷ offset ∷ []) ≢ struck after
    another after e =
        check_not_eleven c (sym (line_number (check_number c) offset (check_number_byte c)) ∙ ap (λ l. front 0 (drop 8 l)) e ∙ struck_number after)
