-- Lines are put together piece by piece, and each line fits the line buffer.
-- Main results: begun, more, more_list, ended, wrote_at, wrote_front, wrote_none, wrote_empty, line_length_lem, line_fits.
use Rattle.std.specs.Prelude.{◌≡◌, refl, List, [], ◌∷◌, ◌++◌, ℕ, ◌+◌, ◌*◌, ◌≤◌, ◌<◌, length, get_or, take, drop}
use Rattle.std.proofs.Common.{sym, ◌∙◌, ap, subst, append-nil, append_assoc, arith, length-append, length-take-le}
use Rattle.pieces.specs.Pieces.{decimal, fields, Appends}
use Rattle.pieces.specs.PiecesLaws.{appends_both, appends_within, fields_append, fields_one, fields_length}
use Rattle.lines.specs.Lines.{line, line_length, Wrote}

-- ---- a line: its word, then its numbers, then its end

-- the word and these numbers stand in the buffer from an index on
pub record Begun (l : List ℕ) (at : ℕ) (word ns l' : List ℕ) (x : ℕ) : Type 0 where
  pub so_far : Appends l at (word ++ fields ns) l' x

pub begun : {l l' word : List ℕ} {at x : ℕ} → Appends l at word l' x → Begun l at word [] l' x
unfolding fields
begun {l} {l'} {word} {at} {x} a = record { so_far = rw (append-nil word) a }

pub more_list : (ms : List ℕ) {l l' l'' word ns : List ℕ} {at x y : ℕ} → Begun l at word ns l' x → Appends l' x (fields ms) l'' y → Begun l at word (ns ++ ms) l'' y
more_list ms {l} {l'} {l''} {word} {ns} {at} {x} {y} a b =
    record {
      so_far = subst (λ t. Appends l at t l'' y) (append_assoc word (fields ns) (fields ms) ∙ ap (λ t. word ++ t) (sym (fields_append ns ms)))
          (appends_both a.so_far b);
    }

pub more : (n : ℕ) {l l' l'' word ns : List ℕ} {at x y : ℕ} → Begun l at word ns l' x → Appends l' x (32 ∷ decimal n) l'' y → Begun l at word (ns ++ (n ∷ [])) l'' y
more n {l} {l'} {l''} {word} {ns} {at} {x} {y} a b = more_list (n ∷ []) a (subst (λ t. Appends l' x t l'' y) (sym (fields_one n)) b)

pub ended : {l l' l'' word ns : List ℕ} {at x y : ℕ} → Begun l at word ns l' x → Appends l' x (10 ∷ []) l'' y → Appends l at (line word ns) l'' y
unfolding line
ended a b = appends_both a.so_far b

-- a text put at the front was written
pub wrote_at : {l l' text : List ℕ} {y : ℕ} → Appends l 0 text l' y → Wrote l text l' y
wrote_at a = record { text_stands = a.text_stands; within = appends_within a; long = a.long; rest = a.rest }

-- ---- what was written, by the buffer alone

pub wrote_front : {l l' text : List ℕ} {n : ℕ} → Wrote l text l' n → Wrote l (take n l') l' n
wrote_front w = record { text_stands = refl; within = w.within; long = w.long; rest = w.rest }

pub wrote_none : (l : List ℕ) → Wrote l [] l 0
wrote_none l = record { text_stands = refl; within = omega arith; long = refl; rest = refl }

-- no text: the buffer is as before
pub wrote_empty : {l l' : List ℕ} {n : ℕ} → Wrote l [] l' n → (n ≡ 0) × (l' ≡ l)
wrote_empty {l} {l'} {n} w =
    let e : n ≡ 0 = sym (length-take-le n l' w.within) ∙ ap length w.text_stands in
    (e, subst (λ x. drop x l' ≡ drop x l) e w.rest)

-- ---- lengths

pub line_length_lem : (word ns : List ℕ) → ((i : ℕ) → get_or ns i 0 < 100000) → length (line word ns) ≤ length word + 6 * length ns + 1
unfolding line
line_length_lem word ns h = let p = fields_length ns h in simp length-append (omega arith)

-- a word with a count and 32,768 places fits: `fetch` may list nearly all
pub line_fits : (word ns : List ℕ) → ((i : ℕ) → get_or ns i 0 < 100000) → length word ≤ 9 → length ns ≤ 32769 → length (line word ns) ≤ line_length
line_fits word ns h a b = omega (arith, line_length_lem word ns h)
