-- No sheet says `refused 11`: document 02, N4, strikes the number. Nowhere in the text of a sheet do these words stand with a space behind them, in a line or across two.
-- Main result: sheet_never_eleven.
use Rattle.std.specs.Prelude.{◌≡◌, refl, ◌≢◌, true, ℕ}
use mathlib.Core.List.{List, [], ◌∷◌, ◌++◌}
use Rattle.pieces.specs.Pieces.{fields}
use Rattle.lines.specs.Lines.{line, recovered_word, loose_word, crossed_word, sealed_word, symbol_word, figures_word, fetch_word, refused_word, end_word}
use Rattle.state.specs.State.{State}
use Rattle.answers.specs.declared.Recovery.{Recovery}
use Rattle.answers.specs.declared.Recovery.TheVariants.{Recovered, Crossed, Loose, Refused}
use Rattle.commands.specs.declared.Command.{Command}
use Rattle.commands.specs.declared.Command.TheVariants.{NewPlan, SetShift, SetSymbol, MarkOne, MarkRun, Recover, Seal, Show, Figures, Straight, Powers, Ruler, Fetch}
use Rattle.act.specs.Meaning.{Means}
use Rattle.act.proofs.RecoveringLaws.{recovery_line, recovering_is}
use Rattle.turns.specs.Sheets.{Sheet, ends, unknown, short, refused, goes_on}
use Rattle.one_sheet.proofs.StruckText.{Free, free_end, free_line, free_nothing, free_refused, plain, plain_at}

-- ---- the sheet

empty_free : {x rest : List ℕ} → x ≡ [] → Free rest → Free (x ++ rest)
empty_free e f = rw e f

line_free : {x rest : List ℕ} (word ns : List ℕ) → plain word ≡ true → x ≡ line word ns → Free rest → Free (x ++ rest)
line_free {rest = rest} word ns h e f = rw e (free_line word ns rest h f)

recovery_free : (s : State) (r : Recovery) (w : List ℕ) {x rest : List ℕ} → x ≡ recovery_line s r w → Free rest → Free (x ++ rest)
unfolding plain plain_at recovered_word loose_word crossed_word
recovery_free s Recovered w e f = line_free recovered_word _ refl e f
recovery_free s (Loose z) w e f = line_free loose_word _ refl e f
recovery_free s (Crossed z) w e f = line_free crossed_word _ refl e f
recovery_free s (Refused x) w e f = empty_free e f

means_free : (s s' : State) (x : List ℕ) {rest : List ℕ} (c : Command) → Means c s s' x → Free rest → Free (x ++ rest)
unfolding Means plain plain_at sealed_word symbol_word figures_word fetch_word
means_free s s' x (NewPlan n t) m f = empty_free m.1 f
means_free s s' x (SetShift j p) m f = empty_free m.1 f
means_free s s' x (SetSymbol c v) m f = empty_free m.1 f
means_free s s' x (MarkOne c) m f = empty_free m.1 f
means_free s s' x (MarkRun c k) m f = empty_free m.1 f
means_free s s' x Recover m f = recovery_free s m.answer m.list (recovering_is m).0 f
means_free s s' x Seal m f = line_free sealed_word _ refl m.says f
means_free s s' x (Show c) m f = line_free symbol_word _ refl m.1 f
means_free s s' x Figures m f = line_free figures_word _ refl m.says f
means_free s s' x (Straight n t) m f = empty_free m.1 f
means_free s s' x (Powers n t q) m f = empty_free m.1 f
means_free s s' x (Ruler n) m f = empty_free m.1 f
means_free s s' x Fetch m f = line_free fetch_word _ refl m.says f

sheet_free : {o : ℕ} {s : State} {b x : List ℕ} → Sheet o s b x → Free x
unfolding plain plain_at end_word
sheet_free ends = free_end (free_line end_word [] [] refl free_nothing)
sheet_free (unknown e) = free_refused _ _
sheet_free (short e) = free_refused _ _
sheet_free (refused c e n) = free_refused _ _
sheet_free {s = s} (goes_on s' text rest c e z m t) = means_free s s' text c m (sheet_free t)

-- a sheet, of whatever job and from whatever state
pub sheet_never_eleven : {o : ℕ} {s : State} {b x : List ℕ} → Sheet o s b x → (before after : List ℕ) → x ≢ before ++ (refused_word ++ fields (11 ∷ []) ++ (32 ∷ after))
sheet_never_eleven t = (sheet_free t).free
