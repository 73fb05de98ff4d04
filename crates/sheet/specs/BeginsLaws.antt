-- First lines of a job and the line that follows.
-- Main results: follows_sheet, cut_sheet.
use Rattle.std.specs.Prelude.{◌≡◌, List, [], ◌++◌, ℕ, ◌+◌, ◌<◌, length, take}
use Rattle.std.proofs.Common.{sym, ◌∙◌, ap, append-nil, arith, length-append}
use Rattle.std.proofs.Math.Seq.{take-append_seam}
use Rattle.state.specs.State.{State}
use Rattle.act.proofs.MeaningOnce.{Standing, means_once}
use Rattle.turns.specs.Sheets.{Sheet, start}
use Rattle.one_sheet.specs.OneSheet.{sheet_goes, sheet_once}
use Rattle.one_sheet.specs.Begins.{begins_stands, begins_sheet}
use Rattle.sheet.specs.Running.{Follows, goes, closes, Cut}

-- every sheet of the rest starts with the line that follows
pub follows_sheet : {o : ℕ} {s : State} {b said x : List ℕ} → Standing s → Follows o s b said → Sheet o s b x → (rest : List ℕ) × (x ≡ said ++ rest)
follows_sheet k (goes c s' p z m) t =
    let g = sheet_goes c t p z in
    let w = means_once k c z m g.means in
    (g.rest, g.parts ∙ ap (λ y. y ++ g.rest) (sym w.1))
follows_sheet {said = said} k (closes n q) t = ([], sheet_once k t q ∙ sym (append-nil said))

-- a sheet that was cut: the job's sheet begins with the text and is longer than the room
pub cut_sheet : {job : List ℕ} {room : ℕ} {text x : List ℕ} → Cut job room text → Sheet 0 start job x → (room < length x) × (take (length text) x ≡ text)
cut_sheet {job} {room} {text} {x} c t =
    let r = begins_sheet c.begins t in
    let f = follows_sheet (begins_stands c.begins) c.follows r.follows in
    let e : x ≡ text ++ (c.next ++ f.0) = r.parts ∙ ap (λ y. text ++ y) f.1 in
    let l : length x ≡ length text + (length c.next + length f.0) =
    ap length e ∙ length-append text (c.next ++ f.0) ∙ ap (λ n. length text + n) (length-append c.next f.0) in
    (omega (arith, c.no_room), ap (take (length text)) r.parts ∙ take-append_seam text r.rest)
