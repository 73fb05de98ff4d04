-- The queue of all rows (RowQueue), and its head: a row that is passed over, or that is settled, and then its other row may enter.
-- Main results: head_long, head_row; row_passed, row_taken (the head moves on), row_room (there is room for the row that enters).
use Rattle.std.specs.Prelude.{◌≡◌, ◌≢◌, List, ℕ, ◌+◌, ◌≤◌, ◌<◌, length, get_or}
use Rattle.std.proofs.Common.{sym, ◌∙◌, subst, arith}
use Rattle.tables.specs.Picture.{counts}
use Rattle.tables.specs.Singles.{Lowers}
use Rattle.queue.specs.Queue.{Below, Queued, Waits, Enters, full, room, entered, passed, taken}

-- every row is looked at, and there is room for each
pub record RowQueue (tally queue : List ℕ) (rows head tail : ℕ) : Type 0 where
  pub queued : Queued tally queue (Below rows) head tail
  pub long : length queue ≡ rows

pub rows_full : {tally queue : List ℕ} {rows head tail : ℕ} → RowQueue tally queue rows head tail → tail ≤ rows
rows_full d = full (λ r l. l) d.queued

module _ {tally queue : List ℕ} {rows head tail : ℕ} (d : RowQueue tally queue rows head tail) (h : head < tail) where
  pub head_long : head < length queue
  head_long = omega (arith, rows_full d, d.long)

  -- row r is at the head
  module _ {r : ℕ} (at_head : r ≡ get_or queue head 0) where
    pub head_row : r < rows
    head_row = rw at_head (d.queued.entries.looked head h)

    pub row_passed : counts tally r ≢ 1 → RowQueue tally queue rows (head + 1) tail
    row_passed e = record { queued = passed d.queued h (λ o. e (rw at_head o)); long = d.long }

    -- its one erasure is settled; b is its other row
    module _ {tally' : List ℕ} {b : ℕ} (inside : b < rows) (l : Lowers tally tally' r b) where
      waits : Waits tally' queue (Below rows) (head + 1) tail b
      waits = taken d.queued h inside (subst (λ q. Lowers tally tally' q b) at_head l)

      one_room : counts tally' b ≡ 1 → tail < length queue
      one_room e = omega (arith, room (λ r l. l) waits e, d.long)

      pub row_room : {rest : ℕ} → rest ≡ counts tally' b → rest ≡ 1 → tail < length queue
      row_room e one = one_room (sym e ∙ one)

      pub row_taken : {queue' : List ℕ} {rest tail' : ℕ} → rest ≡ counts tally' b → Enters queue tail b rest queue' tail' → length queue' ≡ length queue
          → RowQueue tally' queue' rows (head + 1) tail'
      row_taken e s long = record { queued = entered waits one_room e s; long = long ∙ d.long }
