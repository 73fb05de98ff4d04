-- By what the read answered, and whether there was room for it.
use mathlib.Core.Path.{◌≡◌, sym, ◌∙◌, ap, subst}
use mathlib.Core.Bool.{true, false}
use Prim.Native.Nat.{◌-◌}
use lib.ListN.{length, take, drop}
use lib.IntN.{pos}
use lib.Signed.{lt_z}
use mir.Facts.{to_z-of_z}
use borrow.Author.Tests.{lt-ltb}
use Rattle.io.specs.Counts.{clamp_len}
use Rattle.stream.specs.Streams.{taken_of, brought_of}
use Rattle.stream.proofs.Theorems.{full_lost}
use Rattle.stream.proofs.WorksLaws.{back_long}
use Rattle.streaming.proofs.brought.Goals as goal

pub returns-then-got-lt0 : goal.returns-then-got-lt0
unfolding brought_of
returns-then-got-lt0 c =
    let neg : lt_z c.args.got (pos 0) ≡ true = subst (λ z. lt_z z (pos 0) ≡ true) (to_z-of_z c.ranges.got) c.if-got-lt0.true in
    c.lost.ensures ∙ rw neg

pub returns-then-input-end : goal.returns-then-input-end
returns-then-input-end c = c.lost-then-input-end.ensures ∙ sym (full_lost _ _ _ c.if-input-end.true)

pub returns : goal.returns
unfolding brought_of
returns c =
    let i = c.args.input.now in
    let end = c.args.stream.cursor.end in
    let back = to_z-of_z c.ranges.got in
    let some : lt_z c.args.got (pos 0) ≡ false = subst (λ z. lt_z z (pos 0) ≡ false) back c.if-got-lt0.false in
    let room = lt-ltb end (length i) c.if-input-end.false in
    c.taken.ensures
    ∙ ap (taken_of c.args.stream) (c.count-count.ensures.value ∙ ap (λ z. clamp_len z (length (take (length i - end) (drop end i)))) back ∙ ap (clamp_len c.args.got) (back_long end i))
    ∙ rw (some, room)
