use mathlib.Core.Path.{refl, ap}
use Prim.Native.Nat.{ℕ, ◌+◌, ◌*◌}
use native.Mathlib.Omega.{arith}
use lib.ListN.{length-take}
use Rattle.runs.specs.Laws.Copying.{full_room, filling_full, filling_room, filling_more, filling_end}
use Rattle.runs.proofs.spread.Goals as goal

pub slice_bounds-copy_bytes-end-3 : goal.slice_bounds-copy_bytes-end-3
slice_bounds-copy_bytes-end-3 c = let r = full_room c.requires c.full-whole.ensures in omega (arith, length-take {A = ℕ})

pub copy_bytes-requires : goal.copy_bytes-requires
copy_bytes-requires c = let r = full_room c.requires c.full-whole.ensures in simp length-take (omega arith)

pub loop-j-init : goal.loop-j-init
loop-j-init c = filling_full c.full-whole.ensures c.copy_bytes.ensures refl

pub overflow_add-next : goal.overflow_add-next
overflow_add-next c = let g = filling_room c.requires c.loop-j.invariant c.loop-j-test.true in omega arith

pub slice_bounds-copy_bytes-end-in-loop-j : goal.slice_bounds-copy_bytes-end-in-loop-j
slice_bounds-copy_bytes-end-in-loop-j c = let g = filling_room c.requires c.loop-j.invariant c.loop-j-test.true in omega arith

pub slice_bounds-copy_bytes-end-in-loop-j-2 : goal.slice_bounds-copy_bytes-end-in-loop-j-2
slice_bounds-copy_bytes-end-in-loop-j-2 c = let g = filling_room c.requires c.loop-j.invariant c.loop-j-test.true in omega arith

pub slice_bounds-fill-count : goal.slice_bounds-fill-count
slice_bounds-fill-count c = let g = filling_room c.requires c.loop-j.invariant c.loop-j-test.true in omega arith

pub slice_bounds-fill-start : goal.slice_bounds-fill-start
slice_bounds-fill-start c = let g = filling_room c.requires c.loop-j.invariant c.loop-j-test.true in omega arith

pub loop-j-preserved : goal.loop-j-preserved
loop-j-preserved c =
    let run = c.from-run.ensures in
    filling_more c.requires c.loop-j.invariant c.loop-j-test.true (ap (λ (x : ℕ). c.loop-j.j * c.args.t + x) run)
    (ap (λ (x : ℕ). c.loop-j.done + x) run) refl c.copy_bytes-in-loop-j.ensures refl (c.fill.ensures.after (λ y e. e)) refl

pub returns : goal.returns
returns c = filling_end c.requires c.loop-j.invariant c.loop-j-test.false
