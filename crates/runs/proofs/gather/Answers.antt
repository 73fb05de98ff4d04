use mathlib.Core.Path.{refl, ap}
use Prim.Native.Nat.{ℕ, ◌+◌, ◌*◌}
use native.Mathlib.Omega.{arith}
use lib.ListN.{length-take}
use Rattle.runs.specs.Laws.Copying.{full_room, gathering_full, gathering_room, gathering_more, gathering_end}
use Rattle.runs.proofs.gather.Goals as goal

pub slice_bounds-copy_bytes-end : goal.slice_bounds-copy_bytes-end
slice_bounds-copy_bytes-end c = let r = full_room c.requires c.full-whole.ensures in omega arith

pub slice_bounds-copy_bytes-end-2 : goal.slice_bounds-copy_bytes-end-2
slice_bounds-copy_bytes-end-2 c = let r = full_room c.requires c.full-whole.ensures in omega (arith, length-take {A = ℕ})

pub copy_bytes-requires : goal.copy_bytes-requires
copy_bytes-requires c = let r = full_room c.requires c.full-whole.ensures in simp length-take (omega arith)

pub loop-j-init : goal.loop-j-init
loop-j-init c = gathering_full c.full-whole.ensures c.copy_bytes.ensures refl

pub overflow_add-next : goal.overflow_add-next
overflow_add-next c = let g = gathering_room c.requires c.loop-j.invariant c.loop-j-test.true in omega arith

pub slice_bounds-copy_bytes-end-in-loop-j : goal.slice_bounds-copy_bytes-end-in-loop-j
slice_bounds-copy_bytes-end-in-loop-j c = let g = gathering_room c.requires c.loop-j.invariant c.loop-j-test.true in omega arith

pub slice_bounds-copy_bytes-end-in-loop-j-2 : goal.slice_bounds-copy_bytes-end-in-loop-j-2
slice_bounds-copy_bytes-end-in-loop-j-2 c = let g = gathering_room c.requires c.loop-j.invariant c.loop-j-test.true in omega arith

pub loop-j-preserved : goal.loop-j-preserved
loop-j-preserved c =
    let run = c.from-run.ensures in
    gathering_more c.requires c.loop-j.invariant c.loop-j-test.true (ap (λ (x : ℕ). c.loop-j.j * c.args.t + x) run)
    (ap (λ (x : ℕ). c.loop-j.done + x) run) c.copy_bytes-in-loop-j.ensures refl

pub returns : goal.returns
returns c = gathering_end c.requires c.loop-j.invariant c.loop-j-test.false
