-- `fetch_state` meets its contract: the front part of the marks is told of. Assumes nothing.
use Rattle.std.proofs.Common.{refl}
use mathlib.Core.Path.{sym, ◌∙◌}
use Prim.Native.Nat.{ℕ}
use native.Mathlib.Omega.{arith}
use lib.ListN.{replicate, length-replicate}
use Rattle.act.proofs.StateLaws.{places_most, bytes_fit, bytes_most, front_long}
use Rattle.fetching.specs.FetchingLaws.{lent_marks, listed_acts}
use Rattle.fetching.proofs.fetch_state.Goals as goal

pub overflow_mul-places : goal.overflow_mul-places
overflow_mul-places c = let p = c.requires in omega (arith, places_most _ (p.1.1.good refl))

pub overflow_add-bytes : goal.overflow_add-bytes
overflow_add-bytes c = let p = c.requires in omega (arith, places_most _ (p.1.1.good refl))

pub slice_bounds-tell-end : goal.slice_bounds-tell-end
slice_bounds-tell-end c =
    let p = c.requires in
    let m = c.args.marks.now in
    front_long _ m (bytes_fit _ (p.1.1.good refl) m p.1.1.marks_long)

pub slice_bounds-list-end : goal.slice_bounds-list-end
slice_bounds-list-end c = let p = c.requires in bytes_most _ (p.1.1.good refl)

pub slice_bounds-tell-end-2 : goal.slice_bounds-tell-end-2
slice_bounds-tell-end-2 c = let p = c.requires in front_long _ (replicate 4096 0) (bytes_fit _ (p.1.1.good refl) (replicate 4096 0) (length-replicate {A = ℕ} 4096 0))

pub tell-requires : goal.tell-requires
tell-requires c =
    let p = c.requires in
    let good = p.1.1.good refl in
    let m = c.args.marks.now in
    (lent_marks p.1.1 refl, sym (front_long _ (replicate 4096 0) (bytes_fit _ good (replicate 4096 0) (length-replicate {A = ℕ} 4096 0))) ∙ front_long _ m (bytes_fit _ good m p.1.1.marks_long), p.0)

pub returns : goal.returns
returns c = let e = c.tell.ensures in (λ v k. listed_acts k e.0, e.1)
