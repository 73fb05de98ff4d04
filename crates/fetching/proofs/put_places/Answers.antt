use Rattle.std.proofs.Common.{◌≡◌, arith}
use Rattle.fetching.specs.Places.{places_none, places_more, places_fields}
use Rattle.fetching.proofs.put_places.Goals as goal

pub loop-c-init : goal.loop-c-init
loop-c-init c = places_none _ _ _

pub put_place-to-requires : goal.put_place-to-requires
put_place-to-requires c =
    let most = places_fields c.args.list.now 0 c.loop-c.c (omega arith) in
    (omega arith, omega arith, omega (arith, c.loop-c.invariant.past, c.loop-c.invariant.long, most))

pub loop-c-preserved : goal.loop-c-preserved
loop-c-preserved c = places_more _ c.loop-c.c c.loop-c.invariant c.put_place-to.ensures

pub returns : goal.returns
returns c =
    let all : c.loop-c.c ≡ c.args.places = omega arith in
    let put = rw all at c.loop-c.invariant in
    (put, omega (arith, put.past, places_fields c.args.list.now 0 c.args.places (omega arith)))
