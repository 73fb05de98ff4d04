use mathlib.Core.Path.{refl}
use native.Mathlib.Omega.{arith}
use Rattle.tables.proofs.Spots.{reached_on}
use Rattle.tables.proofs.Counting.{seen_at, seen_start}
use Rattle.parities.specs.Settling.{section_next, section_fits, sections_end, section_due, section_noted, all_noted}
use Rattle.parities.proofs.count_parities.Goals as goal

pub start-at-requires : goal.start-at-requires
start-at-requires c = c.requires.good_plan.0

pub loop-j-init : goal.loop-j-init
loop-j-init c = (reached_on _ (omega arith) c.start-at.ensures, seen_at (omega arith) (seen_start _ c.requires.tally_value))

pub overflow_mul-begin : goal.overflow_mul-begin
overflow_mul-begin c = let g = c.requires.good_plan in omega (arith, section_fits g.0 g.1 c.loop-j-test.true refl)

pub overflow_add-c : goal.overflow_add-c
overflow_add-c c = let g = c.requires.good_plan in omega (arith, section_fits g.0 g.1 c.loop-j-test.true refl)

pub overflow_add-end : goal.overflow_add-end
overflow_add-end c = let g = c.requires.good_plan in omega (arith, section_fits g.0 g.1 c.loop-j-test.true refl)

pub note_places-at-requires : goal.note_places-at-requires
note_places-at-requires c =
    let g = c.requires.good_plan in
    record {
      due = (
        section_due g.0 g.1 c.loop-j-test.true (omega arith) refl c.loop-j.invariant.1,
        omega (arith, section_fits g.0 g.1 c.loop-j-test.true refl),
      );
      reached = reached_on _ (omega arith) c.loop-j.invariant.0;
    }

pub loop-j-preserved : goal.loop-j-preserved
loop-j-preserved c =
    let g = c.requires.good_plan in
    let next = section_next g.0 g.1 c.loop-j.j refl in (
      reached_on _ (omega arith) c.note_places-at.ensures.reached_2,
      seen_at next (section_noted g.0 g.1 c.loop-j-test.true (omega arith) refl c.loop-j.invariant.1 c.note_places-at.ensures.notes),
    )

pub returns : goal.returns
returns c = let g = c.requires.good_plan in all_noted g.0 g.1 c.loop-j.invariant.1 (sections_end g.0 g.1 c.loop-j-test.false)
