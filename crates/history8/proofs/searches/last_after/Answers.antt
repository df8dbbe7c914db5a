use Rattle.std.proofs.Common.{◌∙◌, arith, refl, subst, sym}
use Rattle.history8.proofs.SearchLemmas.{Searched, searched-none, searched-part, searched-all}
use Rattle.history8.proofs.searches.last_after.Goals as goal

pub loop-place-init : goal.loop-place-init
loop-place-init g c = record {
  is_place = c.requires.place;
  low = omega arith;
  some = omega arith;
  high = λ some. absurd (omega (arith, some));
  searched = searched-none (g.W.Watch.condition c.args.watch.now) c.args.entries.now c.args.from.count c.args.machine.now;
  room = refl;
}

pub loop-place-preserved : goal.loop-place-preserved
loop-place-preserved g c =
    let i = c.loop-place.invariant in
    let m = c.make_part-is_met in
    record {
      is_place = m.ensures.place;
      low = omega (arith, i.low, m.ensures.further);
      some = c.next_size-most.ensures;
      high = λ some. omega (arith, m.ensures.within);
      searched = subst (λ f. Searched (g.W.Watch.condition c.args.watch.now) c.args.entries.now c.args.from.count m.result.0.place.count c.args.machine.now m.new.machine f)
          (sym c.newest_of-found.ensures)
          (searched-part (g.W.Watch.condition c.args.watch.now) c.args.entries.now c.args.from.count c.loop-place.place.count m.result.0.place.count c.args.machine.now
          c.loop-place.machine m.new.machine c.loop-place.found m.result.0.characters m.result.1 i.searched i.low m.ensures.further
          m.ensures.made m.ensures.found);
      room = m.ensures.room ∙ i.room;
    }

pub returns-clause-place : goal.returns-clause-place
returns-clause-place g c =
    let i = c.loop-place.invariant in
    searched-all (g.W.Watch.condition c.args.watch.now) c.args.entries.now c.args.from.count c.loop-place.place.count c.args.end c.args.machine.now
    c.loop-place.machine c.loop-place.found i.searched c.loop-place-test.false i.high

pub make_part-is_met-requires-clause-before : goal.make_part-is_met-requires-clause-before
make_part-is_met-requires-clause-before g c =
    omega (arith, c.loop-place.invariant.some, c.loop-place-test.true, c.min-target.ensures, c.saturating_add.ensures, c.ranges.end.fits)
