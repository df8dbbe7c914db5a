use Rattle.std.proofs.Common.{◌≡◌, ◌+◌, ◌≤◌, drop}
use Rattle.source_places.specs.Places.{place_in}
use Rattle.pal8_tape.proofs.places.place_in.Given as goal

abbrev pub invariant-loop-count : goal.invariant-loop-count
invariant-loop-count l = record {
  source : (place_in l.counts l.place).0 ≡ l.source + (place_in (drop l.count-index l.counts) l.left).0;
  at : (place_in l.counts l.place).1 ≡ (place_in (drop l.count-index l.counts) l.left).1;
  bound : l.source ≤ l.count-index;
}
