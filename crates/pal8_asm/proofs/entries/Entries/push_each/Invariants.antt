use Rattle.std.proofs.Common.{◌≡◌, ◌<◌, length}
use Rattle.pal8_places.specs.Passing.{open_of}
use Rattle.pal8_asm.specs.Sources.{with_values, with_entries, word_each}
use Rattle.pal8_asm.proofs.entries.Entries.push_each.Given as goal

-- the words that are left come after those that were put
abbrev pub invariant-loop-rest : goal.invariant-loop-rest
invariant-loop-rest l = record {
  same :
      with_entries l.at.place l.at.spot (word_each (with_values (open_of l.names) l.rest)) l.self
      ≡ with_entries l.fn.stand.place l.fn.stand.spot (word_each (with_values (open_of l.fn.names) l.fn.steps)) l.fn.self;
  field : l.at.spot.field < 8;
}

abbrev pub decreases-loop-rest : goal.decreases-loop-rest
decreases-loop-rest l = length l.rest
