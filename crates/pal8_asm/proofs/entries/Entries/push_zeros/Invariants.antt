use Rattle.std.proofs.Common.{◌≡◌, ◌<◌, replicate}
use Rattle.pal8_asm.specs.Sources.{number, with_entries}
use Rattle.pal8_asm.proofs.entries.Entries.push_zeros.Given as goal

-- the zeros that are left come after those that were put
abbrev pub invariant-loop-left : goal.invariant-loop-left
invariant-loop-left l = record {
  same :
      with_entries l.at.place l.at.spot (replicate l.left (number 0)) l.self
      ≡ with_entries l.fn.stand.place l.fn.stand.spot (replicate l.fn.count (number 0)) l.fn.self;
  field : l.at.spot.field < 8;
}

abbrev pub decreases-loop-left : goal.decreases-loop-left
decreases-loop-left l = l.left
