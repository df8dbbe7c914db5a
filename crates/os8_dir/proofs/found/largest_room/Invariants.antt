use Rattle.std.proofs.Common.{◌≡◌, drop, max}
use Rattle.os8_dir.proofs.FoundLemmas.{largest_size}
use Rattle.os8_dir.proofs.found.largest_room.Given as goal

abbrev pub invariant-loop-entry : goal.invariant-loop-entry
invariant-loop-entry l = largest_size l.entries ≡ max l.most (largest_size (drop l.entry-index l.entries))
