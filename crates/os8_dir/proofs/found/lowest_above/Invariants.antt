use Rattle.std.proofs.Common.{◌≡◌, drop}
use Rattle.os8_dir.specs.Entries.{IsTidy}
use Rattle.os8_dir.specs.Changes.{lowest_above}
use Rattle.os8_dir.proofs.FoundLemmas.{lowest_with}
use Rattle.os8_dir.proofs.found.lowest_above.Given as goal

abbrev pub invariant-loop-entry : goal.invariant-loop-entry
invariant-loop-entry l = record {
  same : lowest_above l.entries ≡ lowest_with l.below (drop l.entry-index l.entries);
  neat : IsTidy (drop l.entry-index l.entries);
}
