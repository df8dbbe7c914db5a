use Rattle.std.proofs.Common.{◌≡◌, length, map, take}
use Rattle.archive_many.specs.HostNames as spec
use Rattle.archive_many.proofs.host_names.raised_name.Given as goal

-- the characters so far are raised
abbrev pub invariant-loop-character : goal.invariant-loop-character
invariant-loop-character l = record {
  text : l.text.items ≡ map spec.capital_of (take l.character-index l.part);
  count : length l.text.items ≡ l.character-index;
}
