use Rattle.std.proofs.Common.{◌≡◌, take}
use Rattle.os8_dir.specs.Renaming.{with_new_name}
use Rattle.os8_dir.proofs.renaming.with_name.Given as goal

abbrev pub invariant-loop-entry : goal.invariant-loop-entry
invariant-loop-entry l = l.kept.items ≡ with_new_name l.name l.new_name (take l.entry-index l.entries)
