use Rattle.std.proofs.Common.{◌≡◌, ◌++◌, take}
use Rattle.os8_dir.specs.Entries.{tidy}
use Rattle.os8_dir.proofs.appending.append_all.Given as goal

abbrev pub invariant-loop-entry : goal.invariant-loop-entry
invariant-loop-entry l = l.entries.items ≡ tidy (l.fn.entries.items ++ take l.entry-index l.more)
