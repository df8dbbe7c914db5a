use Rattle.std.proofs.Common.{◌≡◌, take}
use Rattle.history8.specs.History.{step_count}
use Rattle.history8.specs.Entries.{changes_of}
use Rattle.history8.proofs.lists.steps_in.Given as goal

abbrev pub invariant-loop-entry : goal.invariant-loop-entry
invariant-loop-entry l = l.steps ≡ step_count (changes_of (take l.entry-index l.entries))
