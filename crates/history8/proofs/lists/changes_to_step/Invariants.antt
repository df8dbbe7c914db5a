use Rattle.std.proofs.Common.{◌≡◌, ◌≤◌, take, length}
use Rattle.history8.specs.History.{step_count}
use Rattle.history8.specs.Entries.{changes_of}
use Rattle.history8.proofs.lists.changes_to_step.Given as goal

abbrev pub invariant-loop-entry : goal.invariant-loop-entry
invariant-loop-entry l = record {
  changes : l.changes ≡ length (changes_of (take l.entry-index l.entries));
  before : l.before ≡ step_count (changes_of (take l.entry-index l.entries));
  within : l.before ≤ l.steps;
}
