use Rattle.std.proofs.Common.{◌≡◌, ◌+◌, ◌≤◌, drop, length}
use Rattle.script8.specs.Items.{ended_lines}
use Rattle.script8.proofs.items.ends_in.Given as goal

-- the lines that end after the place are left
abbrev pub invariant-loop-byte : goal.invariant-loop-byte
invariant-loop-byte l = record {
  ends : length (ended_lines l.text) ≡ l.ends + length (ended_lines (drop l.byte-index l.text));
  within : l.ends ≤ l.byte-index;
}
