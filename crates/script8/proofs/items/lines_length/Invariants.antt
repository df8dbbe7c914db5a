use Rattle.std.proofs.Common.{◌≡◌, ◌+◌, ◌-◌, ◌≤◌, drop, false, length}
use Rattle.script8.specs.Items.{ended_lines}
use Rattle.script8.proofs.CutLemmas.{taken, size_from}
use Rattle.script8.proofs.items.lines_length.Given as goal

-- the lines that are left stand after the blocks that were passed
abbrev pub invariant-loop-begin : goal.invariant-loop-begin
invariant-loop-begin l = record {
  found : size_from 0 (taken l.is_end false l.lines l.text) ≡ size_from l.begin (taken l.is_end false l.left (drop l.begin l.text));
  ends : length (ended_lines l.text) + l.left ≡ l.lines + length (ended_lines (drop l.begin l.text));
  within : l.begin ≤ length l.text;
}

abbrev pub decreases-loop-begin : goal.decreases-loop-begin
decreases-loop-begin l = length l.text - l.begin

-- the lines that are left stand after the place
abbrev pub invariant-loop-place : goal.invariant-loop-place
invariant-loop-place l = record {
  found : size_from 0 (taken l.is_end false l.lines l.text) ≡ size_from l.place (taken l.is_end l.is_begun l.left (drop l.place l.text));
  ends : length (ended_lines l.text) + l.left ≡ l.lines + length (ended_lines (drop l.place l.text));
}
