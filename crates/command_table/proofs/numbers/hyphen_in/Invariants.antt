use Rattle.std.proofs.Common.{◌≡◌, ◌+◌, length, drop}
use Rattle.command_table.specs.Found.{before_hyphen}
use Rattle.command_table.proofs.numbers.hyphen_in.Given as goal

abbrev pub invariant-loop-place : goal.invariant-loop-place
invariant-loop-place l = length (before_hyphen l.text) ≡ l.place + length (before_hyphen (drop l.place l.text))
