use Rattle.std.proofs.Common.{◌≡◌, ◌+◌, length, drop}
use Rattle.os8_dir.specs.Names.{before_dot}
use Rattle.name_spelling.proofs.reading.dot_in.Given as goal

abbrev pub invariant-loop-place : goal.invariant-loop-place
invariant-loop-place l = length (before_dot l.text) ≡ l.place + length (before_dot (drop l.place l.text))
