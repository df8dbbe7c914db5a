use Rattle.std.proofs.Common.{◌≡◌, ◌+◌, drop}
use Rattle.debug_lines.specs.Words.{plain_length}
use Rattle.debug_lines.proofs.words.plain_length.Given as goal

-- all bytes so far are plain
abbrev pub invariant-loop-place : goal.invariant-loop-place
invariant-loop-place l = plain_length l.text ≡ l.place + plain_length (drop l.place l.text)
