use Rattle.std.proofs.Common.{◌≡◌, ◌+◌, drop}
use Rattle.debug_lines.specs.Words.{quoted_length}
use Rattle.debug_lines.proofs.words.quoted_length.Given as goal

-- no byte so far ends the quote
abbrev pub invariant-loop-place : goal.invariant-loop-place
invariant-loop-place l = quoted_length l.quote l.text ≡ l.place + quoted_length l.quote (drop l.place l.text)
