use Rattle.std.proofs.Common.{◌≡◌, ◌≤◌, ◌-◌, ◌++◌, length, drop}
use Rattle.debug_lines.specs.Words.{words_of, words_from}
use Rattle.debug_lines.proofs.words.words_in.Given as goal

-- the words so far, and those of what is left
abbrev pub invariant-loop-place : goal.invariant-loop-place
invariant-loop-place l = record {
  read : words_of l.line ≡ l.words.items ++ words_from 0 l.place (drop l.place l.line);
  within : l.place ≤ length l.line;
}

abbrev pub decreases-loop-place : goal.decreases-loop-place
decreases-loop-place l = length l.line - l.place
