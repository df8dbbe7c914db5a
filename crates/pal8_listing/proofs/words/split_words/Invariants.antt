use Rattle.std.proofs.Common.{◌≡◌, ◌++◌, ◌+◌, take, drop, length}
use Rattle.pal8_listing.specs.Rows.{words_after, words_here}
use Rattle.pal8_listing.proofs.words.split_words.Given as goal

-- so many words begin in the line, and these are left
abbrev pub invariant-loop-rest : goal.invariant-loop-rest
invariant-loop-rest l = record {
  left : drop l.count l.words ≡ l.rest;
  here : take l.count l.words ++ words_here l.line l.rest ≡ words_here l.line l.words;
  after : words_after l.line l.rest ≡ words_after l.line l.words;
  count : l.count + length l.rest ≡ length l.words;
}

abbrev pub decreases-loop-rest : goal.decreases-loop-rest
decreases-loop-rest l = length l.rest
