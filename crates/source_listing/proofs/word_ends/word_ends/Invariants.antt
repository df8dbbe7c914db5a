use Rattle.std.proofs.Common.{◌≡◌, ◌-◌, false, take, length}
use Rattle.pal_lex.specs.Text.{text_of}
use Rattle.pal_lex.specs.Reading.{HasRead}
use Rattle.source_listing.specs.Rows as spec
use Rattle.source_listing.proofs.word_ends.word_ends.Given as goal

abbrev pub invariant-loop-taken : goal.invariant-loop-taken
invariant-loop-taken l = record {
  ends : l.ends.items ≡ spec.word_ends (text_of (take l.taken l.text));
  read : HasRead l.lexer 0 (text_of (take l.taken l.text));
  may : l.lexer.may_pause ≡ false;
}

abbrev pub decreases-loop-taken : goal.decreases-loop-taken
decreases-loop-taken l = length l.text - l.taken
