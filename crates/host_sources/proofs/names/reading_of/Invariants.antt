use Rattle.std.proofs.Common.{◌≡◌, ◌-◌, false, take, length}
use Rattle.pal_lex.specs.Text.{text_of}
use Rattle.pal_lex.specs.Statements.{statements}
use Rattle.pal_lex.specs.Reading.{HasRead}
use Rattle.host_sources.specs.Symbols.{Follows}
use Rattle.host_sources.proofs.names.reading_of.Given as goal

abbrev pub invariant-loop-taken : goal.invariant-loop-taken
invariant-loop-taken l = record {
  follows : Follows l.names.symbols l.names.place (statements (text_of (take l.taken l.text)));
  read : HasRead l.lexer 0 (text_of (take l.taken l.text));
  may : l.lexer.may_pause ≡ false;
}

abbrev pub decreases-loop-taken : goal.decreases-loop-taken
decreases-loop-taken l = length l.text - l.taken
