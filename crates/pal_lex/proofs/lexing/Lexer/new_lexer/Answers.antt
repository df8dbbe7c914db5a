use Rattle.std.proofs.Common.{refl, arith}
use Rattle.pal_lex.specs.Statements.{statements}
use Rattle.pal_lex.specs.Reading.{HasRead}
use Rattle.pal_lex.specs.declared.runs.Radix.TheVariants.{Octal}
use Rattle.pal_lex.proofs.lexing.Lexer.new_lexer.Goals as goal

pub returns-clause-read : goal.returns-clause-read
unfolding HasRead statements
returns-clause-read c = record {
  begun = omega arith;
  comment = refl;
  place = refl;
  line = refl;
  radix = refl;
  draft = c.new.ensures Octal;
  no_fault = refl;
  not_over = refl;
}
