use Rattle.std.proofs.Common.{Option, length, subst}
use Rattle.pal_lex.specs.Text.{limit}
use Rattle.pal8_lex.specs.declared.rules.End.{End}
use Rattle.pal8_asm.specs.Pushing.{EndsStatement}
use Rattle.pal8_asm.specs.Sources.{statements}
use Rattle.pal8_tape.specs.Joins.{pass_on}
use Rattle.pal8_tape.proofs.ByteLemmas.{ends_statement_there, goes_on}
use Rattle.pal8_tape.proofs.pauses.meet_byte.Goals as goal

pub returns-in-None : goal.returns-in-None
returns-in-None c = λ left here read follows.
    goes_on left here c.args.byte c.push_byte.new.lexer c.args.pass.now
    (subst (λ (e : Option End). EndsStatement here c.args.byte e c.push_byte.new.lexer) c.in-None.is (c.in_ok-end.ensures here read)) follows

pub returns-in-Some : goal.returns-in-Some
returns-in-Some c = λ left here read follows.
    ends_statement_there left here c.args.byte c.push_byte.new.lexer c.meet_statement.new.pass c.in-Some.end
    (subst (λ (e : Option End). EndsStatement here c.args.byte e c.push_byte.new.lexer) c.in-Some.is (c.in_ok-end.ensures here read))
    c.meet_statement.result (c.meet_statement.ensures (limit (length here)) (pass_on left (statements here)) follows)
