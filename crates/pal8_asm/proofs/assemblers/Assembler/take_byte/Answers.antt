use Rattle.std.proofs.Common.{Option, subst}
use Rattle.pal8_lex.specs.declared.rules.End.{End}
use Rattle.pal8_asm.specs.Pushing.{EndsStatement}
use Rattle.pal8_asm.specs.Walking.{statement_in}
use Rattle.pal8_asm.proofs.ByteLemmas.{statement_taken}
use Rattle.pal8_asm.proofs.assemblers.Assembler.take_byte.Goals as goal

pub returns-in-Some : goal.returns-in-Some
returns-in-Some c = λ options here at taken.
    statement_taken options here c.args.byte c.args.at c.in-Some.end c.args.lexer.now c.push_byte.new.lexer c.args.self.now c.take.new.self
    (statement_in c.args.at c.shown_statement.result) at (c.shown_statement.ensures c.args.at)
    (subst (λ (e : Option End). EndsStatement here c.args.byte e c.push_byte.new.lexer) c.in-Some.is (c.in_ok-end.ensures here taken.has_read)) taken c.take.result
    c.take.ensures
