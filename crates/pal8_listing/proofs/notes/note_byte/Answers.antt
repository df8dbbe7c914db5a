use Rattle.std.proofs.Common.{Option, length, subst}
use Rattle.pal_lex.specs.Text.{limit}
use Rattle.pal8_lex.specs.declared.rules.End.{End}
use Rattle.pal8_asm.specs.Pushing.{EndsStatement}
use Rattle.pal8_asm.specs.Sources.{statements}
use Rattle.pal8_tape.specs.Joins.{pass_on}
use Rattle.pal8_listing.specs.Notes.{notes_read}
use Rattle.pal8_listing.proofs.ItemLemmas.{ends_one, goes_on}
use Rattle.pal8_listing.proofs.notes.note_byte.Goals as goal

pub returns-in-Some : goal.returns-in-Some
returns-in-Some c = λ first here looked.
    ends_one notes_read first here c.args.byte c.args.lexer.now c.push_byte.new.lexer c.args.pass.now c.args.found.now.items looked c.in-Some.end
    (subst (λ (e : Option End). EndsStatement here c.args.byte e c.push_byte.new.lexer) c.in-Some.is (c.in_ok-end.ensures here looked.has_read))
    c.note_statement.new.found.items c.note_statement.new.pass c.note_statement.result (c.note_statement.ensures (limit (length here)) (pass_on first (statements here)) looked.follows)

pub returns-in-None : goal.returns-in-None
returns-in-None c = λ first here looked.
    goes_on notes_read first here c.args.byte c.args.lexer.now c.push_byte.new.lexer c.args.pass.now c.args.found.now.items looked
    (subst (λ (e : Option End). EndsStatement here c.args.byte e c.push_byte.new.lexer) c.in-None.is (c.in_ok-end.ensures here looked.has_read))
