use Rattle.std.proofs.Common.{Option, get_or, refl, take, subst, arith}
use Rattle.pal_lex.specs.Text.{text_of}
use Rattle.pal8_lex.specs.declared.rules.End.{End}
use Rattle.pal8_asm.specs.Pushing.{EndsStatement}
use Rattle.pal8_asm.specs.Walking.{statement_in}
use Rattle.source_places.proofs.PlaceLemmas.{next_byte}
use Rattle.pal8_tape.specs.MendSteps.{text_in}
use Rattle.pal8_tape.proofs.MendLemmas.{found_more, length_taken, none_more}
use Rattle.pal8_tape.proofs.mending.look.Goals as goal

pub returns-in-None : goal.returns-in-None
returns-in-None c = λ read is.
    let text = c.args.mending.text.now in
    let at = c.args.at in
    let older = text_of (take at text) in
    let byte = get_or text at 0 in
    none_more c.args.mending at older byte c.push_byte.new.lexer _ (next_byte text at byte c.requires.inside refl) _ is
    (subst (λ (e : Option End). EndsStatement older byte e c.push_byte.new.lexer) c.in-None.is (c.in_ok-end.ensures older read))

pub returns-in-Some : goal.returns-in-Some
returns-in-Some c = λ read is.
    let text = c.args.mending.text.now in
    let at = c.args.at in
    let older = text_of (take at text) in
    let byte = get_or text at 0 in
    found_more c.args.mending at older byte c.push_byte.new.lexer _ (next_byte text at byte c.requires.inside refl) _ is c.in-Some.end
    (statement_in at c.shown_statement.result) (text_in c.find.new.found)
    (subst (λ (e : Option End). EndsStatement older byte e c.push_byte.new.lexer) c.in-Some.is (c.in_ok-end.ensures older read)) (c.shown_statement.ensures at)
    (length_taken text at (omega (arith, c.requires.inside))) c.requires.small c.find.result c.find.ensures
