use Rattle.std.proofs.Common.{take, get_or, refl, ap, sym, subst, ◌∙◌}
use Rattle.pal_lex.specs.Text.{text_of}
use Rattle.pal8_lex.specs.Reading.{HasRead}
use Rattle.pal8_lex.specs.Statements.{statements}
use Rattle.source_places.proofs.PlaceLemmas.{next_byte}
use Rattle.pal8_tape.specs.Marks.{mark_in}
use Rattle.pal8_tape.proofs.marks.fault_mark.Goals as goal

pub loop-taken-preserved : goal.loop-taken-preserved
loop-taken-preserved c =
    let text = c.args.source.now in
    let taken = c.loop-taken.taken in
    let next = sym (next_byte text taken (get_or text taken 0) c.loop-taken-test.true refl) in
    let looked = c.in_ok-next.ensures (text_of (take taken text)) c.loop-taken.invariant.read c.loop-taken.invariant.mark in
    record {
      read = subst (HasRead c.look.new.lexer) next looked.1;
      mark = looked.0 ∙ ap (λ t. mark_in c.args.code.now c.in_ok-radix.radix c.args.start (statements t)) next;
    }
