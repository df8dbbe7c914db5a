use Rattle.std.proofs.Common.{[], ◌∷◌, ◌++◌, take, ap, sym, subst, ◌∙◌}
use Rattle.pal_lex.specs.Text.{text_of}
use Rattle.pal_lex.specs.Statements.{statements}
use Rattle.pal_lex.specs.Reading.{HasRead}
use Rattle.pal_asm.specs.Faults.{first_order}
use Rattle.source_listing.specs.Rows as spec
use Rattle.source_listing.proofs.word_ends.word_ends.Goals as goal

pub loop-taken-preserved : goal.loop-taken-preserved
loop-taken-preserved c =
    let text = c.args.text.now in
    let taken = c.loop-taken.taken in
    let here = text_of (take taken text) in
    let stands = c.loop-taken.invariant in
    let grows = c.fine_by_bytes.ensures text taken c.loop-taken-test.true in
    let took = c.in_ok-word.ensures.word here stands.read stands.may (sym (ap (λ t. first_order (statements t)) grows.0) ∙ grows.1 c.requires) in
    record {
      ends = c.in_ok-put_end.ensures ∙ ap (λ l. l ++ c.in_ok-word.word ∷ []) stands.ends ∙ ap (λ w. spec.word_ends here ++ w ∷ []) took.0 ∙ sym (ap spec.word_ends grows.0);
      read = subst (HasRead c.ends_word.new.lexer 0) (sym grows.0) took.1;
      may = c.ends_word.ensures.setting ∙ stands.may;
    }
