use Rattle.std.proofs.Common.{take, get_or, refl, ap, sym, subst, ◌∙◌}
use Rattle.pal_lex.specs.Text.{text_of}
use Rattle.pal_lex.specs.Statements.{radix_after, statements}
use Rattle.pal_lex.specs.Reading.{HasRead}
use Rattle.pal_lex.specs.Progress.{Setting}
use Rattle.source_places.proofs.PlaceLemmas.{next_byte}
use Rattle.pal_asm.proofs.TextLemmas.{nothing_read}
use Rattle.host_sources.specs.RadixSteps as spec
use Rattle.host_sources.proofs.ReadingLemmas.{fine_order}
use Rattle.host_sources.proofs.radixes.is_decimal.Goals as goal

pub loop-taken-init : goal.loop-taken-init
loop-taken-init c = record {
  radix = sym (ap (λ s. spec.is_decimal (radix_after s)) nothing_read);
  read = c.without_tokens-lexer.ensures.read;
  may = ap (λ (s : Setting). s.may_pause) c.without_tokens-lexer.ensures.setting;
}

pub loop-taken-preserved : goal.loop-taken-preserved
loop-taken-preserved c =
    let text = c.args.text.now in
    let taken = c.loop-taken.taken in
    let inside = c.loop-taken-test.true in
    let stands = c.loop-taken.invariant in
    let next = sym (next_byte text taken (get_or text taken 0) inside refl) in
    let took =
    c.in_ok-next.ensures.takes (text_of (take taken text)) stands.read stands.may (fine_order text taken c.statements_stay.ensures c.no_fault_before.ensures inside c.requires)
    stands.radix in
    record {
      radix = took.0 ∙ ap (λ t. spec.is_decimal (radix_after (statements t))) next;
      read = subst (HasRead c.take.new.lexer 0) next took.1;
      may = c.take.ensures.setting ∙ stands.may;
    }
