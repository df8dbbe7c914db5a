use Rattle.std.proofs.Common.{take, get_or, refl, ap, sym, subst, ◌∙◌}
use Rattle.pal_lex.specs.Text.{text_of}
use Rattle.pal_lex.specs.Statements.{statements}
use Rattle.pal_lex.specs.Reading.{HasRead}
use Rattle.pal_lex.specs.Progress.{Setting}
use Rattle.source_places.proofs.PlaceLemmas.{next_byte}
use Rattle.pal_asm.proofs.TextLemmas.{nothing_read}
use Rattle.host_sources.specs.Symbols.{meaning_in, Follows}
use Rattle.host_sources.specs.JudgeSteps.{faults_of_words}
use Rattle.host_sources.proofs.ReadingLemmas.{fine_order}
use Rattle.host_sources.proofs.FurtherLemmas.{judged_more}
use Rattle.host_sources.proofs.further.word_faults.Goals as goal

pub loop-taken-init : goal.loop-taken-init
loop-taken-init c = record {
  told = λ place. ap (faults_of_words place c.args.text.now) c.new-found.ensures.items;
  follows = subst (Follows c.no_names-names.result.symbols c.no_names-names.result.place) (sym nothing_read) c.no_names-names.ensures;
  read = c.without_tokens-lexer.ensures.read;
  may = ap (λ (s : Setting). s.may_pause) c.without_tokens-lexer.ensures.setting;
}

pub loop-taken-preserved : goal.loop-taken-preserved
loop-taken-preserved c =
    let text = c.args.text.now in
    let taken = c.loop-taken.taken in
    let byte = get_or text taken 0 in
    let inside = c.loop-taken-test.true in
    let stands = c.loop-taken.invariant in
    let next = sym (next_byte text taken byte inside refl) in
    let judged =
    c.in_ok-fault.ensures.judges (text_of (take taken text)) stands.read stands.may (fine_order text taken c.statements_stay.ensures c.no_fault_before.ensures inside c.requires)
    stands.follows in
    record {
      told = λ place.
          judged_more place (meaning_in c.args.last.now) text taken c.in_ok-fault.fault c.loop-taken.found.items c.keep.new.found.items inside
          (c.in_ok-keep.ensures place text) judged.told (stands.told place);
      follows = subst (λ t. Follows c.judge_byte.new.names.symbols c.judge_byte.new.names.place (statements t)) next judged.follows;
      read = subst (HasRead c.judge_byte.new.lexer 0) next judged.read;
      may = c.judge_byte.ensures.setting ∙ stands.may;
    }
