use Rattle.std.proofs.Common.{not, ◌||◌, take, drop, ap, sym, ◌∙◌}
use Rattle.std.proofs.Math.Path.{fun_ext}
use Rattle.pal_lex.specs.Text.{text_of, is_over}
use Rattle.pal_lex.specs.Statements.{statements}
use Rattle.pal_asm.specs.Places.{values}
use Rattle.source_places.specs.Places.{place_in, place_by}
use Rattle.host_sources.specs.Places.{is_refused}
use Rattle.host_sources.specs.Symbols.{meaning_in}
use Rattle.host_sources.specs.JudgeSteps.{faults_of_words}
use Rattle.host_sources.specs.Further.{word_faults}
use Rattle.host_sources.proofs.FurtherLemmas.{told_further, told_lexical}
use Rattle.host_sources.proofs.further.further_faults.Goals as goal

pub returns-then-not-branch-clause-faults : goal.returns-then-not-branch-clause-faults
returns-then-not-branch-clause-faults c =
    let join = c.in_ok-join.join in
    c.in_ok-faults.ensures.faults
    ∙ told_lexical c.args.sources.now c.args.most join.text.items join.counts.items c.in_ok-is_passed.field-0 c.in_ok-join.ensures.text c.in_ok-join.ensures.counts
    (c.in_ok-is_passed.ensures.passed ∙ ap (λ t. not (is_refused (text_of t) || not (is_over (text_of t)))) c.deref.ensures.value) c.if-not-branch.true

pub returns-clause-faults : goal.returns-clause-faults
returns-clause-faults c =
    let sources = c.args.sources.now in
    let most = c.args.most in
    let text = c.in_ok-join.join.text.items in
    let counts = c.in_ok-join.join.counts.items in
    let last = meaning_in c.in_ok-last.last.symbols in
    let found = c.in_ok-found.found.items in
    c.in_ok-faults-2.ensures.faults
    ∙ ap (λ l. faults_of_words (λ at. place_by sources (place_in counts at)) text l) (c.further.ensures ∙ ap (λ l. take most (drop 1 l)) c.deref-4.ensures.value)
    ∙ told_further sources most (text_of text) text counts last found c.in_ok-is_passed.field-0 c.in_ok-join.ensures.text c.in_ok-join.ensures.counts
    (fun_ext (λ n. c.in_ok-last.ensures.names.values n) ∙ ap (λ t. values (statements (text_of t))) c.deref-2.ensures.value)
    (λ place. ap (λ t. faults_of_words place t found) (sym c.deref-3.ensures.value) ∙ c.in_ok-found.ensures.found place ∙ ap (λ t. word_faults place last (text_of t)) c.deref-3.ensures.value)
    (c.in_ok-is_passed.ensures.passed ∙ ap (λ t. not (is_refused (text_of t) || not (is_over (text_of t)))) c.deref.ensures.value) c.if-not-branch.false
