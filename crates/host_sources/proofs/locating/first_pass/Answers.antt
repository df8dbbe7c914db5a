use Rattle.std.proofs.Common.{take, get_or, refl, ap, subst, ◌∙◌}
use Rattle.pal_lex.specs.Text.{text_of}
use Rattle.pal_lex.specs.Progress.{Setting}
use Rattle.host_sources.specs.Steps.{PassesByte}
use Rattle.host_sources.proofs.LocateLemmas.{first_begins, first_on, first_over, first_refused}
use Rattle.host_sources.proofs.locating.first_pass.Goals as goal

pub loop-taken-init : goal.loop-taken-init
loop-taken-init c =
    first_begins c.args.text.now c.without_tokens-lexer.result c.args.assembler.now c.without_tokens-lexer.ensures.read c.requires
    (ap (λ (s : Setting). s.may_pause) c.without_tokens-lexer.ensures.setting)

pub returns-in-Over-clause-passes : goal.returns-in-Over-clause-passes
returns-in-Over-clause-passes c =
    let text = c.args.text.now in
    let taken = c.loop-taken.taken in
    let stands = c.loop-taken.invariant in
    first_over text taken (get_or text taken 0) c.loop-taken.lexer c.pass.new.lexer c.loop-taken.assembler c.pass.new.assembler c.loop-taken-test.true refl stands
    (subst (λ s. PassesByte (text_of (take taken text)) (get_or text taken 0) s c.pass.new.lexer c.pass.new.assembler) c.in-Over.is
    (c.in_ok-pass.ensures.passes (text_of (take taken text)) stands.read stands.may stands.going stands.first))

pub returns-in-Refused-clause-passes : goal.returns-in-Refused-clause-passes
returns-in-Refused-clause-passes c =
    let text = c.args.text.now in
    let taken = c.loop-taken.taken in
    let stands = c.loop-taken.invariant in
    first_refused text taken (get_or text taken 0) c.loop-taken.lexer c.pass.new.lexer c.loop-taken.assembler c.pass.new.assembler c.loop-taken-test.true refl stands
    (subst (λ s. PassesByte (text_of (take taken text)) (get_or text taken 0) s c.pass.new.lexer c.pass.new.assembler) c.in-Refused.is
    (c.in_ok-pass.ensures.passes (text_of (take taken text)) stands.read stands.may stands.going stands.first))

pub loop-taken-preserved : goal.loop-taken-preserved
loop-taken-preserved c =
    let text = c.args.text.now in
    let taken = c.loop-taken.taken in
    let stands = c.loop-taken.invariant in
    first_on text taken (get_or text taken 0) c.pass.new.lexer c.pass.new.assembler c.loop-taken-test.true refl (c.pass.ensures.setting ∙ stands.may)
    (subst (λ s. PassesByte (text_of (take taken text)) (get_or text taken 0) s c.pass.new.lexer c.pass.new.assembler) c.in-GoesOn.is
    (c.in_ok-pass.ensures.passes (text_of (take taken text)) stands.read stands.may stands.going stands.first))
