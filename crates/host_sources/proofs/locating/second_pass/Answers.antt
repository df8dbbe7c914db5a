use Rattle.std.proofs.Common.{◌+◌, ◌∷◌, ◌++◌, true, false, take, drop, get_or, refl, ap, subst, ◌∙◌}
use Rattle.pal_lex.specs.Text.{text_of}
use Rattle.pal_lex.specs.Statements.{statements}
use Rattle.pal_lex.specs.Progress.{Setting}
use Rattle.host_sources.specs.Steps.{MakesByte}
use Rattle.host_sources.proofs.LocateLemmas.{second_begins, in_whole, as_whole, second_on, second_settled}
use Rattle.host_sources.proofs.locating.second_pass.Goals as goal

pub loop-taken-init : goal.loop-taken-init
loop-taken-init c =
    second_begins c.args.text.now c.without_tokens-lexer.result c.args.assembler.now c.without_tokens-lexer.ensures.read c.requires.second
    (ap (λ (s : Setting). s.may_pause) c.without_tokens-lexer.ensures.setting)

pub loop-taken-preserved : goal.loop-taken-preserved
loop-taken-preserved c =
    let text = c.args.text.now in
    let taken = c.loop-taken.taken in
    let byte = get_or text taken 0 in
    let here = text_of (take taken text) in
    let later = text_of (drop (taken + 1) text) in
    let stands = c.loop-taken.invariant in
    second_on text taken byte c.make.new.lexer c.make.new.assembler c.loop-taken-test.true refl (c.make.ensures.setting ∙ stands.may)
    (in_whole text taken byte true c.make.new.lexer c.make.new.assembler c.loop-taken-test.true refl
    (subst (λ goes. MakesByte (statements (later ++ byte ∷ here)) here byte goes c.make.new.lexer c.make.new.assembler) c.if-not-branch.false
    (c.in_ok-make.ensures.makes here later stands.read stands.may stands.going
    (as_whole text taken byte (statements here) c.loop-taken.assembler c.loop-taken-test.true refl stands.second))))

pub returns-then-not-branch-clause-settled : goal.returns-then-not-branch-clause-settled
returns-then-not-branch-clause-settled c =
    let text = c.args.text.now in
    let taken = c.loop-taken.taken in
    let byte = get_or text taken 0 in
    let here = text_of (take taken text) in
    let later = text_of (drop (taken + 1) text) in
    let stands = c.loop-taken.invariant in
    second_settled text taken byte c.loop-taken.lexer c.make.new.lexer c.loop-taken.assembler c.make.new.assembler c.loop-taken-test.true refl stands
    (in_whole text taken byte false c.make.new.lexer c.make.new.assembler c.loop-taken-test.true refl
    (subst (λ goes. MakesByte (statements (later ++ byte ∷ here)) here byte goes c.make.new.lexer c.make.new.assembler) c.if-not-branch.true
    (c.in_ok-make.ensures.makes here later stands.read stands.may stands.going
    (as_whole text taken byte (statements here) c.loop-taken.assembler c.loop-taken-test.true refl stands.second))))
