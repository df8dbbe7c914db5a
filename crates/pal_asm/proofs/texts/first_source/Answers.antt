use Rattle.std.proofs.Common.{[], inl}
use Rattle.std.proofs.lemmas.Result.{err_from_is_err_and}
use Rattle.pal_lex.specs.Laws.{has_next}
use Rattle.pal_asm.specs.Texts.{texts}
use Rattle.pal_asm.proofs.SourceLemmas.{passes_on, passes_not}
use Rattle.pal_asm.proofs.texts.first_source.Goals as goal

pub returns : goal.returns
returns c = λ before begins.
    passes_on c.source_ends_join.ensures before c.args.source.now (texts c.args.others.now) c.pass_text.new.offset c.go_on.result c.pass_text.new.pass c.go_on.new.pass
    c.in_ok-pass_text.ensures.none.1 c.in_ok-pass_text.ensures.none.0 (c.in_ok-pass_text.ensures.passes before [] (has_next (texts c.args.others.now)) (inl (begins.0, begins.1))) c.go_on.ensures.goes c.go_on.ensures.same.0 c.go_on.ensures.same.1

pub returns-in_err-pass_text : goal.returns-in_err-pass_text
returns-in_err-pass_text c = λ before begins.
    let p = err_from_is_err_and c.from_residual.result c.from_residual.ensures.1 in rw (p.1, p.2)
    (passes_not c.join_goes_on.ensures c.statements_stay.ensures before c.args.source.now (texts c.args.others.now) c.pass_text.new.offset _ c.pass_text.new.pass
    (c.in_err-pass_text.ensures.passes before [] (has_next (texts c.args.others.now)) (inl (begins.0, begins.1))))
