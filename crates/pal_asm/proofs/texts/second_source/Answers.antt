use Rattle.std.proofs.Common.{[], inl}
use Rattle.std.proofs.lemmas.Result.{err_from_is_err_and}
use Rattle.pal_lex.specs.Laws.{has_next}
use Rattle.pal_lex.specs.Statements.{statements}
use Rattle.pal_asm.specs.Texts.{texts}
use Rattle.pal_asm.proofs.SourceLemmas.{is_within, makes_on, makes_not}
use Rattle.pal_asm.proofs.texts.second_source.Goals as goal

pub returns : goal.returns
returns c = λ whole before is ends begins.
    makes_on c.source_ends_join.ensures whole before c.args.source.now (texts c.args.others.now) c.make_text.new.offset c.go_on.result c.make_text.new.pass c.go_on.new.pass c.make_text.new.pairs.items
    c.in_ok-make_text.ensures.range is ends
    (c.in_ok-make_text.ensures.makes (statements whole) before [] (has_next (texts c.args.others.now)) (inl (begins.0, begins.1)) (is_within whole before c.args.source.now (texts c.args.others.now) is))
    c.go_on.ensures.goes c.go_on.ensures.same.0 c.go_on.ensures.same.1

pub returns-in_err-make_text : goal.returns-in_err-make_text
returns-in_err-make_text c = λ whole before is ends begins.
    let p = err_from_is_err_and c.from_residual.result c.from_residual.ensures.1 in rw (p.1, p.2)
    (makes_not c.join_goes_on.ensures c.statements_stay.ensures whole before c.args.source.now (texts c.args.others.now) c.make_text.new.offset _ c.make_text.new.pass c.make_text.new.pairs.items is
    (c.in_err-make_text.ensures.makes (statements whole) before [] (has_next (texts c.args.others.now)) (inl (begins.0, begins.1)) (is_within whole before c.args.source.now (texts c.args.others.now) is)))
