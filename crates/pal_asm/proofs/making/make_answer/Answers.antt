use Rattle.std.proofs.Common.{◌∙◌, sym}
use Rattle.std.proofs.lemmas.Result.{err_from_is_err_and}
use Rattle.pal_asm.proofs.MakingLemmas.{answer_made, answer_refused}
use Rattle.pal_asm.proofs.making.make_answer.Goals as goal

pub returns-in_ok-handed-in-Some : goal.returns-in_ok-handed-in-Some
returns-in_ok-handed-in-Some c =
    answer_made c.args.answer.now c.in-Some.statement c.in_ok-handed-in-Some.handed c.args.pass.now c.second.new.self c.args.pairs.now.items c.put_handed.new.pairs.items c.in-Some.is (sym c.is_pause_body.ensures ∙ c.if-is_pause_body.false) c.put_handed.ensures c.in_ok-handed-in-Some.ensures.answers

pub returns-in_err-handed-in-Some : goal.returns-in_err-handed-in-Some
returns-in_err-handed-in-Some c =
    let p = err_from_is_err_and c.from_residual.result c.from_residual.ensures.1 in rw (p.1, p.2)
    (answer_refused c.args.answer.now c.in-Some.statement _ c.args.pass.now c.second.new.self c.args.pairs.now.items c.in-Some.is (sym c.is_pause_body.ensures ∙ c.if-is_pause_body.false) c.in_err-handed-in-Some.ensures.answers)
