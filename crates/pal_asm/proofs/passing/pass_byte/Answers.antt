use Rattle.std.proofs.lemmas.Result.{err_from_is_err_and}
use Rattle.pal_asm.proofs.PassingLemmas.{passed_byte, refused_byte}
use Rattle.pal_asm.proofs.passing.pass_byte.Goals as goal

pub returns : goal.returns
returns c = λ prefix here several has.
    passed_byte c.pause_joins.ensures c.args.pass.now c.keep.new.pass c.push.new.self c.in_ok-answer.answer prefix several here c.args.byte c.requires c.in_ok-answer.ensures.answers c.in_ok-answer.ensures.paused c.push.ensures.setting c.keep.ensures.paused c.keep.ensures.kept has

pub returns-in_err-answer : goal.returns-in_err-answer
returns-in_err-answer c = λ prefix here several has.
    let p = err_from_is_err_and c.from_residual.result c.from_residual.ensures.1 in rw p.1
    (refused_byte c.byte_goes_on.ensures c.lexical_fault_is_told.ensures c.args.pass.now c.push.new.self _ p.0 prefix several here c.args.byte p.2 c.requires c.in_err-answer.ensures.answers c.in_err-answer.ensures.paused has)
