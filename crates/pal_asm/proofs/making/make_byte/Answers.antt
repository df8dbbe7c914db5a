use Rattle.std.proofs.Common.{ℕ, List, false, subst, sym}
use Rattle.std.proofs.lemmas.Result.{err_from_is_err_and}
use Rattle.pal_asm.specs.Passing.{HasMade}
use Rattle.pal_asm.proofs.MakingLemmas.{made_byte, made_not}
use Rattle.pal_asm.proofs.making.make_byte.Goals as goal

pub returns : goal.returns
returns c = λ whole prefix here several has within.
    made_byte c.pause_joins.ensures c.byte_goes_on.ensures c.pause_is_bad.ensures whole c.args.pass.now c.make_answer.new.pass c.reserve.new.self.items c.make_answer.new.pairs.items c.push.new.self c.in_ok-answer.answer c.make_answer.result
    prefix several here c.args.byte c.in_ok-answer.ensures.answers c.in_ok-answer.ensures.paused c.push.ensures.setting c.make_answer.ensures
    (subst (λ (l : List (ℕ × ℕ)). HasMade whole c.args.pass.now l prefix several here false) (sym c.in_ok-reserve.ensures.items) has) within

pub returns-in_err-answer : goal.returns-in_err-answer
returns-in_err-answer c = λ whole prefix here several has within.
    let p = err_from_is_err_and c.from_residual-in_err-answer.result c.from_residual-in_err-answer.ensures.1 in rw p.1
    (made_not c.byte_goes_on.ensures c.no_fault_before.ensures c.no_lexical_fault.ensures whole c.args.pass.now c.reserve.new.self.items c.push.new.self _ p.0 prefix several here c.args.byte p.2
    c.in_err-answer.ensures.answers c.in_err-answer.ensures.paused
    (subst (λ (l : List (ℕ × ℕ)). HasMade whole c.args.pass.now l prefix several here false) (sym c.in_ok-reserve.ensures.items) has) within)
