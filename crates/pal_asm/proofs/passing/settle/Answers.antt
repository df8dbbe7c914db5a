use Rattle.std.proofs.Common.{refl, Ok}
use Rattle.std.proofs.lemmas.Result.{err_from_is_err_and}
use Rattle.pal_asm.proofs.PassingLemmas.{statement_settled, statement_refused, settled_in}
use Rattle.pal_asm.proofs.passing.settle.Goals as goal

pub returns-in_ok-first-in-Some-clause-settles : goal.returns-in_ok-first-in-Some-clause-settles
returns-in_ok-first-in-Some-clause-settles c = λ source following.
    (refl, statement_settled c.in-Some.statement c.args.pass.now.assembler c.first.new.self c.args.pass.now source c.in-Some.is c.in_ok-first-in-Some.ensures.answers following)

pub returns-in_err-first-in-Some-clause-settles : goal.returns-in_err-first-in-Some-clause-settles
returns-in_err-first-in-Some-clause-settles c = λ source following.
    let p = err_from_is_err_and c.from_residual.result c.from_residual.ensures.1 in rw (p.1, p.2)
    (statement_refused c.in-Some.statement c.first.new.self c.args.pass.now source _ c.in-Some.is c.in_err-first-in-Some.ensures.answers following)

pub returns-in_ok-first-in-Some-clause-stands : goal.returns-in_ok-first-in-Some-clause-stands
returns-in_ok-first-in-Some-clause-stands c = λ prefix here several is_last has.
    settled_in c.join_goes_on.ensures c.statements_stay.ensures c.args.pass.now _ prefix several here is_last (Ok tt)
    (returns-in_ok-first-in-Some-clause-settles c) has

pub returns-in_err-first-in-Some-clause-stands : goal.returns-in_err-first-in-Some-clause-stands
returns-in_err-first-in-Some-clause-stands c = λ prefix here several is_last has.
    settled_in c.join_goes_on.ensures c.statements_stay.ensures c.args.pass.now _ prefix several here is_last c.from_residual.result
    (returns-in_err-first-in-Some-clause-settles c) has
