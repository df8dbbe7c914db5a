use Rattle.std.proofs.Common.{◌≡◌, Ok, Err, length, subst}
use Rattle.pal8_places.specs.Places.{truth_of, with_statement}
use Rattle.pal8_asm.specs.Sources.{brackets_with}
use Rattle.pal8_asm.specs.Steps.{PassesEnd}
use Rattle.pal8_asm.specs.Walking.{standing_of, statement_in}
use Rattle.pal8_asm.specs.declared.walks.Walk.{Walk}
use Rattle.pal8_asm.proofs.WalkLemmas.{end_fails, goes_on}
use Rattle.pal8_asm.proofs.walks.pass_selected.Goals as goal

pub returns-clause-passes : goal.returns-clause-passes
returns-clause-passes c = λ at.
    let s = statement_in at c.args.statement in
    let old = c.args.walk.now in
    let body = c.in_ok-body.body in
    let new : Walk = record { names = c.pass_statement.new.names; position = c.in-Ok.next; brackets = c.pass_end.new.brackets; reader = c.read_statement.new.self } in
    goes_on s old new body c.in_ok-body.ensures
    (subst (λ l. with_statement s.tokens body l (length s.string) (standing_of old) ≡ Ok (standing_of new)) c.steps-steps.ensures
    (c.in-Ok.ensures {u = tt}).passes)
    (λ place. subst (λ l. brackets_with place s.end old.brackets (truth_of body l (standing_of new)) ≡ Ok new.brackets) c.steps-steps.ensures
    (c.in-Ok-pass_end.ensures {u = tt} place))

pub returns-in-Err-pass_end-clause-passes : goal.returns-in-Err-pass_end-clause-passes
returns-in-Err-pass_end-clause-passes c = λ at.
    let s = statement_in at c.args.statement in
    let old = c.args.walk.now in
    let body = c.in_ok-body.body in
    let new : Walk = record { names = c.pass_statement.new.names; position = c.in-Ok.next; brackets = c.pass_end.new.brackets; reader = c.read_statement.new.self } in
    end_fails s old new body c.in_ok-body.ensures
    (subst (λ l. with_statement s.tokens body l (length s.string) (standing_of old) ≡ Ok (standing_of new)) c.steps-steps.ensures
    (c.in-Ok.ensures {u = tt}).passes)
    c.in-Err-pass_end.stop _
    (λ place. subst (λ l. PassesEnd place (brackets_with place s.end old.brackets (truth_of body l (standing_of new))) (Err c.in-Err-pass_end.stop) new.brackets)
    c.steps-steps.ensures (c.in-Err-pass_end.ensures {u = tt} place))
