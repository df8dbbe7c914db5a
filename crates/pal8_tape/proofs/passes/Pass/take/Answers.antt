use Rattle.std.proofs.Common.{sym, subst, ◌∙◌}
use Rattle.pal8_asm.specs.Walking.{statement_in}
use Rattle.pal8_tape.specs.Passing.{Follows, PassState}
use Rattle.pal8_tape.proofs.PassLemmas.{fails, fault_settles, going, taken}
use Rattle.pal8_tape.proofs.passes.Pass.take.Goals as goal

pub returns-in-Ok : goal.returns-in-Ok
returns-in-Ok c = λ at left follows.
    let s = statement_in at c.args.statement in
    let walk = c.self.inside.walk in
    let p : PassState = record { names = walk.names; position = walk.position; brackets = walk.brackets; is_over = c.self.inside.is_over } in
    let before = subst (λ (q : PassState). Follows q left) (sym c.self.view_is) follows in
    taken s p left c.if-self.false (sym c.is_selected.ensures ∙ c.if-not-is_selected.false) before _ c.is_dollar-self-inside.ensures
    (_, (c.in-Ok.ensures {u = tt}).passes at (going s p left c.if-self.false before).0)

pub returns-in-Err-At : goal.returns-in-Err-At
returns-in-Err-At c = λ at left follows.
    let s = statement_in at c.args.statement in
    let walk = c.self.inside.walk in
    let p : PassState = record { names = walk.names; position = walk.position; brackets = walk.brackets; is_over = c.self.inside.is_over } in
    let before = subst (λ (q : PassState). Follows q left) (sym c.self.view_is) follows in
    fails s p left c.if-self.false (sym c.is_selected.ensures ∙ c.if-not-is_selected.false) before
    (fault_settles s walk c.pass_selected.new.walk c.in-Err-At.field-0 c.in-Err-At.field-0-0 c.in-Err-At.field-0-is ((c.in-Err-At.ensures {u = tt}).passes at)
    (going s p left c.if-self.false before).0)
