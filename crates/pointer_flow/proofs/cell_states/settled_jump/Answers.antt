use Rattle.std.proofs.Common.{◌+◌, ap, sym, subst, ◌∙◌, arith}
use Rattle.pointer_flow.specs.States.{jump_field}
use Rattle.pointer_flow.specs.Settled.{IsSettled, IsMarkedAt}
use Rattle.pointer_flow.proofs.SettledLemmas.{IsMarkedBelow, all_below, none_below, settled_as, settled_more}
use Rattle.pointer_flow.proofs.StateLemmas.{number_at, number_in_cell}
use Rattle.pointer_flow.proofs.cell_states.settled_jump.Goals as goal

pub loop-number-init : goal.loop-number-init
loop-number-init c = none_below c.args.states.now.bits.items c.args.cell

pub loop-number-preserved : goal.loop-number-preserved
loop-number-preserved c =
    let s = c.state_at-state.result in
    subst (IsSettled (IsMarkedBelow c.args.states.now.bits.items c.args.cell (c.loop-number.number + 1)) (λ s. jump_field s.cell s.buffer)) (sym c.with_field_if-settled.ensures)
    (settled_more c.args.states.now.bits.items c.args.cell c.loop-number.number (λ s. jump_field s.cell s.buffer) c.loop-number.settled s c.has.result c.jump_field-field.result
    c.state_at-state.ensures.range (ap (λ x. x.cell) c.state_at-state.ensures.value) c.state_at-state.ensures.value
    (ap number_in_cell c.state_at-state.ensures.value ∙ number_at c.args.cell c.loop-number.number c.loop-number-test.true) c.has.ensures c.jump_field-field.ensures.value
    c.loop-number.invariant)

pub returns : goal.returns
returns c =
    settled_as (IsMarkedBelow c.args.states.now.bits.items c.args.cell c.loop-number.number) (IsMarkedAt c.args.states.now.bits.items c.args.cell)
    (λ s. jump_field s.cell s.buffer) c.loop-number.settled
    (all_below c.args.states.now.bits.items c.args.cell c.loop-number.number (omega (arith, c.loop-number-test.false, c.loop-number.auto.number-end)))
    c.loop-number.invariant
