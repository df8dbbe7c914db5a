use Rattle.std.proofs.Common.{◌+◌, ap, sym, subst, ◌∙◌, arith}
use Rattle.pointer_flow.specs.Calls.{call_of}
use Rattle.pointer_flow.specs.Settled.{IsEarliest, IsMarkedAt}
use Rattle.pointer_flow.proofs.SettledLemmas.{IsMarkedBelow, all_below, earliest_as, earliest_more, none_below}
use Rattle.pointer_flow.proofs.StateLemmas.{number_at, number_in_cell}
use Rattle.pointer_flow.proofs.cell_states.earliest_call.Goals as goal

pub loop-number-init : goal.loop-number-init
loop-number-init c = λ p facts s is. absurd (none_below c.args.states.now.bits.items c.args.cell s is)

pub loop-number-preserved : goal.loop-number-preserved
loop-number-preserved c = λ p facts.
    subst (IsEarliest (IsMarkedBelow c.args.states.now.bits.items c.args.cell (c.loop-number.number + 1)) (λ s. call_of p s c.args.word))
    (sym c.earlier_call-found.ensures)
    (earliest_more c.args.states.now.bits.items c.args.cell c.loop-number.number c.args.word (call_of p) c.loop-number.found c.call_in.result
    c.state_at.result c.state_at.ensures.range (ap (λ x. x.cell) c.state_at.ensures.value) c.state_at.ensures.value
    (ap number_in_cell c.state_at.ensures.value ∙ number_at c.args.cell c.loop-number.number c.loop-number-test.true) (c.call_in.ensures p facts)
    (c.loop-number.invariant p facts))

pub returns : goal.returns
returns c = λ p facts.
    earliest_as (IsMarkedBelow c.args.states.now.bits.items c.args.cell c.loop-number.number) (IsMarkedAt c.args.states.now.bits.items c.args.cell)
    (λ s. call_of p s c.args.word) c.loop-number.found
    (all_below c.args.states.now.bits.items c.args.cell c.loop-number.number (omega (arith, c.loop-number-test.false, c.loop-number.auto.number-end)))
    (c.loop-number.invariant p facts)
