use Rattle.std.proofs.Common.{arith}
use Rattle.pointer_flow.proofs.ReturnLemmas.{returns_all, returns_more, returns_none}
use Rattle.pointer_flow.proofs.returns.return_states.Goals as goal

pub loop-number-init : goal.loop-number-init
loop-number-init c = λ p facts. returns_none p c.args.reached.now.bits.items c.in_ok-states.states.bits.items c.in_ok-states.ensures

pub loop-number-preserved : goal.loop-number-preserved
loop-number-preserved c = λ p facts.
    returns_more p c.args.reached.now.bits.items c.loop-number.states.bits.items c.insert_if.new.states.bits.items c.loop-number.number c.state_of-state.result
    c.is_return_state.result c.state_of-state.ensures.value (c.is_return_state.ensures p facts) c.insert_if.ensures (c.loop-number.invariant p facts)

pub returns : goal.returns
returns c = λ p facts.
    returns_all p c.args.reached.now.bits.items c.loop-number.states.bits.items c.loop-number.number
    (omega (arith, c.loop-number-test.false, c.loop-number.auto.number-end)) c.loop-number.states.sized (c.loop-number.invariant p facts)
