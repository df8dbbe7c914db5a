use Rattle.std.proofs.Common.{sym, ◌∙◌, arith}
use Rattle.std.proofs.lemmas.Bool.{false≢true}
use Rattle.pointer_flow.proofs.SettledLemmas.{all_below, none_below, none_yet}
use Rattle.pointer_flow.proofs.cell_states.has_any.Goals as goal

pub loop-number-init : goal.loop-number-init
loop-number-init c = none_below c.args.states.now.bits.items c.args.cell

pub loop-number-preserved : goal.loop-number-preserved
loop-number-preserved c =
    none_yet c.args.states.now.bits.items c.args.cell c.loop-number.number c.state_at.result c.state_at.ensures.value (sym c.has.ensures ∙ c.if-has.false)
    c.loop-number.invariant

pub returns : goal.returns
returns c = (
  λ is. absurd (false≢true is),
  λ found. absurd (c.loop-number.invariant found.0
      ((all_below c.args.states.now.bits.items c.args.cell c.loop-number.number
      (omega (arith, c.loop-number-test.false, c.loop-number.auto.number-end)) found.0).1 found.1)),
)
