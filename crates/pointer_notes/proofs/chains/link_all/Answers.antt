use Rattle.std.proofs.Common.{◌-◌, ap, sym, arith}
use Rattle.pointer_flow.specs.Programs.{is_number}
use Rattle.pointer_notes.specs.Steps.{view_in}
use Rattle.pointer_notes.proofs.ChainLemmas.{begins, built_on, ended}
use Rattle.pointer_notes.proofs.NodeLemmas.{chained, stands_for}
use Rattle.pointer_notes.proofs.chains.link_all.Goals as goal

pub loop-number-init : goal.loop-number-init
loop-number-init c = begins (stands_for c.args.kind (view_in c.args.views.now)) c.args.first.now c.args.next.now c.requires.first c.requires.next

pub loop-number-preserved : goal.loop-number-preserved
loop-number-preserved c =
    let view = view_in c.args.views.now in
    let number = c.loop-number.number - 1 in
    built_on (stands_for c.args.kind view) c.loop-number.first c.loop-number.next c.link.new.first c.link.new.next c.loop-number.number
    number number c.node_cell.result
    (omega (arith, c.loop-number-test.true)) (omega arith) (omega (arith, c.loop-number-test.true, c.loop-number.auto.number))
    (λ other. ap (λ o. is_number o other) (sym c.node_cell.ensures.value))
    c.link.ensures.first c.link.ensures.next c.loop-number.invariant

pub returns : goal.returns
returns c =
    let view = view_in c.args.views.now in
    chained c.args.kind view c.loop-number.first c.loop-number.next
    (ended (stands_for c.args.kind view) c.loop-number.first c.loop-number.next c.loop-number.number
    (omega (arith, c.loop-number-test.false)) c.loop-number.invariant)
