use Rattle.std.proofs.Common.{nat_eq}
use Rattle.pointer_flow.specs.Tables.{state_number}
use Rattle.pointer_flow.proofs.ReturnLemmas.{inserted, not_inserted}
use Rattle.pointer_flow.proofs.returns.insert_if.Goals as goal

pub returns-then-is_so : goal.returns-then-is_so
returns-then-is_so c = λ number.
    inserted c.args.states.now.bits.items c.insert.new.self.bits.items c.args.state.now number c.args.is_so c.if-is_so.true c.insert.ensures.marked
    c.insert.ensures.others

pub returns-else-is_so : goal.returns-else-is_so
returns-else-is_so c = λ number.
    not_inserted c.args.states.now.bits.items number c.args.is_so (nat_eq number (state_number c.args.state.now)) c.if-is_so.false
