use Rattle.std.proofs.Common.{ap, ◌∙◌, length, arith}
use Rattle.pointer_flow.specs.Tables.{is_bit_set}
use Rattle.pointer_flow.proofs.state_sets.StateSet.has.Goals as goal

pub is_bit_set-requires : goal.is_bit_set-requires
is_bit_set-requires c = omega (arith, c.state_number.ensures.range, ap length c.deref.ensures.value, c.args.self.now.sized)

pub returns : goal.returns
returns c =
    c.is_bit_set.ensures ∙ ap (λ l. is_bit_set l c.state_number.result) c.deref.ensures.value
    ∙ ap (is_bit_set c.args.self.now.bits.items) c.state_number.ensures.value
