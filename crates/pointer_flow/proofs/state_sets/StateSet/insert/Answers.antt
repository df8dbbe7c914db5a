use Rattle.std.proofs.Common.{refl, ap, ◌∙◌, sym, length, arith}
use Rattle.pointer_flow.specs.Tables.{is_bit_set, state_number}
use Rattle.pointer_flow.proofs.HandlerLemmas.{whole}
use Rattle.pointer_flow.proofs.state_sets.StateSet.insert.Goals as goal

pub set_bit-requires : goal.set_bit-requires
set_bit-requires c = omega (arith, c.state_number.ensures.range, ap length c.deref_mut.ensures.value, c.args.self.now.sized)

pub invariant_of-self : goal.invariant_of-self
invariant_of-self c =
    let old = c.args.self.now.bits in
    let kept = whole old.len c.set_bit.new.bits old.items (omega (arith, c.set_bit.auto.bits, ap length c.deref_mut.ensures.value, old.ok.0)) in
    record { sized = omega (arith, ap length kept, c.set_bit.auto.bits, ap length c.deref_mut.ensures.value, c.args.self.now.sized) }

pub returns : goal.returns
returns c =
    let old = c.args.self.now.bits in
    let kept = whole old.len c.set_bit.new.bits old.items (omega (arith, c.set_bit.auto.bits, ap length c.deref_mut.ensures.value, old.ok.0)) in
    record {
      size = refl;
      marked =
          ap (λ l. is_bit_set l (state_number c.args.state.now)) kept ∙ ap (is_bit_set c.set_bit.new.bits) (sym c.state_number.ensures.value) ∙ c.set_bit.ensures.marked;
      others = λ number apart.
          ap (λ l. is_bit_set l number) kept ∙ c.set_bit.ensures.others number (λ is. apart (is ∙ c.state_number.ensures.value))
          ∙ ap (λ l. is_bit_set l number) c.deref_mut.ensures.value;
    }
