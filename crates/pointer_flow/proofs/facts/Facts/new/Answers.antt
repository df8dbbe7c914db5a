use Rattle.std.proofs.Common.{◌≡◌, length, slice_index_or, refl, ap, sym, ◌∙◌, arith}
use Rattle.word12.specs.declared.sizes.TheConstants.{CORE}
use Rattle.pointer_flow.proofs.HandlerLemmas.{replicated_size, whole}
use Rattle.pointer_flow.proofs.facts.Facts.new.Goals as goal

pub count_all-requires-clause-increments : goal.count_all-requires-clause-increments
count_all-requires-clause-increments c = c.deref_mut.ensures.value ∙ c.in_ok-increments.ensures

pub count_all-requires-clause-arguments : goal.count_all-requires-clause-arguments
count_all-requires-clause-arguments c = c.deref_mut-2.ensures.value ∙ c.in_ok-arguments.ensures

pub invariant_of-result : goal.invariant_of-result
invariant_of-result c = record {
  sized = (
    c.requires.words,
    c.requires.data_flags,
    c.in_ok-increments.increments.ok.0 ∙ replicated_size CORE c.in_ok-increments.increments.items 0 c.in_ok-increments.ensures,
    c.in_ok-arguments.arguments.ok.0 ∙ replicated_size CORE c.in_ok-arguments.arguments.items 0 c.in_ok-arguments.ensures,
    c.in_ok-flags.ensures.size,
  );
}

pub returns : goal.returns
returns c = λ starts.
    let increments_size : length c.in_ok-increments.increments.items ≡ CORE = replicated_size CORE c.in_ok-increments.increments.items 0 c.in_ok-increments.ensures in
    let arguments_size : length c.in_ok-arguments.arguments.items ≡ CORE = replicated_size CORE c.in_ok-arguments.arguments.items 0 c.in_ok-arguments.ensures in
    let increments = whole c.in_ok-increments.increments.len c.count_all.new.increments c.in_ok-increments.increments.items
    (omega (arith, c.count_all.auto.increments, ap length c.deref_mut.ensures.value, c.in_ok-increments.increments.ok.0)) in
    let arguments = whole c.in_ok-arguments.arguments.len c.count_all.new.arguments c.in_ok-arguments.arguments.items
    (omega (arith, c.count_all.auto.arguments, ap length c.deref_mut-2.ensures.value, c.in_ok-arguments.arguments.ok.0)) in
    record {
      size = c.requires.words;
      data_size = c.requires.data_flags;
      increments_size = ap length increments ∙ (omega (arith, c.count_all.auto.increments, ap length c.deref_mut.ensures.value, increments_size));
      arguments_size = ap length arguments ∙ (omega (arith, c.count_all.auto.arguments, ap length c.deref_mut-2.ensures.value, arguments_size));
      handlers_size = sym c.in_ok-flags.flags.ok.0 ∙ c.in_ok-flags.ensures.size;
      words_are = refl;
      data_are = λ cell. refl;
      increments_are = λ cell small. ap (λ l. slice_index_or l cell 0) increments ∙ c.count_all.ensures.increments cell small;
      arguments_are = λ cell small. ap (λ l. slice_index_or l cell 0) arguments ∙ c.count_all.ensures.arguments cell small;
      handlers_are = c.in_ok-flags.ensures.cells;
    }
