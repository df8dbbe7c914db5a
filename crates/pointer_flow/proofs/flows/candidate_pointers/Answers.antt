use Rattle.std.proofs.Common.{None, false, length, ap, sym, ◌∙◌}
use Rattle.word12.specs.declared.sizes.TheConstants.{CORE}
use Rattle.pointer_flow.proofs.FlowLemmas.{candidates_by}
use Rattle.pointer_flow.proofs.HandlerLemmas.{replicated_size}
use Rattle.pointer_flow.proofs.flows.candidate_pointers.Goals as goal

pub writers_by-requires-clause-pointers : goal.writers_by-requires-clause-pointers
writers_by-requires-clause-pointers c =
    ap length c.deref.ensures.value ∙ replicated_size CORE c.in_ok-pointers.pointers.items None c.in_ok-pointers.ensures

pub writers_by-requires-clause-no_skip_cells : goal.writers_by-requires-clause-no_skip_cells
writers_by-requires-clause-no_skip_cells c =
    ap length c.deref-2.ensures.value ∙ replicated_size CORE c.in_ok-no_skip_cells.no_skip_cells.items false c.in_ok-no_skip_cells.ensures

pub returns : goal.returns
returns c = record {
  none = c.in_ok-writers.ensures.none;
  size = c.in_ok-candidates.ensures.size;
  candidates = λ p facts starts.
      candidates_by p c.args.facts.now.words.now c.in_ok-candidates.candidates.items c.in_ok-pointers.pointers.items c.deref.result.now
      c.in_ok-writers.writers.items c.deref-3.result.now c.in_ok-no_skip_cells.no_skip_cells.items c.deref-2.result.now CORE c.in_ok-pointers.ensures
      c.deref.ensures.value c.in_ok-no_skip_cells.ensures c.deref-2.ensures.value c.deref-3.ensures.value facts.words_are facts.size
      (sym c.in_ok-candidates.candidates.ok.0 ∙ c.in_ok-candidates.ensures.size) (c.in_ok-writers.ensures.writers p facts starts)
      c.in_ok-candidates.ensures.words;
}
