use Rattle.std.proofs.Common.{false, length, ap, ◌∙◌}
use Rattle.word12.specs.declared.sizes.TheConstants.{CORE}
use Rattle.pointer_flow.proofs.FlowLemmas.{wide_by}
use Rattle.pointer_flow.proofs.HandlerLemmas.{replicated_size}
use Rattle.pointer_flow.proofs.ReturnLemmas.{returns_by}
use Rattle.pointer_flow.proofs.flows.wide_writers.Goals as goal

pub returns : goal.returns
returns c = record {
  none = c.in_ok-reached.ensures.none;
  size = c.in_ok-all.ensures.size;
  returns_size = c.in_ok-returns.ensures.size;
  writers = λ p facts starts gives.
      wide_by p c.args.facts.now.words.now c.args.candidates.now c.in_ok-all.all.items c.in_ok-no_skip_cells.no_skip_cells.items c.deref.result.now CORE
      c.in_ok-no_skip_cells.ensures c.deref.ensures.value facts.words_are facts.size gives
      (record {
        reached = c.in_ok-reached.reached.bits.items;
        walk = c.in_ok-reached.ensures.reached p facts starts;
        are = c.in_ok-all.ensures.writers p facts;
      });
  returns = λ p facts starts gives.
      returns_by p c.args.facts.now.words.now c.args.candidates.now c.in_ok-returns.returns.items c.in_ok-reached.reached.bits.items
      c.in_ok-no_skip_cells.no_skip_cells.items c.deref.result.now CORE c.in_ok-no_skip_cells.ensures c.deref.ensures.value facts.words_are facts.size gives
      (c.in_ok-reached.ensures.reached p facts starts) (c.in_ok-returns.ensures.writers p facts);
}
