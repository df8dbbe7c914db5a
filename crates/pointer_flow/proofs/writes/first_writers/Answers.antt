use Rattle.std.proofs.Common.{None, length, ap, ◌∙◌, arith}
use Rattle.word12.specs.declared.sizes.TheConstants.{CORE}
use Rattle.pointer_flow.proofs.HandlerLemmas.{replicated_size, whole}
use Rattle.pointer_flow.proofs.WriteLemmas.{writers_all, writers_none, writers_step}
use Rattle.pointer_flow.proofs.writes.first_writers.Goals as goal

pub loop-number-init : goal.loop-number-init
loop-number-init c = record {
  size = replicated_size CORE c.in_ok-writers.writers.items None c.in_ok-writers.ensures;
  below = λ p facts.
      writers_none p c.args.rules.now.pointers.now c.args.reached.now.bits.items c.in_ok-writers.writers.items CORE c.in_ok-writers.ensures;
}

pub loop-number-preserved : goal.loop-number-preserved
loop-number-preserved c =
    let kept = whole c.loop-number.writers.len c.note_cell.new.writers c.loop-number.writers.items
    (omega (arith, c.note_cell.auto.writers, ap length c.deref_mut.ensures.value, c.loop-number.writers.ok.0)) in
    record {
      size = ap length kept ∙ omega (arith, c.note_cell.auto.writers, ap length c.deref_mut.ensures.value, c.loop-number.invariant.size);
      below = λ p facts.
          writers_step p c.args.rules.now.pointers.now c.args.reached.now.bits.items c.loop-number.writers.items c.deref_mut.result.now c.note_cell.new.writers
          c.loop-number.number c.of.result c.loop-number.writers.len c.of.ensures.number c.loop-number.invariant.size c.loop-number.writers.ok.0
          c.deref_mut.ensures.value (c.note_cell.ensures p facts) (c.loop-number.invariant.below p facts);
    }

pub returns : goal.returns
returns c = record {
  size = c.loop-number.writers.ok.0 ∙ c.loop-number.invariant.size;
  writers = λ p facts.
      writers_all p c.args.rules.now.pointers.now c.args.reached.now.bits.items c.loop-number.writers.items c.args.rules.now.facts.now.words.now
      c.loop-number.number (omega (arith, c.loop-number-test.false, c.loop-number.auto.number-end)) c.loop-number.invariant.size facts.words_are facts.size
      (c.loop-number.invariant.below p facts);
}
