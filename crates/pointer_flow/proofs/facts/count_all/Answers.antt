use Rattle.std.proofs.Common.{◌≡◌, min, slice_index_or, ap, ◌∙◌, arith}
use Rattle.word12.specs.declared.sizes.TheConstants.{CORE}
use Rattle.flow8.specs.Flow.{word_in}
use Rattle.pointer_flow.specs.Programs.{count_below, is_auto_index}
use Rattle.pointer_flow.specs.Steps.{moves_first, takes_by_first}
use Rattle.pointer_flow.proofs.FactLemmas.{arguments_counted, counted_none, counted_step}
use Rattle.pointer_flow.proofs.HandlerLemmas.{replicated_size}
use Rattle.pointer_flow.proofs.facts.count_all.Goals as goal

pub loop-number-init : goal.loop-number-init
loop-number-init c = record {
  increments_size = replicated_size CORE c.args.increments.now 0 c.requires.increments;
  arguments_size = replicated_size CORE c.args.arguments.now 0 c.requires.arguments;
  increments = λ first small.
      counted_none c.args.increments.now CORE first (moves_first (word_in c.args.words.now) first) c.requires.increments small;
  arguments = λ first small.
      counted_none c.args.arguments.now CORE first (takes_by_first (word_in c.args.words.now) first) c.requires.arguments small;
}

pub loop-number-preserved : goal.loop-number-preserved
loop-number-preserved c = record {
  increments_size = omega (arith, c.count_cell.auto.increments, c.loop-number.invariant.increments_size);
  arguments_size = omega (arith, c.count_cell.auto.arguments, c.loop-number.invariant.arguments_size);
  increments = λ first small.
      counted_step (moves_first (word_in c.args.words.now) first) c.loop-number.number c.of.result (slice_index_or c.loop-number.increments first 0)
      (slice_index_or c.count_cell.new.increments first 0) c.of.ensures.number (c.loop-number.invariant.increments first small)
      (c.count_cell.ensures.increments first small);
  arguments = λ first small.
      counted_step (takes_by_first (word_in c.args.words.now) first) c.loop-number.number c.of.result (slice_index_or c.loop-number.arguments first 0)
      (slice_index_or c.count_cell.new.arguments first 0) c.of.ensures.number (c.loop-number.invariant.arguments first small)
      (c.count_cell.ensures.arguments first small);
}

pub returns : goal.returns
returns c =
    let end : c.loop-number.number ≡ CORE = omega (arith, c.loop-number-test.false, c.loop-number.auto.number-end) in
    record {
      increments = λ first small.
          c.loop-number.invariant.increments first small
          ∙ ap (λ n. min 4 (count_below (moves_first (word_in c.args.words.now) first) n)) end;
      arguments = λ first small.
          c.loop-number.invariant.arguments first small
          ∙ ap (λ n. min 4 (count_below (takes_by_first (word_in c.args.words.now) first) n)) end
          ∙ ap (λ n. min 4 n) (arguments_counted (word_in c.args.words.now) first CORE (is_auto_index first));
    }
