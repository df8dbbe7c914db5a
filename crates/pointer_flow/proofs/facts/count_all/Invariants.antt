use Rattle.std.proofs.Common.{◌≡◌, ℕ, ◌<◌, length, min, slice_index_or}
use Rattle.word12.specs.declared.sizes.TheConstants.{CORE}
use Rattle.flow8.specs.Flow.{word_in}
use Rattle.pointer_flow.specs.Programs.{count_below}
use Rattle.pointer_flow.specs.Steps.{moves_first, takes_by_first}
use Rattle.pointer_flow.proofs.facts.count_all.Given as goal

abbrev pub invariant-loop-number : goal.invariant-loop-number
invariant-loop-number l = record {
  increments_size : length l.increments ≡ CORE;
  arguments_size : length l.arguments ≡ CORE;
  increments : (first : ℕ) → first < CORE → slice_index_or l.increments first 0 ≡ min 4 (count_below (moves_first (word_in l.words) first) l.number);
  arguments : (first : ℕ) → first < CORE → slice_index_or l.arguments first 0 ≡ min 4 (count_below (takes_by_first (word_in l.words) first) l.number);
}
