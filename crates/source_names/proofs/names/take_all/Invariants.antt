use Rattle.std.proofs.Common.{◌≡◌, ◌+◌, ◌≤◌, length}
use Rattle.word12.specs.declared.sizes.TheConstants.{CORE}
use Rattle.flow8.specs.Flow.{word_in}
use Rattle.source_names.proofs.NameLemmas.{TakesTo}
use Rattle.source_names.proofs.names.take_all.Given as goal

abbrev pub invariant-loop-rest : goal.invariant-loop-rest
invariant-loop-rest l = record {
  size : length l.table ≡ CORE;
  count : l.number + length l.rest ≤ length l.text;
  takes : TakesTo (word_in l.words) l.text l.rest l.number l.table l.given;
}

abbrev pub decreases-loop-rest : goal.decreases-loop-rest
decreases-loop-rest l = length l.rest
