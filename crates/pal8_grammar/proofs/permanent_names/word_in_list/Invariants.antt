use Rattle.std.proofs.Common.{◌≡◌, IsTrue, length}
use Rattle.std.specs.Ordering.{nat_cmp}
use Rattle.std.specs.FinMap.{find}
use Rattle.pal8_grammar.specs.NameSteps.{all_words}
use Rattle.pal8_grammar.proofs.permanent_names.word_in_list.Given as goal

abbrev pub invariant-loop-rest : goal.invariant-loop-rest
invariant-loop-rest l = record {
  words : IsTrue (all_words l.rest);
  same : find nat_cmp l.name l.rest ≡ find nat_cmp l.name l.fn.list;
}

abbrev pub decreases-loop-rest : goal.decreases-loop-rest
decreases-loop-rest l = length l.rest
