use Rattle.std.proofs.Common.{◌≡◌, ◌++◌, length}
use Rattle.source_places.specs.Spelling.{spelt}
use Rattle.source_places.proofs.spelling.put_characters.Given as goal

abbrev pub invariant-loop-rest : goal.invariant-loop-rest
invariant-loop-rest l = l.text.items ++ spelt l.rest ≡ l.initial.text.items ++ spelt l.codes

abbrev pub decreases-loop-rest : goal.decreases-loop-rest
decreases-loop-rest l = length l.rest
