use Rattle.std.proofs.Common.{◌≡◌, ◌++◌, length, map}
use Rattle.pal8_tape.specs.Joins.{bytes_in}
use Rattle.pal8_tape.specs.Further.{ended_texts}
use Rattle.pal8_tape.proofs.texts.ended_texts.Given as goal

abbrev pub invariant-loop-rest : goal.invariant-loop-rest
invariant-loop-rest l = map (λ text. text.items) l.texts.items ++ ended_texts (bytes_in l.rest) ≡ ended_texts (bytes_in l.fn.sources)

abbrev pub decreases-loop-rest : goal.decreases-loop-rest
decreases-loop-rest l = length l.rest
