use Rattle.std.proofs.Common.{List, length}
use Rattle.pal8_grammar.specs.SourceNames.{own_value}
use Rattle.pal8_pools.specs.Asks.{Ask}
use Rattle.pal8_pools.specs.Pooled.{Holds}
use Rattle.pal8_values.specs.Words.{word_value}
use Rattle.pal8_values.proofs.WordLemmas.{IsOnTheWay}
use Rattle.pal8_values.proofs.words.word_value.Given as goal

-- the steps that are left come to what all of them come to
abbrev pub invariant-loop-rest : goal.invariant-loop-rest
invariant-loop-rest l =
    (asks punched : List Ask) → Holds l.fn.pools asks punched
    → IsOnTheWay (own_value l.fn.names) l.fn.spot (word_value (own_value l.fn.names) l.fn.spot l.fn.steps asks punched) l.rest l.sum l.frames l.pools

abbrev pub decreases-loop-rest : goal.decreases-loop-rest
decreases-loop-rest l = length l.rest
