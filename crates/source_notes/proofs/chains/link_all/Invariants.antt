use Rattle.flow8.specs.Flow.{word_in}
use Rattle.source_notes.specs.Notes.{is_flagged}
use Rattle.source_notes.specs.Tables.{names_by}
use Rattle.source_notes.proofs.ChainLemmas.{AreChainsFrom}
use Rattle.source_notes.proofs.chains.link_all.Given as goal

abbrev pub invariant-loop-number : goal.invariant-loop-number
invariant-loop-number l = AreChainsFrom (names_by l.kind (word_in l.words) (is_flagged l.code)) l.first l.next l.number
