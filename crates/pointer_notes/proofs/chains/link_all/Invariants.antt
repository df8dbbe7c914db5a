use Rattle.pointer_notes.specs.Steps.{view_in}
use Rattle.pointer_notes.proofs.ChainLemmas.{AreChainsFrom}
use Rattle.pointer_notes.proofs.NodeLemmas.{stands_for}
use Rattle.pointer_notes.proofs.chains.link_all.Given as goal

abbrev pub invariant-loop-number : goal.invariant-loop-number
invariant-loop-number l = AreChainsFrom (stands_for l.kind (view_in l.views)) l.first l.next l.number
