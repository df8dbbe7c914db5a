use Rattle.std.proofs.Common.{ℕ, List, ◌-◌, ◌++◌}
use Rattle.source_notes.specs.Notes.{some_cells}
use Rattle.pointer_notes.specs.Tables.{IsChain, halves}
use Rattle.pointer_notes.proofs.CommentLemmas.{IsPutTo}
use Rattle.pointer_notes.proofs.chains.put_nodes.Given as goal

abbrev pub invariant-loop-put : goal.invariant-loop-put
invariant-loop-put l = (nodes : List ℕ) → IsChain l.next l.fn.first nodes
    → IsPutTo l.next (l.fn.text.items ++ some_cells 8 (halves nodes)) l.text.items l.rest (8 - l._put)
