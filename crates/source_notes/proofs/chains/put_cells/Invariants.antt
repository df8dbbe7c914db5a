use Rattle.std.proofs.Common.{ℕ, List, ◌-◌, ◌++◌}
use Rattle.source_notes.specs.Notes.{some_cells}
use Rattle.source_notes.specs.Tables.{IsChain}
use Rattle.source_notes.proofs.CommentLemmas.{IsPutTo}
use Rattle.source_notes.proofs.chains.put_cells.Given as goal

abbrev pub invariant-loop-put : goal.invariant-loop-put
invariant-loop-put l = (cells : List ℕ) → IsChain l.next l.fn.first cells
    → IsPutTo l.next (l.fn.text.items ++ some_cells 8 cells) l.text.items l.rest (8 - l._put)
