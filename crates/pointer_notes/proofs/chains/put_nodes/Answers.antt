use Rattle.std.proofs.Common.{◌+◌, ◌-◌, ◌++◌, arith}
use Rattle.source_notes.specs.Notes.{some_cells}
use Rattle.pointer_notes.specs.Tables.{halves}
use Rattle.pointer_notes.proofs.CommentLemmas.{put_more}
use Rattle.pointer_notes.proofs.chains.put_nodes.Goals as goal

pub loop-put-preserved : goal.loop-put-preserved
loop-put-preserved c = λ nodes chain.
    put_more c.args.next.now (c.args.text.now.items ++ some_cells 8 (halves nodes)) c.loop-put.text.items c.put_cell.new.text.items c.loop-put.rest
    c.in-Some.node c.cell_of.result c.next_of-rest.result (8 - c.loop-put._put) (8 - (c.loop-put._put + 1)) (omega (arith, c.loop-put-test.true)) c.in-Some.is
    c.next_of-rest.ensures c.cell_of.ensures c.in_ok-put_cell.ensures (c.loop-put.invariant nodes chain)
