use Rattle.std.proofs.Common.{◌+◌, ◌-◌, ◌++◌, arith}
use Rattle.source_notes.specs.Notes.{some_cells}
use Rattle.source_notes.proofs.CommentLemmas.{put_more}
use Rattle.source_notes.proofs.chains.put_cells.Goals as goal

pub loop-put-preserved : goal.loop-put-preserved
loop-put-preserved c = λ cells chain.
    put_more c.args.next.now (c.args.text.now.items ++ some_cells 8 cells) c.loop-put.text.items c.put_cell.new.text.items c.loop-put.rest
    c.in-Some.cell c.index.result
    c.index-next-index.result (8 - c.loop-put._put) (8 - (c.loop-put._put + 1)) (omega (arith, c.loop-put-test.true)) c.in-Some.is
    c.index.ensures.value
    (omega (arith, c.index.ensures.range, c.requires)) c.index-next-index.is c.in_ok-put_cell.ensures (c.loop-put.invariant cells chain)
