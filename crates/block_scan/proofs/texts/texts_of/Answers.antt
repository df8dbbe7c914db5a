use Rattle.std.proofs.Common.{◌≡◌, ◌+◌, ◌-◌, ◌<◌, arith}
use Rattle.block_scan.proofs.PieceLemmas.{scan-more, scan-done, fewer}
use Rattle.block_scan.proofs.texts.texts_of.Goals as goal

pub loop-block-preserved : goal.loop-block-preserved
loop-block-preserved c =
    let l = c.loop-block in
    let left = c.args.count - l.block in
    let low : l.block < c.args.count = omega (arith, c.loop-block-test.true) in
    let less : c.args.count - (l.block + 1) ≡ left - 1 = omega arith in
    record {
      pieces = rw less
          (scan-more left l.block l.stretch c.stretch_after-stretch.result l.rest.now c.split_at.result.0.now c.split_at.result.1.now l.pieces.items c.put_found.new.pieces.items _
          (omega (arith, low)) c.split_at.ensures.front c.split_at.ensures.back (rw c.passage_of-way.ensures at c.in_ok-put_found.ensures)
          (rw c.passage_of-way.ensures at c.stretch_after-stretch.ensures.value) l.invariant.pieces);
      left = fewer c.args.count l.block _ _ low l.invariant.left c.split_at.ensures.back_len;
      order = c.stretch_after-stretch.ensures.order;
    }

pub returns : goal.returns
returns c =
    let l = c.loop-block in
    scan-done (c.args.count - l.block) l.block l.stretch l.rest.now l.pieces.items _ (omega arith) l.invariant.pieces
