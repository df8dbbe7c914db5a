use Rattle.std.proofs.Common.{◌∷◌, arith}
use Rattle.core_image.proofs.ReadLemmas.{segment_more, all_read}
use Rattle.core_image.proofs.reading.judge.Goals as goal

pub loop-number-preserved : goal.loop-number-preserved
loop-number-preserved c =
    let older = c.loop-number.invariant.older in
    let read = c.loop-number.invariant.read in
    record {
      older = (c.in_ok-control.field-0-0, c.in_ok-control.control) ∷ older;
      read =
          segment_more c.args.words.now c.loop-number.number c.loop-number.block c.blocks-block.result older (c.in_ok-control.field-0-0, c.in_ok-control.control)
          c.blocks-block.ensures.value c.blocks-block.ensures.range read (c.in_ok-control.ensures older read (omega (arith, c.requires.count)));
    }

pub returns : goal.returns
returns c =
    all_read c.args.words.now c.loop-number.number c.loop-number.block c.args.count c.requires.count (omega arith) (omega arith) c.loop-number.invariant
