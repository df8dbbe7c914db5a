use Rattle.std.proofs.Common.{◌∷◌, arith}
use Rattle.core_image.proofs.ReadLemmas.{segment_more, pairs_more}
use Rattle.core_image.proofs.reading.pairs_of.Goals as goal

pub loop-number-preserved : goal.loop-number-preserved
loop-number-preserved c =
    let older = c.loop-number.invariant.older in
    let read = c.loop-number.invariant.read in
    record {
      older = (c.in_ok-first.first, c.in_ok-first.control) ∷ older;
      read =
          segment_more c.args.words.now c.loop-number.number c.loop-number.block c.blocks-block.result older (c.in_ok-first.first, c.in_ok-first.control)
          c.blocks-block.ensures.value c.blocks-block.ensures.range read (c.in_ok-first.ensures older read (omega (arith, c.requires.count)));
      pairs_are =
          pairs_more c.args.words.now c.loop-number.block c.at.result c.in_ok-first.first c.in_ok-first.control c.pages.result older
          c.loop-number.pairs.items c.put_words.new.pairs.items read.block_is c.pages.ensures.value
          (omega (arith, c.at.ensures.number, c.field.ensures.value)) c.loop-number.invariant.pairs_are c.in_ok-put_words.ensures;
    }
