use Rattle.std.proofs.Common.{◌≡◌, ◌<◌, ◌∙◌, ap, [], length, slice_index_or, arith}
use Rattle.std.proofs.lemmas.List.{get_or_read}
use Rattle.std.proofs.lemmas.List.Elements.{All-get_or}
use Rattle.volume_image.specs.Volume.{IsBlock}
use Rattle.volume_image.proofs.ImageWords.{range-more, words-more}
use Rattle.volume_image.proofs.images.put_blocks.Goals as goal

pub loop-number-preserved : goal.loop-number-preserved
loop-number-preserved c =
    let blocks = c.args.blocks.now in
    let number = c.loop-number.number in
    let within : number < length blocks = c.loop-number-test.true in
    let is : c.index-blocks-number.result ≡ slice_index_or blocks number [] =
    get_or_read blocks number _ within c.index-blocks-number.is [] in
    let size : length c.index-blocks-number.result ≡ 256 = ap length is ∙ All-get_or IsBlock blocks number [] within c.requires.each in
    let new = c.put_words.new.bytes in
    let old = c.loop-number.bytes in
    record {
      range = range-more new old number c.loop-number.invariant.range c.put_words.ensures.before
          (λ k h. c.put_words.ensures.range k (omega arith));
      words = words-more blocks c.index-blocks-number.result new old number is c.loop-number.invariant.words c.put_words.ensures.before
          (λ k h. c.put_words.ensures.words k (omega arith));
    }
