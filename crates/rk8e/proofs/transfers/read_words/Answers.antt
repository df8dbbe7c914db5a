use Rattle.std.proofs.Common.{◌≡◌, ℕ, ◌+◌, ◌*◌, length, slice_index, ap, subst, ◌∙◌, arith, length-set}
use Rattle.rk8e.specs.Command.{sector_of, words_moved}
use Rattle.rk8e.specs.Transfer.{word_read}
use Rattle.rk8e.proofs.MoveLemmas.{are_numbers, read_more}
use Rattle.rk8e.proofs.transfers.read_words.Goals as goal

pub loop-k-preserved : goal.loop-k-preserved
loop-k-preserved c =
    let size : length c.set.new.self ≡ length c.loop-k.core =
    ap length c.set.ensures.value ∙ length-set c.loop-k.core c.cell.result c.word_at-word.result in
    let place : 256 * c.sector-first.result + c.from.result ≡ 256 * sector_of c.args.control.now + c.loop-k.k = omega arith in
    record {
      size = size ∙ c.loop-k.invariant.size;
      cells = rw c.set.ensures.value
          (read_more c.args.control.now c.loop-k.k c.args.words.now c.loop-k.core c.args.core.now c.cell.result c.word_at-word.result
          (omega arith) c.cell.ensures.address (omega arith) c.cell.ensures.value
          (c.word_at-word.ensures.value ∙ ap (λ i. slice_index c.args.words.now i) place) c.loop-k.invariant.cells);
    }

pub returns : goal.returns
returns c =
    let last : c.loop-k.k ≡ c.words_moved-k-end.result = omega arith in
    are_numbers c.loop-k.core (length c.args.core.now)
    (word_read c.args.control.now (words_moved c.args.control.now) c.args.words.now c.args.core.now)
    c.loop-k.invariant.size
    (λ i h. subst (λ (k : ℕ). slice_index c.loop-k.core i ≡ word_read c.args.control.now k c.args.words.now c.args.core.now i)
    (last ∙ c.words_moved-k-end.ensures.value) (c.loop-k.invariant.cells i h))
