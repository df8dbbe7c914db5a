use Rattle.std.proofs.Common.{◌≡◌, ℕ, ◌+◌, ◌*◌, length, slice_index, subst, arith}
use Rattle.rk8e.specs.Command.{sector_of}
use Rattle.rk8e.specs.Transfer.{pack_word}
use Rattle.rk8e.proofs.MoveLemmas.{are_numbers, write_more}
use Rattle.rk8e.proofs.transfers.write_words.Goals as goal

pub loop-k-preserved : goal.loop-k-preserved
loop-k-preserved c =
    let place : 256 * c.sector-first.result + c.from.result ≡ 256 * sector_of c.args.control.now + c.loop-k.k = omega arith in
    rw c.set_word.ensures
    (write_more c.args.control.now c.loop-k.k c.args.core.now c.loop-k.words c.args.words.now
    (256 * c.sector-first.result + c.from.result) c.written_word-word.result (omega arith) place c.written_word-word.ensures
    c.loop-k.invariant)

pub returns : goal.returns
returns c =
    let last : c.loop-k.k ≡ 256 = omega arith in
    are_numbers c.loop-k.words (length c.args.words.now) (pack_word c.args.control.now 256 c.args.core.now c.args.words.now)
    c.loop-k.auto.words
    (λ i h. subst (λ (k : ℕ). slice_index c.loop-k.words i ≡ pack_word c.args.control.now k c.args.core.now c.args.words.now i)
    last (c.loop-k.invariant i h))
