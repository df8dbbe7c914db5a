use Rattle.std.proofs.Common.{length, arith, rules, ap}
use Rattle.char_pack.specs.Packing.{block_words}
use Rattle.char_pack.proofs.PackLemmas.{Bytes-from, is_block_packing}
use Rattle.char_pack.proofs.packing.pack_blocks.Goals as goal

pub returns-clause-words : goal.returns-clause-words
unfolding block_words
returns-clause-words c = search rules

pub returns-clause-length : goal.returns-clause-length
returns-clause-length c =
    let bytes = c.args.bytes.now in
    omega (
      arith,
      ap length (returns-clause-words c),
      c.push_zeros.new.words.ok.0,
      (is_block_packing bytes (Bytes-from bytes (λ k _. omega (arith, c.type_inv.bytes k)))).whole,
    )

pub returns-clause-packing : goal.returns-clause-packing
returns-clause-packing c =
    let bytes = c.args.bytes.now in
    rw (returns-clause-words c) (is_block_packing bytes (Bytes-from bytes (λ k _. omega (arith, c.type_inv.bytes k))))
