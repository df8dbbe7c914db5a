use Rattle.char_pack.proofs.PackLemmas.{Bytes-from, is_packing, is_block_packing}
use Rattle.char_pack.proofs.laws.packed_bytes.Goals as goal

pub returns-clause-words : goal.returns-clause-words
returns-clause-words c = λ bytes fit. is_packing bytes (Bytes-from bytes (λ k within. fit k 0 within))

pub returns-clause-blocks : goal.returns-clause-blocks
returns-clause-blocks c = λ bytes fit. is_block_packing bytes (Bytes-from bytes (λ k within. fit k 0 within))
