use Rattle.std.proofs.Common.{◌≡◌, length, arith, rules, ap}
use Rattle.char_pack.specs.Packing.{words_of_bytes}
use Rattle.char_pack.proofs.PackLemmas.{Bytes-from, is_packing, length-packed}
use Rattle.char_pack.proofs.packing.pack.Goals as goal

pub returns-clause-length : goal.returns-clause-length
returns-clause-length c =
    let bytes = c.args.bytes.now in
    let words : c.push_packed.new.words.items ≡ words_of_bytes bytes = search rules in
    omega (arith, ap length words, length-packed bytes, c.push_packed.new.words.ok.0)

pub returns-clause-packing : goal.returns-clause-packing
returns-clause-packing c =
    let bytes = c.args.bytes.now in
    let words : c.push_packed.new.words.items ≡ words_of_bytes bytes = search rules in
    rw words (is_packing bytes (Bytes-from bytes (λ k _. omega (arith, c.type_inv.bytes k))))
