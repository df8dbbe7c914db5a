use Rattle.std.proofs.Common.{◌≡◌, ℕ, ◌+◌, ◌-◌, ◌*◌, ◌++◌, length, replicate, ap, ◌∙◌, arith, rules}
use Rattle.std.proofs.lemmas.List.{length-append, length-replicate}
use Rattle.char_pack.specs.Packing.{words_of_bytes, group_count, block_words, block_count}
use Rattle.char_pack.specs.Texts.{host_text, text_frames}
use Rattle.char_pack.proofs.PackLemmas.{length-packed}
use Rattle.char_pack.proofs.TextLemmas.{length-text_frames}
use Rattle.char_pack.proofs.storing.stored_words.Goals as goal

pub returns-clause-words : goal.returns-clause-words
unfolding block_words
returns-clause-words c =
    let bytes = text_frames (host_text c.args.host.now) in
    let packed_is : c.push_text.new.words.items ≡ words_of_bytes bytes = search rules in
    let size : length bytes ≡ length (host_text c.args.host.now) + 1 = length-text_frames (host_text c.args.host.now) in
    let left : c.saturating_sub-left.result ≡ 256 * block_count (length bytes) - 2 * group_count (length bytes) =
    omega (arith, length-packed bytes, ap length packed_is, c.push_text.new.words.ok.0) in
    c.in_ok-push_zeros.ensures
    ∙ ap (λ words. words ++ replicate c.saturating_sub-left.result 0) packed_is
    ∙ ap (λ count. words_of_bytes bytes ++ replicate count 0) left

pub returns-clause-length : goal.returns-clause-length
unfolding block_words
returns-clause-length c =
    let bytes = text_frames (host_text c.args.host.now) in
    let packed_is : c.push_text.new.words.items ≡ words_of_bytes bytes = search rules in
    let size : length bytes ≡ length (host_text c.args.host.now) + 1 = length-text_frames (host_text c.args.host.now) in
    omega (
      arith,
      length-packed bytes,
      ap length packed_is,
      ap length c.in_ok-push_zeros.ensures,
      length-append c.push_text.new.words.items (replicate c.saturating_sub-left.result 0),
      length-replicate {A = ℕ} c.saturating_sub-left.result 0,
      c.push_text.new.words.ok.0,
      c.push_zeros.new.words.ok.0,
    )
