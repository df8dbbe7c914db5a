use Rattle.std.proofs.Common.{◌≡◌, ◌∙◌, ◌-◌, ℕ, ◌<◌, length, slice_index, ap, rules, subst}
use Rattle.image_kind.specs.Judging.{judged_kind}
use Rattle.image_kind.specs.Margins.{margins_by, margins_in}
use Rattle.image_kind.specs.Volumes.{volumes_in, volumes_with}
use Rattle.image_kind.specs.declared.margins.Margins.{Margins}
use Rattle.image_kind.specs.Sizes.{block_words, mended_size, words_within}
use Rattle.image_kind.specs.Mending.{first_of, size_of, wide_words, words_of}
use Rattle.image_kind.specs.Steps.{AreOff}
use Rattle.image_kind.proofs.FileLemmas.{is_mended}
use Rattle.image_kind.proofs.mending.mend_file.Goals as goal

pub returns : goal.returns
returns c =
    let given = c.args.given in
    let is_plain = c.args.is_plain in
    let file = c.args.file.items in
    let fitted = c.fit.new.bytes.items in
    let kind : c.judged_kind-kind.result ≡ judged_kind is_plain file = c.judged_kind-kind.ensures ∙ ap (judged_kind is_plain) c.deref.ensures.value in
    let long : c.len-old.result ≡ length file = search rules in
    let margins : c.margins_with-margins.result ≡ margins_in given is_plain file = c.margins_with-margins.ensures ∙ ap (margins_by given) kind in
    let size : c.mended_size-new.result ≡ size_of given is_plain file = c.mended_size-new.ensures
    ∙ ap (λ k. mended_size given k c.len-old.result) kind ∙ ap (mended_size given (judged_kind is_plain file)) long in
    let first : c.margins_with-margins.result.before ≡ first_of given is_plain file = ap (λ (m : Margins). m.before) margins in
    let words : c.words_within-words.result ≡ words_of given is_plain file = c.words_within-words.ensures
    ∙ ap (λ (m : Margins). words_within m c.mended_size-new.result) margins ∙ ap (words_within (margins_in given is_plain file)) size in
    let block : c.block_words-block.result ≡ block_words (volumes_in given is_plain file) = c.block_words-block.ensures.value
    ∙ ap block_words (c.volumes_with.ensures ∙ ap (volumes_with given) kind) in
    is_mended given is_plain file fitted _
    (c.in_ok-fit.ensures.size ∙ size)
    (subst (λ z. (k : ℕ) → k < z → slice_index fitted k ≡ slice_index file k) size c.in_ok-fit.ensures.same)
    (subst (λ s. AreOff s (words_of given is_plain file) fitted c.take_off_bits.new.bytes.items) first
    (subst (λ n. AreOff c.margins_with-margins.result.before n fitted c.take_off_bits.new.bytes.items) words c.take_off_bits.ensures))
    (c.in_ok-wide.ensures ∙ ap (λ l. wide_words c.block_words-block.result l c.margins_with-margins.result.before c.words_within-words.result) c.deref-2.ensures.value
    ∙ ap (λ b. wide_words b fitted c.margins_with-margins.result.before c.words_within-words.result) block
    ∙ ap (λ s. wide_words (block_words (volumes_in given is_plain file)) fitted s c.words_within-words.result) first
    ∙ ap (wide_words (block_words (volumes_in given is_plain file)) fitted (first_of given is_plain file)) words)
    (c.saturating_sub.ensures ∙ ap (λ z. z - c.len-old.result) size ∙ ap (λ l. size_of given is_plain file - l) long)
    (c.saturating_sub-2.ensures ∙ ap (λ z. c.len-old.result - z) size ∙ ap (λ l. l - size_of given is_plain file) long)
