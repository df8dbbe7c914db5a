use Rattle.std.proofs.Common.{take, drop, ap, ◌∙◌}
use Rattle.pal8_listing.specs.Rows as spec
use Rattle.pal8_listing.proofs.ListingLemmas.{is_listed, rows_are}
use Rattle.pal8_listing.proofs.listing.text_of.Goals as goal

pub returns-clause-listing : goal.returns-clause-listing
returns-clause-listing c =
    let sources = c.args.sources.now in
    let parts = c.args.parts.now in
    is_listed c.args.form c.args.options sources parts c.split.result.0.now c.split.result.1.now c.in_ok-words.words.items c.put_rows.new.text.items c.put_pool.new.text.items
    c.extend_from_slice.new.self.items c.put_symbols.new.text.items c.requires.parts (c.split.ensures.first ∙ ap (take parts.word_count) c.deref.ensures.value)
    (c.split.ensures.others ∙ ap (drop parts.word_count) c.deref.ensures.value)
    (c.in_ok-words.ensures ∙ ap (spec.listed_words c.split.result.0.now) c.deref-2.ensures.value)
    (rows_are c.args.options sources c.new-text.result.items c.put_rows.new.text.items c.deref-3.result.now c.deref-4.result.now c.deref-5.result.now c.in_ok-words.words.items
    c.new-text.ensures.items (c.deref-3.ensures.value ∙ c.requires.counts) (c.deref-4.ensures.value ∙ c.requires.text) c.deref-5.ensures.value
    (c.in_ok-put_rows.ensures {u = tt}))
    (c.in_ok-put_pool.ensures {u = tt}) c.in_ok-extend_from_slice.ensures.items (c.in_ok-put_symbols.ensures.symbols sources c.requires.text c.requires.counts)
