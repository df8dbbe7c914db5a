use Rattle.std.proofs.Common.{◌≡◌, ◌++◌, List, ℕ, ap, sym, subst, ◌∙◌}
use Rattle.pal_lex.specs.Text.{text_of}
use Rattle.source_listing.specs.declared.listing.ListingForm.{ListingForm}
use Rattle.pal8_listing.specs.Listings.{symbols_text}
use Rattle.pal8_listing.specs.Steps.{AreByName}
use Rattle.pal8_listing.specs.Uses.{later_starts, mentions}
use Rattle.pal8_listing.specs.declared.mentions.Mention.{Mention}
use Rattle.pal8_listing.proofs.ListingLemmas.{cross_is}
use Rattle.pal8_listing.proofs.listing.put_symbols.Goals as goal

pub returns-in_ok-put_cross-in-Cross-clause-symbols : goal.returns-in_ok-put_cross-in-Cross-clause-symbols
returns-in_ok-put_cross-in-Cross-clause-symbols c = λ sources join_is counts_are.
    let options = c.args.options in
    let join = c.args.join.now.text.items in
    let counts = c.args.join.now.counts.items in
    let entries = c.args.parts.now.names.entries in
    let old = c.args.text.now.items in
    let new = c.put_cross.new.text.items in
    let whole = mentions options (text_of join) in
    let by : AreByName whole c.deref-in-Cross-4.result.now =
    subst (λ (found : List Mention). AreByName whole found) (sym c.deref-in-Cross-4.ensures.value)
    (subst (λ (t : List ℕ). AreByName (mentions options (text_of t)) c.in_ok-found-in-Cross.found.items) c.deref-in-Cross-2.ensures.value c.in_ok-found-in-Cross.ensures) in
    subst (λ (form : ListingForm). new ≡ old ++ symbols_text form options sources entries) (sym c.in-Cross.is)
    (cross_is options sources counts join old new c.deref-in-Cross-3.result.now entries join_is counts_are
    (c.deref-in-Cross-3.ensures.value ∙ c.in_ok-starts-in-Cross.ensures ∙ ap (λ k. later_starts 1 k c.deref-in-Cross.result.now) c.deref.ensures.value
    ∙ ap (later_starts 1 counts) c.deref-in-Cross.ensures.value)
    (c.in_ok-put_cross-in-Cross.ensures whole by))
