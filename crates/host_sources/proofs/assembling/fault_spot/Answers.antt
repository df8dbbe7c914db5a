use Rattle.std.proofs.Common.{ap, ◌∙◌}
use Rattle.pal_lex.specs.Text.{text_of}
use Rattle.source_places.specs.Places.{place_in, place_by}
use Rattle.host_sources.specs.Sources.{newest_first}
use Rattle.host_sources.specs.Places.{place_at_byte}
use Rattle.host_sources.specs.Marks.{fault_mark}
use Rattle.host_sources.specs.Unknowns.{unknown_name, about}
use Rattle.host_sources.proofs.assembling.fault_spot.Goals as goal

pub returns-clause-spot : goal.returns-clause-spot
returns-clause-spot c =
    let sources = c.args.sources.now in
    let code = c.args.code in
    let mark = c.in_ok-mark.mark in
    let named = c.in_ok-name.ensures.name ∙ ap (λ t. about code (unknown_name (text_of t))) c.deref-2.ensures.value ∙ ap (λ t. about code (unknown_name t)) c.requires.text in
    let marked =
    c.in_ok-mark.ensures.mark ∙ ap (λ t. fault_mark code c.in_ok-name.name (text_of t)) c.deref-3.ensures.value ∙ ap (fault_mark code c.in_ok-name.name) c.requires.text
    ∙ ap (λ n. fault_mark code n (newest_first sources)) named in (
      c.in_ok-place.ensures ∙ ap (λ k. place_by sources (place_in k mark.at)) (c.deref-4.ensures.value ∙ c.requires.counts) ∙ ap (λ m. place_at_byte sources m.at) marked,
      ap (λ m. m.about) marked,
    )
