use Rattle.std.proofs.Common.{get_or, ap, subst, ◌∙◌}
use Rattle.pal_lex.specs.Text.{text_of}
use Rattle.source_listing.specs.References.{mentions, AreByName}
use Rattle.source_listing.specs.SpotSteps.{all_spots, no_spot}
use Rattle.source_listing.proofs.StandLemmas.{mentions_stand}
use Rattle.source_listing.proofs.listing.sorted_mentions.Goals as goal

pub returns-clause-sorted : goal.returns-clause-sorted
returns-clause-sorted c =
    let sources = c.args.sources.now in
    let text = text_of c.deref-2.result.now in
    subst (λ l. AreByName l c.sort.new.found.items)
    (c.in_ok-found.ensures.mentions
    ∙ ap (λ l. mentions (λ at. get_or l at no_spot) text) (c.deref-3.ensures.value ∙ c.in_ok-spots.ensures ∙ ap (all_spots 1 sources) (c.deref.ensures.value ∙ c.requires.counts))
    ∙ mentions_stand sources text (ap text_of c.deref-2.ensures.value ∙ c.requires.text)) c.in_ok-sort.ensures
