use Rattle.std.proofs.Common.{ap, sym, subst, ◌∙◌}
use Rattle.tape_source.specs.Steps.{HoldsFlags, tagged_below}
use Rattle.tape_source.specs.Tags.{is_flagged}
use Rattle.tape_source.proofs.TapeLemmas.{whole_written}
use Rattle.tape_source.proofs.MarkLemmas.{mark_first}
use Rattle.tape_source.proofs.tags.tags_of.Goals as goal

pub returns-clause-tags : goal.returns-clause-tags
returns-clause-tags c = λ look items holds told named cell small.
    let first = mark_first look items c.args.words.now c.args.names.now c.in_ok-tags.tags.items holds named c.in_ok-tags.ensures.tags in
    ap (λ tags. is_flagged tags cell) (whole_written c.in_ok-tags.tags.len c.mark_all.new.tags c.in_ok-tags.tags.items (c.mark_all.auto.tags ∙ c.deref_mut.ensures.len))
    ∙ c.mark_all.ensures look items holds told (subst (HoldsFlags (tagged_below look items 0)) (sym c.deref_mut.ensures.value) first) cell small
