use Rattle.std.proofs.Common.{ap, ◌∙◌}
use Rattle.pal_asm.specs.Places.{with_tags as tag_values}
use Rattle.host_sources.specs.Symbols.{meaning_in}
use Rattle.host_sources.specs.Unknowns.{unknown_in}
use Rattle.host_sources.proofs.NameLemmas.{tagged_names}
use Rattle.host_sources.proofs.unknowns.unknown_after.Goals as goal

pub returns : goal.returns
returns c = λ older standing follows stands.
    let old = c.args.names.now.symbols in
    let middle = c.set_tags.new.symbols in
    let place = c.args.names.now.place in
    c.unknown_in-name.ensures
    ∙ ap (λ k. unknown_in k c.args.statement.now.body)
    (stands middle c.args.statement.now.tags older
    (tagged_names c.args.statement.now.tags older old middle place follows (λ n. c.in_ok-set_tags.ensures.values n ∙ ap (λ t. tag_values t place (meaning_in old) n) c.names.ensures)))
