use Rattle.std.proofs.Common.{subst}
use Rattle.pal8_grammar.specs.SourceNames.{own_value}
use Rattle.pal8_values.specs.Sums.{early_value}
use Rattle.pal8_values.specs.Answering.{Answers}
use Rattle.pal8_places.proofs.tags.early_at.Goals as goal

pub returns : goal.returns
returns c =
    subst (λ s. Answers (early_value (own_value c.args.names.now.table) s c.args.steps.now) c.early_value.result) c.spot_at.ensures c.early_value.ensures
