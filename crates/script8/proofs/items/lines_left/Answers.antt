use Rattle.std.proofs.Common.{◌∙◌, ◌-◌, ap}
use Rattle.script8.proofs.ItemLemmas.{fewer_wanted}
use Rattle.script8.proofs.items.lines_left.Goals as goal

pub returns-clause-waits : goal.returns-clause-waits
returns-clause-waits c = λ text. fewer_wanted text c.args.bytes.now c.args.lines _ (c.saturating_sub.ensures ∙ ap (λ n. c.args.lines - n) c.ends_in.ensures)
