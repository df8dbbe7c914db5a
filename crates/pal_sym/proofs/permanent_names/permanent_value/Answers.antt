use Rattle.pal_sym.proofs.PermanentLemmas.{longer}
use Rattle.pal_sym.proofs.permanent_names.permanent_value.Goals as goal

pub returns-then-number-ne0-clause-value : goal.returns-then-number-ne0-clause-value
returns-then-number-ne0-clause-value c = longer c.args.name (rw c.number.ensures at c.if-number-ne0.true)
