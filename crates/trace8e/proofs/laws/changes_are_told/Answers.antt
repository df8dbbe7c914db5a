use Rattle.trace8e.proofs.ChangeLemmas.{changes_told}
use Rattle.trace8e.proofs.laws.changes_are_told.Goals as goal

pub returns : goal.returns
returns c = changes_told c.step_has_parts.ensures
