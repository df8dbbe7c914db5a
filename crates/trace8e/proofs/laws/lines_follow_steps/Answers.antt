use Rattle.trace8e.proofs.LineLemmas.{lines-add}
use Rattle.trace8e.proofs.laws.lines_follow_steps.Goals as goal

pub returns : goal.returns
returns c = λ tagged a b t. lines-add c.later_steps.ensures.terminal tagged a b t
