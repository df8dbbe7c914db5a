use Rattle.std.proofs.Common.{refl}
use Rattle.run_commands.proofs.DriveLemmas.{none-counted}
use Rattle.run_commands.proofs.drives8e.count_steps.Goals as goal

pub returns-in_err-counts : goal.returns-in_err-counts
returns-in_err-counts c = none-counted c.args.most c.args.terminal.now c.args.papers.now c.args.flags.now _ _ refl c.from_residual.ensures
