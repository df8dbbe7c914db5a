use Rattle.std.proofs.Common.{refl}
use Rattle.run_commands.proofs.RunLemmas.{ready_memory}
use Rattle.run_commands.proofs.runs.ready_run.Goals as goal

pub returns-in_err-flags : goal.returns-in_err-flags
returns-in_err-flags c = λ items is. ready_memory c.args.form.now c.args.frames.now c.args.program _ _ (c.in_err-flags.ensures items is) c.from_residual-in_err-flags.ensures

pub returns : goal.returns
returns c = λ items is. (refl, rw c.text_of.ensures at c.in_ok-keys.ensures, c.in_ok-flags.ensures items is)
