use Rattle.run_commands.proofs.RunLemmas.{flags_memory}
use Rattle.run_commands.proofs.runs.flags_of.Goals as goal

pub returns-in_err-flags : goal.returns-in_err-flags
returns-in_err-flags c = λ items is. flags_memory c.no_fault.ensures c.args.frames.now items _ _ is c.in_err-flags.ensures.given c.from_residual.ensures
