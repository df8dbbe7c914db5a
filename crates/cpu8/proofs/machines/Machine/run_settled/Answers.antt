use Rattle.std.proofs.Common.{sym}
use Rattle.cpu8.proofs.GoLemmas.{after-none}
use Rattle.cpu8.proofs.machines.Machine.run_settled.Goals as goal

pub returns-clause-state : goal.returns-clause-state
returns-clause-state c = sym (after-none c.args.quick c.args.self.now)
