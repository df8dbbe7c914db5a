use Rattle.std.proofs.Common.{◌≡◌, sym, subst}
use Rattle.cpu8e.specs.Runs.{after}
use Rattle.cpu8e.proofs.QuickLemmas.{after-none, none-made}
use Rattle.cpu8e.proofs.machines.Machine.run_settled.Goals as goal

pub returns-clause-state : goal.returns-clause-state
returns-clause-state c = subst (λ k. c.args.self.now ≡ after k c.args.self.now) (none-made c.args.n) (sym (after-none c.args.self.now))
