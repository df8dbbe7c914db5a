use Rattle.std.proofs.Common.{true, refl, sym}
use Rattle.cpu8.proofs.GoLemmas.{after-none}
use Rattle.cpu8.proofs.machines.Machine.run_unasked.Goals as goal

pub returns-then-not-begins_unasked-clause-state : goal.returns-then-not-begins_unasked-clause-state
returns-then-not-begins_unasked-clause-state c = sym (after-none true c.args.self.now)

pub run_without_breaks-requires-clause-breaks : goal.run_without_breaks-requires-clause-breaks
run_without_breaks-requires-clause-breaks c = λ address below. refl

pub returns-clause-unasked : goal.returns-clause-unasked
returns-clause-unasked c = c.run_without_breaks.ensures.unasked refl refl
