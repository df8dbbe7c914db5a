use Rattle.std.proofs.Common.{true, sym}
use Rattle.cpu8.proofs.FetchLemmas.{adds-none}
use Rattle.cpu8.proofs.GoLemmas.{after-none}
use Rattle.cpu8.proofs.machines.Machine.run_unasked_counting.Goals as goal

pub returns-then-not-begins_unasked-clause-state : goal.returns-then-not-begins_unasked-clause-state
returns-then-not-begins_unasked-clause-state c = sym (after-none true c.args.self.now)

pub returns-then-not-begins_unasked-clause-counts : goal.returns-then-not-begins_unasked-clause-counts
returns-then-not-begins_unasked-clause-counts c = adds-none c.args.self.now c.args.counts.now
