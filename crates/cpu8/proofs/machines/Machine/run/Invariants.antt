use Rattle.std.proofs.Common.{◌≡◌, ◌+◌, ◌-◌, ◌≤◌, ◌++◌, vec_len, vec_capacity}
use Rattle.cpu8.specs.Go.{after, characters_of}
use Rattle.cpu8.proofs.GoLemmas.{GoesOn}
use Rattle.cpu8.proofs.machines.Machine.run.Given as goal

abbrev pub invariant-loop-made : goal.invariant-loop-made
invariant-loop-made l = (l.self ≡ after l.quick l.made l.fn.self)
    × (l.printed.items ≡ l.fn.printed.items ++ characters_of l.quick l.made l.fn.self)
    × GoesOn l.quick l.breaks l.fn.self l.made
    × (vec_len l.printed ≤ vec_len l.fn.printed + l.made)
    × (vec_capacity l.printed ≡ vec_capacity l.fn.printed)
    × (l.made ≤ l.n)

abbrev pub decreases-loop-made : goal.decreases-loop-made
decreases-loop-made l = l.n - l.made
