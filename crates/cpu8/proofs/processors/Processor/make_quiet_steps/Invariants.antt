use Rattle.std.proofs.Common.{◌≡◌, ◌-◌, ◌<◌, ◌≤◌, true, false}
use Rattle.cpu8.specs.State.{with_core, next_cell}
use Rattle.cpu8.specs.Go.{after, is_break}
use Rattle.cpu8.specs.QuietSteps.{AreQuiet, is_quiet}
use Rattle.cpu8.specs.Unasked.{AreUnasked}
use Rattle.cpu8.proofs.processors.Processor.make_quiet_steps.Given as goal

abbrev pub invariant-loop-left : goal.invariant-loop-left
invariant-loop-left g l = (with_core l.self l.core ≡ after l.quick (l.n - l.left) (with_core l.fn.self l.fn.core))
    × AreQuiet l.quick l.breaks (with_core l.fn.self l.fn.core) (l.n - l.left)
    × (is_quiet l.quick (with_core l.self l.core) ≡ true)
    × (0 < (l.n - l.left) → is_break l.breaks (next_cell (with_core l.self l.core)) ≡ false)
    × (l.self.instruction_field ≡ l.fn.self.instruction_field)
    × (l.self.instruction_buffer ≡ l.self.instruction_field)
    × (l.quick ≡ true → l.asks ≡ true → AreUnasked (with_core l.fn.self l.fn.core) (l.n - l.left))
    × (l.self.interrupts_on ≡ l.fn.self.interrupts_on)
    × (l.left ≤ l.n)

abbrev pub decreases-loop-left : goal.decreases-loop-left
decreases-loop-left g l = l.left
