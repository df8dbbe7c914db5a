use Rattle.std.proofs.Common.{◌≡◌, length, take}
use Rattle.word12.specs.declared.sizes.TheConstants.{CORE}
use Rattle.flow8.specs.FlowSteps.{MarksCells}
use Rattle.flow8.proofs.flows.mark_starts.Given as goal

-- the starts so far are marked
abbrev pub invariant-loop-start : goal.invariant-loop-start
invariant-loop-start l = record {
  size : length l.reached ≡ CORE;
  marks : MarksCells l.words l.initial.reached l.reached l.initial.waiting.items l.waiting.items (take l.start-index l.starts);
}
