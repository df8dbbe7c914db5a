use Rattle.std.proofs.Common.{take}
use Rattle.pointer_flow.specs.Steps.{MarksStates, is_open_in, start_states}
use Rattle.pointer_flow.proofs.walks.mark_starts.Given as goal

-- the starts so far are marked
abbrev pub invariant-loop-start : goal.invariant-loop-start
invariant-loop-start l =
    MarksStates (is_open_in l.rules.facts.now.words.now l.rules.facts.now.data_flags.now) l.initial.reached.bits.items l.reached.bits.items
    l.initial.waiting.items l.waiting.items (start_states (take l.start-index l.starts))
