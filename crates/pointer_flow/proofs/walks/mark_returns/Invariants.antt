use Rattle.pointer_flow.specs.Next.{return_states}
use Rattle.pointer_flow.specs.Programs.{cells_from}
use Rattle.pointer_flow.specs.Steps.{MarksStates, is_open_in}
use Rattle.pointer_flow.proofs.walks.mark_returns.Given as goal

-- the returns so far are marked
abbrev pub invariant-loop-more : goal.invariant-loop-more
invariant-loop-more l =
    MarksStates (is_open_in l.rules.facts.now.words.now l.rules.facts.now.data_flags.now) l.initial.reached.bits.items l.reached.bits.items
    l.initial.waiting.items l.waiting.items (return_states l.state.data_field (cells_from l.state.cell l.first_return l.more))
