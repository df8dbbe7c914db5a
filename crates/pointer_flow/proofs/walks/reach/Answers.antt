use Rattle.std.proofs.Common.{inl, inr, sym, subst, ◌∙◌}
use Rattle.pointer_flow.specs.States.{IsOneOf}
use Rattle.pointer_flow.specs.Steps.{is_open_in}
use Rattle.pointer_flow.proofs.WalkLemmas.{begins, ends, fewer, goes_on, last_state, none_waits, opens_inside, opens_same, still_states}
use Rattle.pointer_flow.proofs.walks.reach.Goals as goal

pub loop-state-init : goal.loop-state-init
loop-state-init c =
    let words = c.args.rules.now.facts.now.words.now in
    let data_flags = c.args.rules.now.facts.now.data_flags.now in
    let marks = c.in_ok-mark_starts.ensures in
    record {
      states = λ s among. elim (marks.waiting_are s among) [ inl older ↦ absurd (subst (IsOneOf s) c.requires older) | inr has ↦ has.0 ];
      way = λ p facts starts.
          begins p c.args.rules.now.pointers.now c.args.rules.now.no_skip_cells.now (is_open_in words data_flags) c.args.starts.now
          c.in_ok-reached.reached.bits.items c.mark_starts.new.reached.bits.items c.args.waiting.now.items c.mark_starts.new.waiting.items starts
          (opens_same p words data_flags facts.words_are facts.data_are) c.in_ok-reached.ensures c.requires marks;
    }

pub mark_after-requires : goal.mark_after-requires
mark_after-requires c =
    last_state c.loop-state.waiting.items c.pop.new.self.items c.in-Some.state c.in-Some.ensures.items c.loop-state.invariant.states

pub loop-state-preserved : goal.loop-state-preserved
loop-state-preserved c =
    let words = c.args.rules.now.facts.now.words.now in
    let data_flags = c.args.rules.now.facts.now.data_flags.now in
    let some = c.in_ok-mark_after.ensures in
    record {
      states =
          still_states (is_open_in words data_flags) c.loop-state.reached.bits.items c.mark_after.new.reached.bits.items c.loop-state.waiting.items
          c.pop.new.self.items c.mark_after.new.waiting.items some.states c.in-Some.state c.in-Some.ensures.items c.loop-state.invariant.states some.marks;
      way = λ p facts starts.
          goes_on p c.args.rules.now.pointers.now c.args.rules.now.no_skip_cells.now (is_open_in words data_flags) c.loop-state.reached.bits.items
          c.mark_after.new.reached.bits.items c.loop-state.waiting.items c.pop.new.self.items c.mark_after.new.waiting.items some.states c.in-Some.state
          (opens_same p words data_flags facts.words_are facts.data_are) (c.loop-state.invariant.way p facts starts) c.in-Some.ensures.items some.marks
          (some.are p facts);
    }

pub loop-state-smaller : goal.loop-state-smaller
loop-state-smaller c =
    let some = c.in_ok-mark_after.ensures in
    fewer (is_open_in c.args.rules.now.facts.now.words.now c.args.rules.now.facts.now.data_flags.now) c.loop-state.reached.bits.items
    c.mark_after.new.reached.bits.items c.loop-state.waiting.items c.pop.new.self.items c.mark_after.new.waiting.items some.states c.in-Some.state
    c.in-Some.ensures.items some.marks

pub returns : goal.returns
returns c =
    let none = none_waits c.loop-state.waiting.items (sym c.in_default.ensures.cases.0 ∙ c.loop-state.waiting.ok.0) in
    record {
      none = none_waits c.pop.new.self.items (sym c.in_default.ensures.cases.1 ∙ c.pop.new.self.ok.0);
      reached = λ p facts starts.
          ends p c.args.rules.now.pointers.now c.args.rules.now.no_skip_cells.now c.loop-state.reached.bits.items c.loop-state.waiting.items
          (opens_inside p c.args.rules.now.facts.now.words.now facts.words_are facts.size) c.loop-state.reached.sized none
          (c.loop-state.invariant.way p facts starts);
    }
