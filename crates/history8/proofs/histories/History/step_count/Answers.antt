use Rattle.std.proofs.Common.{ap, length, sym, ◌∙◌}
use Rattle.history8.specs.Entries.{changes_of}
use Rattle.history8.specs.History.{step_count}
use Rattle.history8.proofs.histories.History.step_count.Goals as goal

pub steps_in-requires : goal.steps_in-requires
steps_in-requires c = c.self.invariant.0.counted ∙ ap (λ xs. length (changes_of xs)) (sym c.deref.ensures.value)

pub returns : goal.returns
returns c = c.steps_in.ensures ∙ ap (λ xs. step_count (changes_of xs)) c.deref.ensures.value ∙ ap (λ h. step_count h.changes) c.self.view_is
