use Rattle.std.proofs.Common.{ap, length, sym, ◌∙◌}
use Rattle.history8.specs.Entries.{changes_of}
use Rattle.history8.specs.History.{changes_to_step}
use Rattle.history8.proofs.histories.History.changes_to_step.Goals as goal

pub changes_to_step-requires : goal.changes_to_step-requires
changes_to_step-requires c = c.self.invariant.0.counted ∙ ap (λ xs. length (changes_of xs)) (sym c.deref.ensures.value)

pub returns : goal.returns
returns c =
    c.changes_to_step.ensures ∙ ap (λ xs. length (changes_to_step c.args.steps (changes_of xs))) c.deref.ensures.value
    ∙ ap (λ h. length (changes_to_step c.args.steps h.changes)) c.self.view_is
