use Rattle.std.proofs.Common.{◌≡◌, ◌↔◌, Bool, true, is_some, Option, ℕ, sym, subst, ap, ◌∙◌}
use Rattle.flow8.specs.Flow.{word_in}
use Rattle.pointer_flow.specs.Questions.{IsReturnCell}
use Rattle.pointer_flow.specs.Tables.{IsFlowOf}
use Rattle.pointer_flow.proofs.flows.Flow.is_return.Goals as goal

pub returns : goal.returns
returns c = λ p is.
    let told = subst (IsFlowOf p) (sym c.self.view_is) is in
    let same = c.is_some.ensures ∙ ap (λ (o : Option ℕ). is_some o) (c.cell_at.ensures.value ∙ ap (λ l. word_in l c.args.cell) c.deref.ensures.value) in
    subst (λ (b : Bool). (b ≡ true) ↔ IsReturnCell p c.args.cell) (sym same) (told.returns c.args.cell c.cell_at.ensures.range)
