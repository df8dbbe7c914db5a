use Rattle.std.proofs.Common.{ℕ, Option, None, sym, subst, ap, ◌∙◌}
use Rattle.std.proofs.lemmas.Bool.{not-false, not-true}
use Rattle.pointer_flow.specs.Flow.{IsKnown}
use Rattle.pointer_flow.specs.Questions.{Answers, IsTarget}
use Rattle.pointer_flow.specs.Settled.{refers_through}
use Rattle.pointer_flow.specs.Tables.{IsFlowOf}
use Rattle.pointer_flow.proofs.QuestionLemmas.{call_target, no_field_target, no_known_target, no_reference_target, no_word_target, target_is}
use Rattle.pointer_flow.proofs.flows.Flow.target.Goals as goal

pub returns-in_err-word : goal.returns-in_err-word
returns-in_err-word c = λ p is.
    let told = subst (IsFlowOf p) (sym c.self.view_is) is in
    subst (Answers (IsTarget p c.args.cell)) (sym c.from_residual.ensures)
    (no_word_target p c.args.cell (ap (λ (f : ℕ → Option ℕ). f c.args.cell) told.facts.words_are ∙ sym c.in_err-word.ensures))

pub returns-then-has_no_pointer : goal.returns-then-has_no_pointer
returns-then-has_no_pointer c = λ p is.
    let told = subst (IsFlowOf p) (sym c.self.view_is) is in
    no_reference_target p c.args.cell c.in_ok-word.word (ap (λ (f : ℕ → Option ℕ). f c.args.cell) told.facts.words_are ∙ sym c.in_ok-word.ensures)
    (not-true (refers_through c.args.cell c.in_ok-word.word) (sym c.has_no_pointer.ensures ∙ c.if-has_no_pointer.true))

pub returns-in_err-address : goal.returns-in_err-address
returns-in_err-address c = λ p is.
    let told = subst (IsFlowOf p) (sym c.self.view_is) is in
    subst (Answers (IsTarget p c.args.cell)) (sym c.from_residual-in_err-address.ensures)
    (no_known_target p c.args.cell c.in_ok-word.word (ap (λ (f : ℕ → Option ℕ). f c.args.cell) told.facts.words_are ∙ sym c.in_ok-word.ensures)
    (subst (λ n. Answers (IsKnown p n) None) c.referred_cell.ensures.number (c.in_err-address.ensures p is)))

pub returns-then-is_some : goal.returns-then-is_some
returns-then-is_some c = λ p is. call_target p c.args.cell c.call.result (c.call.ensures p is) (sym c.is_some.ensures ∙ c.if-is_some.true)

pub returns-in_err-field : goal.returns-in_err-field
returns-in_err-field c = λ p is.
    let told = subst (IsFlowOf p) (sym c.self.view_is) is in
    subst (Answers (IsTarget p c.args.cell)) (sym c.from_residual-in_err-field.ensures)
    (no_field_target p c.args.cell c.in_ok-word.word (ap (λ (f : ℕ → Option ℕ). f c.args.cell) told.facts.words_are ∙ sym c.in_ok-word.ensures)
    (c.in_err-field.ensures.field p is))

pub returns : goal.returns
returns c = λ p is.
    let told = subst (IsFlowOf p) (sym c.self.view_is) is in
    target_is p c.args.cell c.in_ok-word.word c.in_ok-address.address c.in_ok-field.field c.at.result c.call.result
    (ap (λ (f : ℕ → Option ℕ). f c.args.cell) told.facts.words_are ∙ sym c.in_ok-word.ensures)
    (not-false (refers_through c.args.cell c.in_ok-word.word) (sym c.has_no_pointer.ensures ∙ c.if-has_no_pointer.false))
    (subst (λ n. IsKnown p n c.in_ok-address.address) c.referred_cell.ensures.number (c.in_ok-address.ensures p is)) (c.call.ensures p is)
    (sym c.is_some.ensures ∙ c.if-is_some.false) (c.in_ok-field.ensures.field p is) c.at.ensures.number
