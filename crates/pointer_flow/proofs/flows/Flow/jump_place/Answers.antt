use Rattle.std.proofs.Common.{ℕ, Option, sym, subst, ap, ◌∙◌}
use Rattle.std.proofs.lemmas.Bool.{not-false, not-true}
use Rattle.pointer_flow.specs.Questions.{Answers, IsJumpPlace, is_jump}
use Rattle.pointer_flow.specs.Returns.{called_address}
use Rattle.pointer_flow.specs.Tables.{IsFlowOf}
use Rattle.pointer_flow.proofs.QuestionLemmas.{call_place, no_address_place, no_field_place, no_jump_place, no_word_place, place_is}
use Rattle.pointer_flow.proofs.flows.Flow.jump_place.Goals as goal

pub returns-in_err-word : goal.returns-in_err-word
returns-in_err-word c = λ p is.
    let told = subst (IsFlowOf p) (sym c.self.view_is) is in
    subst (Answers (IsJumpPlace p c.args.cell)) (sym c.from_residual.ensures)
    (no_word_place p c.args.cell (ap (λ (f : ℕ → Option ℕ). f c.args.cell) told.facts.words_are ∙ sym c.in_err-word.ensures))

pub returns-then-is_no_jump : goal.returns-then-is_no_jump
returns-then-is_no_jump c = λ p is.
    let told = subst (IsFlowOf p) (sym c.self.view_is) is in
    no_jump_place p c.args.cell c.in_ok-word.word (ap (λ (f : ℕ → Option ℕ). f c.args.cell) told.facts.words_are ∙ sym c.in_ok-word.ensures)
    (not-true (is_jump c.in_ok-word.word) (sym c.is_no_jump.ensures ∙ c.if-is_no_jump.true))

pub returns-in_err-address : goal.returns-in_err-address
returns-in_err-address c = λ p is.
    let told = subst (IsFlowOf p) (sym c.self.view_is) is in
    subst (Answers (IsJumpPlace p c.args.cell)) (sym c.from_residual-in_err-address.ensures)
    (no_address_place p c.args.cell c.in_ok-word.word (ap (λ (f : ℕ → Option ℕ). f c.args.cell) told.facts.words_are ∙ sym c.in_ok-word.ensures)
    (ap (λ (f : ℕ → Option ℕ). called_address f c.args.cell c.in_ok-word.word) told.facts.words_are ∙ sym c.in_err-address.ensures))

pub returns-then-is_some : goal.returns-then-is_some
returns-then-is_some c = λ p is. call_place p c.args.cell c.call.result (c.call.ensures p is) (sym c.is_some.ensures ∙ c.if-is_some.true)

pub returns-in_err-field : goal.returns-in_err-field
returns-in_err-field c = λ p is.
    subst (Answers (IsJumpPlace p c.args.cell)) (sym c.from_residual-in_err-field.ensures)
    (no_field_place p c.args.cell (c.in_err-field.ensures.field p is))

pub returns : goal.returns
returns c = λ p is.
    let told = subst (IsFlowOf p) (sym c.self.view_is) is in
    place_is p c.args.cell c.in_ok-word.word c.in_ok-address.address c.in_ok-field.field c.at.result c.call.result
    (ap (λ (f : ℕ → Option ℕ). f c.args.cell) told.facts.words_are ∙ sym c.in_ok-word.ensures)
    (not-false (is_jump c.in_ok-word.word) (sym c.is_no_jump.ensures ∙ c.if-is_no_jump.false))
    (ap (λ (f : ℕ → Option ℕ). called_address f c.args.cell c.in_ok-word.word) told.facts.words_are ∙ sym c.in_ok-address.ensures)
    (c.call.ensures p is) (sym c.is_some.ensures ∙ c.if-is_some.false) (c.in_ok-field.ensures.field p is) c.at.ensures.number
