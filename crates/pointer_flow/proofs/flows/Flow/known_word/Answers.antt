use Rattle.std.proofs.Common.{sym, subst, ap, ◌∙◌}
use Rattle.flow8.specs.Flow.{word_in}
use Rattle.pointer_flow.specs.Flow.{IsKnown}
use Rattle.pointer_flow.specs.Questions.{Answers}
use Rattle.pointer_flow.specs.Tables.{IsFlowOf}
use Rattle.pointer_flow.proofs.QuestionLemmas.{answers_known}
use Rattle.pointer_flow.proofs.flows.Flow.known_word.Goals as goal

pub returns : goal.returns
returns c = λ p is.
    let told = subst (IsFlowOf p) (sym c.self.view_is) is in
    subst (Answers (IsKnown p c.args.pointer)) (sym (c.word_at.ensures ∙ ap (λ l. word_in l c.args.pointer) c.deref.ensures.value))
    (answers_known p c.self.inside.known_words.items c.args.pointer told.known)
