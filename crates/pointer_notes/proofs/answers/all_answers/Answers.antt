use Rattle.std.proofs.Common.{subst, arith}
use Rattle.pointer_notes.specs.Tables.{no_answers}
use Rattle.pointer_notes.specs.Views.{AreAnswers}
use Rattle.pointer_notes.proofs.ListLemmas.{pushed, pushed_size}
use Rattle.pointer_notes.proofs.answers.all_answers.Goals as goal

pub loop-number-preserved : goal.loop-number-preserved
loop-number-preserved c = record {
  size = pushed_size c.loop-number.answers.items c.push.new.self.items c.answers_of.result c.loop-number.number c.in_ok-push.ensures.items c.loop-number.invariant.size;
  answers = λ p is.
      pushed (AreAnswers p) c.loop-number.answers.items c.push.new.self.items c.answers_of.result no_answers c.loop-number.number
      c.in_ok-push.ensures.items c.loop-number.invariant.size (c.loop-number.invariant.answers p is)
      (subst (λ n. AreAnswers p n c.answers_of.result) c.of-cell.ensures.number (c.answers_of.ensures p is (c.target.ensures p is)));
}

pub returns-clause-answers : goal.returns-clause-answers
returns-clause-answers c = λ p is cell small.
    c.loop-number.invariant.answers p is cell (omega (arith, small, c.loop-number-test.false, c.loop-number.auto.number-end))
