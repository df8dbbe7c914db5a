use Rattle.std.proofs.Common.{◌≡◌, ◌↔◌, true, false, subst, arith}
use Rattle.pointer_flow.specs.Questions.{IsInstruction}
use Rattle.pointer_notes.proofs.ListLemmas.{pushed, pushed_size}
use Rattle.pointer_notes.proofs.answers.instruction_flags.Goals as goal

pub loop-number-preserved : goal.loop-number-preserved
loop-number-preserved c = record {
  size = pushed_size c.loop-number.flags.items c.push.new.self.items c.is_instruction.result c.loop-number.number c.in_ok-push.ensures.items c.loop-number.invariant.size;
  flags = λ p is.
      pushed (λ cell flag. (flag ≡ true) ↔ IsInstruction p cell) c.loop-number.flags.items c.push.new.self.items c.is_instruction.result false
      c.loop-number.number c.in_ok-push.ensures.items c.loop-number.invariant.size (c.loop-number.invariant.flags p is)
      (subst (λ n. (c.is_instruction.result ≡ true) ↔ IsInstruction p n) c.of.ensures.number (c.is_instruction.ensures p is));
}

pub returns-clause-flags : goal.returns-clause-flags
returns-clause-flags c = λ p is cell small.
    c.loop-number.invariant.flags p is cell (omega (arith, small, c.loop-number-test.false, c.loop-number.auto.number-end))
