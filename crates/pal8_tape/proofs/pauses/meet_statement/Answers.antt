use Rattle.std.proofs.Common.{Bool, false, refl, subst, true}
use Rattle.pal8_asm.specs.Walking.{statement_in}
use Rattle.pal8_tape.specs.Steps.{Meets}
use Rattle.pal8_tape.proofs.pauses.meet_statement.Goals as goal

pub returns-then-branch : goal.returns-then-branch
returns-then-branch c = λ at left follows. (
  subst (λ s. Meets left s true c.meet.new.self) (c.shown_statement.ensures at)
      (subst (λ (paused : Bool). Meets left (statement_in at c.shown_statement.result) paused c.meet.new.self) c.if-branch.true (c.in_ok-meet.ensures at left follows)),
  refl,
)

pub returns : goal.returns
returns c = λ at left follows.
    subst (λ s. Meets left s false c.meet.new.self) (c.shown_statement.ensures at)
    (subst (λ (paused : Bool). Meets left (statement_in at c.shown_statement.result) paused c.meet.new.self) c.if-branch.false (c.in_ok-meet.ensures at left follows))
