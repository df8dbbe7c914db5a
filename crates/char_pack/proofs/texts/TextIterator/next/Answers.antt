use Rattle.std.proofs.Common.{◌%◌, length, refl, ap, ◌∙◌, arith}
use Rattle.char_pack.specs.Texts.{characters}
use Rattle.char_pack.specs.Reading.{frames_left, text_left}
use Rattle.char_pack.proofs.TextLemmas.{characters-end, characters-next}
use Rattle.char_pack.proofs.texts.TextIterator.next.Goals as goal

pub returns-in_err-character-clause-steps : goal.returns-in_err-character-clause-steps
unfolding text_left
returns-in_err-character-clause-steps c =
    let ended = c.in_err-character.ensures.steps in
    rw c.from_residual.ensures (ap characters ended.0, ap characters ended.1)

pub returns-then-character-eq-CONTROL_Z-clause-steps :
    goal.returns-then-character-eq-CONTROL_Z-clause-steps
unfolding text_left
returns-then-character-eq-CONTROL_Z-clause-steps c =
    let frame = c.in_ok-character.field-0 in (
      ap characters c.in_ok-character.ensures.steps
          ∙ characters-end frame (frames_left c.next.new.self) c.if-character-eq-CONTROL_Z.true,
      ap characters c.new-self.ensures,
    )

pub returns-clause-steps : goal.returns-clause-steps
unfolding text_left
returns-clause-steps c =
    let frame = c.in_ok-character.field-0 in
    ap characters c.in_ok-character.ensures.steps
    ∙ characters-next frame (frame % 128) (frames_left c.next.new.self) refl c.if-character-eq-CONTROL_Z.false

pub returns-clause-goes : goal.returns-clause-goes
returns-clause-goes c =
    record { on = λ _. (tt, tt, omega (arith, ap length (returns-clause-steps c))); keeps = tt; rests = λ _. tt }
