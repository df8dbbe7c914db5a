use Rattle.std.proofs.Common.{◌∙◌, ap, sym}
use Rattle.pal_asm.specs.TextSteps.{is_pause_answer}
use Rattle.pal_asm.proofs.passing.is_pause.Goals as goal

pub returns-in-Some : goal.returns-in-Some
returns-in-Some c = c.is_pause_body.ensures ∙ sym (ap is_pause_answer c.in-Some.is)

pub returns-in-None : goal.returns-in-None
returns-in-None c = sym (ap is_pause_answer c.in-None.is)
