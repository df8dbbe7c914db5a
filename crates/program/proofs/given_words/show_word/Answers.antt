use Rattle.std.proofs.Common.{inr, refl}
use Rattle.program.proofs.given_words.show_word.Goals as goal

pub returns-in-Ok : goal.returns-in-Ok
returns-in-Ok g c = inr (refl, rw (c.deref.ensures.value, c.in-Ok.ensures) at c.tell_line.ensures)
