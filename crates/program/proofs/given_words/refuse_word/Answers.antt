use Rattle.std.proofs.Common.{inr}
use Rattle.program.proofs.given_words.refuse_word.Goals as goal

pub returns-in-Ok : goal.returns-in-Ok
returns-in-Ok g c = inr (c.in-Ok.ensures.told.0, rw c.in-Ok.ensures.told.1 at c.show_word.ensures)
