use Rattle.change_commands.proofs.copying.find_chosen.Goals as goal

pub returns-in-Like : goal.returns-in-Like
returns-in-Like g c = rw c.in-Like.is (rw c.deref.ensures.value at c.find_like.ensures)
