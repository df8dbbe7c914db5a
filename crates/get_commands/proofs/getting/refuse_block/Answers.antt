use Rattle.get_commands.proofs.getting.refuse_block.Goals as goal

pub returns : goal.returns
returns g c = rw c.in_ok-word.ensures at (rw c.as_str.ensures.value at c.refuse.ensures)
