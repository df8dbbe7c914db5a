use Rattle.get_commands.proofs.giving.print_line_of.Goals as goal

pub returns : goal.returns
returns g c = rw c.in_ok-text.ensures at (rw c.deref.ensures.value at c.print_refused.ensures)
