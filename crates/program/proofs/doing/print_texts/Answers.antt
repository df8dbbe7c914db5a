use Rattle.program.proofs.doing.print_texts.Goals as goal

pub returns : goal.returns
returns g c = rw (c.deref.ensures.value, c.deref-2.ensures.value) at c.show_texts.ensures
