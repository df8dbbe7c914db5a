use Rattle.change_commands.proofs.creating.make_wanted.Goals as goal

pub returns : goal.returns
returns g c = rw c.if-form.false (rw c.as_str-2.ensures.value at c.make_file.ensures)
