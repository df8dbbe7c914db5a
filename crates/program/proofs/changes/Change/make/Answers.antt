use Rattle.program.proofs.changes.Change.make.Goals as goal

pub returns-in-Create : goal.returns-in-Create
returns-in-Create g c = rw c.in-Create.is c.create_image.ensures
