use Rattle.std.proofs.Common.{sym, ◌∙◌}
use Rattle.drive_files.proofs.RestoreLemmas.{none-taken, taken-and-put}
use Rattle.drive_files.proofs.saving.save_drive.Goals as goal

pub returns-in-None-clause-machine : goal.returns-in-None-clause-machine
returns-in-None-clause-machine g c =
    c.take_pack.ensures.state ∙ none-taken c.args.machine.now c.args.drive c.processor-processor.ensures.request (sym c.take_pack.ensures.pack ∙ c.in-None.is)

pub returns-in-Some-take_pack-clause-machine : goal.returns-in-Some-take_pack-clause-machine
returns-in-Some-take_pack-clause-machine g c =
    c.put_pack.ensures
    ∙ taken-and-put c.args.machine.now c.take_pack.new.self c.args.drive c.in-Some-take_pack.pack c.processor-processor.ensures.request (sym c.take_pack.ensures.pack ∙ c.in-Some-take_pack.is)
    c.take_pack.ensures.state
