use Rattle.os8_dir.proofs.LawLemmas.{sound-or-fault, sound-no-fault}
use Rattle.os8_dir.proofs.laws.sound_or_fault.Goals as goal

pub returns : goal.returns
returns c = record { either = sound-or-fault; not_both = sound-no-fault }
