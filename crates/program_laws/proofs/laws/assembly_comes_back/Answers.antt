use Rattle.std.proofs.Common.{None, refl}
use Rattle.archive_files.specs.Laws.{whole_blocks}
use Rattle.archive_files.specs.declared.forms.GetForm.TheVariants as get_as
use Rattle.keeper_laws.proofs.BackLemmas.{is-printed}
use Rattle.program_laws.proofs.AssembleBackLemmas.{map-of}
use Rattle.program_laws.proofs.laws.assembly_comes_back.Goals as goal

pub returns-clause-frames : goal.returns-clause-frames
returns-clause-frames c form named name ok old new stored small =
    is-printed named stored.has.file stored.stored.bytes.items name (whole_blocks stored.tape.items) get_as.Frames stored.has.found
    (λ answer gets. c.put_is_got.ensures.frames stored.image.bytes.items name stored.tape.items None stored.stored answer small stored.puts gets)

pub returns-clause-map : goal.returns-clause-map
returns-clause-map c form named name ok old new stored =
    map-of c.written_tape.ensures c.has_words.ensures c.has_words-2.ensures form form.is_pal8 refl stored.sources stored.tape.items stored.assembled
