use Rattle.archive_files.proofs.ChangeLemmas.{deleted_gone, deleted_leaves, deleted_got}
use Rattle.archive_files.proofs.laws.deleted_files.Goals as goal

pub returns : goal.returns
returns c =
    let law = c.image_round_trip.ensures.written_is_read_back in
    record {
      gone = λ image one wanted new blocks is own among. deleted_gone law c.sound_directory.ensures image one wanted new blocks is own among;
      others = λ image one wanted file new blocks is own other has. deleted_leaves law c.sound_directory.ensures image one wanted file new blocks is own other has;
      got = λ image one wanted form new before answer blocks is own other got gets.
          deleted_got law c.sound_directory.ensures c.longer_tape.ensures c.no_fault.ensures image one wanted form new before answer blocks is own other got gets;
    }
