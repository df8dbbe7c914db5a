use Rattle.archive_files.proofs.ChangeLemmas.{renamed_there, renamed_begins, renamed_gone, renamed_leaves, renamed_back}
use Rattle.archive_files.proofs.laws.renamed_file.Goals as goal

pub returns : goal.returns
returns c =
    let law = c.image_round_trip.ensures.written_is_read_back in
    record {
      there = λ image other wanted file new is has. renamed_there law image other wanted file new is has;
      begins = λ image other place file new is has. renamed_begins law c.sound_directory.ensures image other place file new is has;
      gone = λ image text other wanted new is named. renamed_gone image text other wanted new is named;
      others = λ image other one wanted file new blocks is own not_old not_new has.
          renamed_leaves law c.sound_directory.ensures image other one wanted file new blocks is own not_old not_new has;
      back = λ image name other wanted later new back blocks again one two next number was is.
          renamed_back law c.files_found.ensures c.file_renamed.ensures.back c.sound_directory.ensures image name other wanted later new back blocks again one two next number was is;
    }
