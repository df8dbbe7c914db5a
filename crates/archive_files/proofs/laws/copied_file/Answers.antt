use Rattle.archive_files.proofs.InformationLemmas.{copy_same, copy_name, copy_leaves}
use Rattle.archive_files.proofs.laws.copied_file.Goals as goal

pub returns : goal.returns
returns c =
    let law = c.image_round_trip.ensures.written_is_read_back in
    record {
      same = λ from to wanted other file new blocks is has image. copy_same law c.sound_directory.ensures from to wanted other file new blocks is has image;
      name = λ from to wanted other new blocks name is image named. copy_name law from to wanted other new blocks name is image named;
      others = λ from to one wanted other file new blocks is own differ has. copy_leaves law c.sound_directory.ensures from to one wanted other file new blocks is own differ has;
    }
