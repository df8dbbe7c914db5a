use Rattle.archive_files.specs.Putting.{put_words}
use Rattle.archive_files.proofs.InformationLemmas.{put_keeps, put_anew, put_gives}
use Rattle.archive_files.proofs.laws.put_information.Goals as goal

pub returns : goal.returns
returns c =
    let law = c.image_round_trip.ensures.written_is_read_back in
    record {
      keeps = λ image name bytes form file new puts has. put_keeps law c.files_found.ensures c.sound_directory.ensures c.file_information.ensures image name (put_words form bytes) file new puts.1 has;
      anew = λ image name bytes form new blocks puts none is. put_anew law image name (put_words form bytes) new blocks puts.1 none is;
      gives = λ image name bytes given form new blocks puts is. put_gives law image name given (put_words form bytes) new blocks puts.1 is;
    }
