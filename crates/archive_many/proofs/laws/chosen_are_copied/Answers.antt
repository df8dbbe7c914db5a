use Rattle.archive_many.proofs.CopyLemmas.{like-are-copied}
use Rattle.archive_many.proofs.laws.chosen_are_copied.Goals as goal

pub returns : goal.returns
returns c = like-are-copied c.image_round_trip.ensures.written_is_read_back c.files_found.ensures c.sound_directory.ensures
