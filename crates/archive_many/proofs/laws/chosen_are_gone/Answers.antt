use Rattle.archive_many.proofs.GoneLemmas.{like-are-gone}
use Rattle.archive_many.proofs.laws.chosen_are_gone.Goals as goal

pub returns : goal.returns
returns c = like-are-gone c.image_round_trip.ensures.written_is_read_back c.files_found.ensures c.sound_directory.ensures
