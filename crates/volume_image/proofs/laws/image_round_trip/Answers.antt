use Rattle.volume_image.proofs.RoundTrip.{written_is_read_back, read_is_written_back}
use Rattle.volume_image.proofs.laws.image_round_trip.Goals as goal

pub returns-clause-written_is_read_back : goal.returns-clause-written_is_read_back
returns-clause-written_is_read_back c = written_is_read_back

pub returns-clause-read_is_written_back : goal.returns-clause-read_is_written_back
returns-clause-read_is_written_back c = read_is_written_back
