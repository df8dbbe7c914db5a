use Rattle.archive_files.proofs.BlockLemmas.{begins-there, each-begins, got-alike}
use Rattle.archive_files.proofs.laws.asked_files.Goals as goal

pub returns : goal.returns
returns c =
    let law = c.image_round_trip.ensures.written_is_read_back in
    record {
      alike = λ image one two name form blocks answer is a b gets. got-alike law image one two name form blocks answer is a b gets;
      each = λ blocks name file sound there. each-begins c.files_found.ensures c.sound_directory.ensures blocks name file sound there;
      there = λ blocks place name is. begins-there c.files_found.ensures blocks place name is;
    }
