use Rattle.archive_files.proofs.ChangeLemmas.{squeezed_names, squeezed_there, squeezed_got}
use Rattle.archive_files.proofs.laws.squeezed_files.Goals as goal

pub returns : goal.returns
returns c =
    let law = c.image_round_trip.ensures.written_is_read_back in
    record {
      names = squeezed_names law;
      there = squeezed_there law;
      got = squeezed_got law c.longer_tape.ensures c.no_fault.ensures;
    }
