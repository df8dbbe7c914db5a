use Rattle.os8_files.proofs.MissLemmas.{reads-missed, squeezes-missed}
use Rattle.os8_files.proofs.laws.failed_reads.Goals as goal

pub returns : goal.returns
returns c = record {
  read_block = reads-missed;
  squeeze_turn = squeezes-missed;
}
