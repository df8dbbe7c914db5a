use Rattle.volume_jobs.proofs.CallLemmas.{reads_few, moves_few}
use Rattle.volume_jobs.proofs.laws.job_calls.Goals as goal

pub returns : goal.returns
returns c = record {
  reads = reads_few c.block_reads.ensures.put c.block_reads.ensures.squeeze_turn;
  places = moves_few c.file_places.ensures.put c.file_places.ensures.squeeze_turn;
}
