use Rattle.system_session.proofs.RoadLemmas.{file_kept, console_goes, leads}
use Rattle.system_session.proofs.laws.road.Goals as goal

pub returns : goal.returns
returns c = record {
  kept = file_kept;
  console = console_goes;
  load = leads c.one_reading.ensures c.no_fault.ensures;
}
