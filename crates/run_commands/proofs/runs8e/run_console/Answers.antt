use Rattle.std.proofs.Common.{sym}
use Rattle.run_commands.proofs.runs8e.run_console.Goals as goal

pub returns : goal.returns
returns g c = record {
  after = c.run_rounds-host.new.console;
  ran = c.run_rounds-host.result.1;
  mid = c.run_rounds-host.new.places;
  between = g.H.Host.history c.run_rounds-host.result.0;
  runs = c.run_rounds-host.ensures;
  saved = c.save_rest-saved.result;
  left = c.save_rest-saved.new.places;
  kept = g.H.Host.history c.save_rest-saved.new.host;
  saves = c.save_rest-saved.ensures;
  ended = c.end_run-ended.result;
  ends = rw (sym c.processor.ensures.processor, sym c.stand_of-stand.ensures) c.end_run-ended.ensures;
  is = c.earlier.ensures;
}
