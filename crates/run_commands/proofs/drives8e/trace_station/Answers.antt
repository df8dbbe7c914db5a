use Rattle.std.proofs.Common.{◌∙◌, ap, subst}
use Rattle.cpu8.specs.State.{next_cell}
use Rattle.drive_files.specs.Devices.{SavesPapers}
use Rattle.drive_files.specs.Saving.{earlier}
use Rattle.drive_files.specs.declared.devices.PaperPlaces.{PaperPlaces}
use Rattle.run_commands.specs.Printing.{EndsTrace}
use Rattle.run_commands.proofs.drives8e.trace_station.Goals as goal

pub returns : goal.returns
returns g c = record {
  after = c.trace_onto-host.new.terminal;
  done = c.trace_onto-host.result.2;
  between = g.H.Host.history c.trace_onto-host.result.0;
  traces = rw c.new-terminal.ensures at c.trace_onto-host.ensures.traces;
  papers = c.trace_onto-host.new.papers;
  gets = rw c.new-terminal.ensures at c.trace_onto-host.ensures.papers;
  fault = c.trace_onto-host.result.1;
  prints = c.trace_onto-host.ensures.prints;
  cause = c.trace_onto-host.ensures.cause;
  saved = c.save_drives-saved.result;
  kept = g.H.Host.history c.save_drives-saved.new.host;
  left = c.save_drives-saved.new.places;
  saves = rw c.into_machine-machine.ensures at c.save_drives-saved.ensures.saves;
  filed = c.save_papers-filed.result;
  written = g.H.Host.history c.save_papers-filed.new.host;
  files = subst (λ (p : PaperPlaces). SavesPapers c.trace_onto-host.new.papers p (g.H.Host.history c.save_drives-saved.new.host) c.save_papers-filed.result (g.H.Host.history c.save_papers-filed.new.host))
      c.save_drives-saved.ensures.saves.same.4 c.save_papers-filed.ensures;
  ended = c.end_trace-ended.result;
  ends = subst (λ k. EndsTrace k c.trace_onto-host.result.1 c.trace_onto-host.result.2 (g.H.Host.history c.save_papers-filed.new.host) c.end_trace-ended.result (g.H.Host.history c.end_trace-ended.new.host))
      (c.next_cell-cell.ensures.value ∙ ap (λ p. next_cell p.base) c.processor.ensures.processor ∙ ap (λ m. next_cell m.processor.base) c.into_machine-machine.ensures) c.end_trace-ended.ensures;
  is = c.earlier-2.ensures ∙ ap (λ r. earlier c.save_drives-saved.result r) c.earlier.ensures;
}
