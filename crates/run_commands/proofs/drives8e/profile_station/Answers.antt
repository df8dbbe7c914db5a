use Rattle.std.proofs.Common.{◌∙◌, ap, subst}
use Rattle.drive_files.specs.Devices.{SavesPapers}
use Rattle.drive_files.specs.Saving.{earlier}
use Rattle.drive_files.specs.declared.devices.PaperPlaces.{PaperPlaces}
use Rattle.run_commands.proofs.drives8e.profile_station.Goals as goal

pub returns : goal.returns
returns g c = record {
  after = c.count_steps-text.new.terminal;
  text = c.count_steps-text.result;
  papers = c.count_steps-text.new.papers;
  counts = rw c.new-terminal.ensures at c.count_steps-text.ensures;
  saved = c.save_drives-saved.result;
  kept = g.H.Host.history c.save_drives-saved.new.host;
  left = c.save_drives-saved.new.places;
  saves = rw c.into_machine-machine.ensures at c.save_drives-saved.ensures.saves;
  filed = c.save_papers-filed.result;
  written = g.H.Host.history c.save_papers-filed.new.host;
  files = subst (λ (p : PaperPlaces). SavesPapers c.count_steps-text.new.papers p (g.H.Host.history c.save_drives-saved.new.host) c.save_papers-filed.result (g.H.Host.history c.save_papers-filed.new.host))
      c.save_drives-saved.ensures.saves.same.4 c.save_papers-filed.ensures;
  printed = c.print_if-printed.result;
  prints = c.print_if-printed.ensures;
  is = c.earlier-2.ensures ∙ ap (λ r. earlier c.save_drives-saved.result r) c.earlier.ensures;
}
