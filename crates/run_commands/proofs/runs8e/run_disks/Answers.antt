use Rattle.std.proofs.Common.{ap, inr, ◌∙◌}
use Rattle.drive_files.specs.Consoles.{console_acts}
use Rattle.run_commands.proofs.ReadyLemmas.{loaded-runs}
use Rattle.run_commands.proofs.runs8e.run_disks.Goals as goal

pub run_console-requires : goal.run_console-requires
run_console-requires g c = ap console_acts.is_running c.loaded_console-console.ensures.console ∙ loaded-runs c.args.form.now c.in-Ok.files c.args.program

pub returns-in-Ok : goal.returns-in-Ok
returns-in-Ok g c = inr (record {
  given = c.in-Ok.files;
  between = g.H.Host.history c.open_files.new.host;
  done = c.in-Ok.ensures;
  after = rw (c.loaded_console-console.ensures.console, c.loaded_console-console.ensures.places) at c.run_console.ensures;
})
