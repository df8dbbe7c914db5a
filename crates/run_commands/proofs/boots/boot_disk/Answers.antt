use Rattle.std.proofs.Common.{inl, inr, refl, ◌∙◌, ap}
use Rattle.drive_files.specs.Consoles.{console_acts}
use Rattle.run_commands.proofs.ReadyLemmas.{boot-runs}
use Rattle.run_commands.proofs.boots.boot_disk.Goals as goal

pub run_console-requires : goal.run_console-requires
run_console-requires g c = ap console_acts.is_running c.booted_console-console.ensures.console ∙ boot-runs c.args.form.now c.in-Ok.ready

pub returns-in-Ok : goal.returns-in-Ok
returns-in-Ok g c = inr (record {
  given = c.in-Ok.ready;
  between = g.H.Host.history c.get_ready.new.host;
  done = c.in-Ok.ensures;
  after = rw (c.booted_console-console.ensures.console, c.booted_console-console.ensures.places) at c.run_console.ensures;
})

pub returns-in-Err : goal.returns-in-Err
returns-in-Err g c = inl (c.in-Err.ensures, refl)
