use Rattle.std.proofs.Common.{inl, inr, refl}
use Rattle.run_commands.specs.ConsoleFiles.{OpensFiles}
use Rattle.image_files.proofs.WorkLemmas.{ends_with}
use Rattle.run_commands.proofs.ReadyLemmas.{not-ready}
use Rattle.run_commands.proofs.bootstraps.get_ready.Goals as goal

pub returns-in_err-files : goal.returns-in_err-files
returns-in_err-files g c = inl (ends_with (OpensFiles c.args.form.now) _ _ _ _ c.in_err-files.ensures c.from_residual.ensures)

pub returns-in_err-core : goal.returns-in_err-core
returns-in_err-core g c = inr (record { given = c.in_ok-files.files; between = g.H.Host.history c.open_files.new.host; done = c.in_ok-files.ensures; after = (not-ready c.in_ok-files.files c.in_err-core.field-0.0 _ c.in_err-core.ensures.memory c.from_residual-in_err-core.ensures, refl) })

pub returns : goal.returns
returns g c = inr (record { given = c.in_ok-files.files; between = g.H.Host.history c.open_files.new.host; done = c.in_ok-files.ensures; after = ((c.in_ok-core.ensures.zeros, refl), refl) })
