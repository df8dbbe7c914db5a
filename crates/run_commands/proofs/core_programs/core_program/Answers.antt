use Rattle.std.proofs.Common.{inl, inr, refl}
use Rattle.run_commands.specs.CorePrograms.{FindsStart, LoadsCore}
use Rattle.image_files.proofs.WorkLemmas.{ends_with}
use Rattle.run_commands.proofs.core_programs.core_program.Goals as goal

pub returns-in_err-core : goal.returns-in_err-core
returns-in_err-core g c = inl (ends_with (LoadsCore c.args.frames.now) _ _ _ _ c.in_err-core.ensures c.from_residual.ensures)

pub returns-in_err-start : goal.returns-in_err-start
returns-in_err-start g c = inr (record {
  given = c.in_ok-core.core;
  between = g.H.Host.history c.core_of.new.host;
  done = c.in_ok-core.ensures;
  after = inl (ends_with (FindsStart c.args.frames.now c.args.start) _ _ _ _ c.in_err-start.ensures c.from_residual-in_err-start.ensures);
})

pub returns : goal.returns
returns g c = inr (record {
  given = c.in_ok-core.core;
  between = g.H.Host.history c.core_of.new.host;
  done = c.in_ok-core.ensures;
  after = inr (record { given = c.in_ok-start.start; between = g.H.Host.history c.find_start.new.host; done = c.in_ok-start.ensures; after = (refl, refl) });
})
