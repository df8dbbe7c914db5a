use Rattle.std.proofs.Common.{Ok, Err, List, inl, inr, refl, subst}
use Rattle.bin_tape.specs.Items.{Item}
use Rattle.bin_tape.specs.Tape.{IsTape}
use Rattle.run_commands.specs.CorePrograms.{LoadsProgram}
use Rattle.run_commands.specs.Runs.{start_or}
use Rattle.run_commands.proofs.RunLemmas.{loaded_tape}
use Rattle.image_files.proofs.WorkLemmas.{ends_with}
use Rattle.run_commands.proofs.runs.read_run.Goals as goal

pub returns-in_err-program : goal.returns-in_err-program
returns-in_err-program g c =
    let ended : LoadsProgram c.in_ok-tape.tape.frames.items (start_or c.args.form.now.start c.in_ok-tape.tape.start) c.args.form.now.switches (g.H.Host.history c.program_of.new.host) (Err c.in_err-program.field-0.0)
    (g.H.Host.history c.core_program.new.host) =
    subst (λ start. LoadsProgram c.in_ok-tape.tape.frames.items start c.args.form.now.switches (g.H.Host.history c.program_of.new.host) (Err c.in_err-program.field-0.0) (g.H.Host.history c.core_program.new.host))
    c.start_or-start.ensures
    (subst (λ frames. LoadsProgram frames c.start_or-start.result c.args.form.now.switches (g.H.Host.history c.program_of.new.host) (Err c.in_err-program.field-0.0) (g.H.Host.history c.core_program.new.host))
    c.deref.ensures.value c.in_err-program.ensures)
    in
    inr (record {
      given = c.in_ok-tape.tape;
      between = g.H.Host.history c.program_of.new.host;
      done = c.in_ok-tape.ensures;
      after = inl (ends_with (LoadsProgram c.in_ok-tape.tape.frames.items (start_or c.args.form.now.start c.in_ok-tape.tape.start) c.args.form.now.switches) _ _ _ _ ended c.from_residual-in_err-program.ensures);
    })

pub returns : goal.returns
returns g c =
    let loads : LoadsProgram c.in_ok-tape.tape.frames.items (start_or c.args.form.now.start c.in_ok-tape.tape.start) c.args.form.now.switches (g.H.Host.history c.program_of.new.host) (Ok c.in_ok-program.program)
    (g.H.Host.history c.core_program.new.host) =
    rw c.start_or-start.ensures at (rw c.deref.ensures.value at c.in_ok-program.ensures)
    in
    let tape : (items : List Item) × IsTape c.in_ok-tape.tape.frames.items items = loaded_tape _ _ _ _ _ _ loads in
    inr (record {
      given = c.in_ok-tape.tape;
      between = g.H.Host.history c.program_of.new.host;
      done = c.in_ok-tape.ensures;
      after = inr (record {
        given = c.in_ok-program.program;
        between = g.H.Host.history c.core_program.new.host;
        done = loads;
        after = ((rw c.deref-2.ensures.value at c.ready_run.ensures) tape.0 tape.1, refl);
      });
    })
