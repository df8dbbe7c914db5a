use Rattle.std.proofs.lemmas.Result.{err_from_is_err_and}
use Rattle.terminal8.proofs.RunEndLemmas.{cut-run, flushed-run}
use Rattle.terminal8.proofs.runs.run.Goals as goal

pub returns-in_err-flush-in_default-clause-runs : goal.returns-in_err-flush-in_default-clause-runs
returns-in_err-flush-in_default-clause-runs g c =
    let p = err_from_is_err_and c.from_residual.result c.from_residual.ensures.1 in
    rw (p.1, p.2, c.in_err-flush-in_default.ensures.err)
    (cut-run c.args.form c.args.input c.args.n c.args.machine.now c.run_steps-ran.new.machine _ _ _ _ c.run_steps-ran.new.paper c.run_steps-ran.new.absences c.run_steps-ran.result c.run_steps-ran.ensures.runs)

pub returns-in_ok-flush-in_default-clause-runs : goal.returns-in_ok-flush-in_default-clause-runs
returns-in_ok-flush-in_default-clause-runs g c =
    flushed-run c.args.form c.args.input c.args.n c.args.machine.now c.run_steps-ran.new.machine _ _ _ _ _ c.run_steps-ran.new.paper c.flush.new.self c.run_steps-ran.new.absences c.run_steps-ran.result
    c.run_steps-ran.ensures.runs c.in_ok-flush-in_default.ensures.ok c.in_ok-flush-in_default.ensures.rest
