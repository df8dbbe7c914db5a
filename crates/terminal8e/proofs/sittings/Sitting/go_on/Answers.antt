use Rattle.std.proofs.lemmas.Result.{err_from_is_err_and}
use Rattle.terminal8e.proofs.PartLemmas.{cut-part, flushed-part}
use Rattle.terminal8e.proofs.sittings.Sitting.go_on.Goals as goal

pub returns-in_err-flush-in_default-clause-runs : goal.returns-in_err-flush-in_default-clause-runs
returns-in_err-flush-in_default-clause-runs g c first form before written come =
    let p = err_from_is_err_and c.from_residual.result c.from_residual.ensures.1 in
    rw (p.1, p.2, c.in_err-flush-in_default.ensures.err)
    (cut-part g.M.TerminalMachine.acts form c.args.self.now.operator.input c.args.n c.args.most c.args.soonest first c.make_steps-ran.new.machine c.args.self.now c.make_steps-ran.new.self _ _ _ _
    c.make_steps-ran.new.paper c.make_steps-ran.result c.make_steps-ran.ensures.pause (c.make_steps-ran.ensures.runs first form before written come))

pub returns-in_ok-flush-in_default-clause-runs : goal.returns-in_ok-flush-in_default-clause-runs
returns-in_ok-flush-in_default-clause-runs g c first form before written come =
    flushed-part g.M.TerminalMachine.acts form c.args.self.now.operator.input c.args.n first c.make_steps-ran.new.machine c.make_steps-ran.new.self _ _ _ _ _
    c.make_steps-ran.new.paper c.flush.new.self c.make_steps-ran.result (c.make_steps-ran.ensures.runs first form before written come)
    c.in_ok-flush-in_default.ensures.ok c.in_ok-flush-in_default.ensures.rest

pub returns-in-Err-Writer-clause-runs : goal.returns-in-Err-Writer-clause-runs
returns-in-Err-Writer-clause-runs g c first form before written come =
    cut-part g.M.TerminalMachine.acts form c.args.self.now.operator.input c.args.n c.args.most c.args.soonest first c.make_steps-ran.new.machine c.args.self.now c.make_steps-ran.new.self _ _ _ _
    c.make_steps-ran.new.paper c.make_steps-ran.result c.make_steps-ran.ensures.pause (c.make_steps-ran.ensures.runs first form before written come)
