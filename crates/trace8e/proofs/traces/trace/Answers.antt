use Rattle.std.proofs.lemmas.Result.{err_from_is_err_and}
use Rattle.tape_source.specs.Tags.{is_flagged}
use Rattle.trace8e.proofs.RunLemmas.{no-trace}
use Rattle.trace8e.proofs.PaperLemmas.{some-none, some-steps}
use Rattle.trace8e.proofs.traces.trace.Goals as goal

pub returns-in_err-lines-clause-traces : goal.returns-in_err-lines-clause-traces
returns-in_err-lines-clause-traces g c =
    let p = err_from_is_err_and c.from_residual.result c.from_residual.ensures.1 in
    rw (p.1) (no-trace (is_flagged c.args.tags.now) c.args.n c.args.terminal.now _ p.0)

pub returns-in_err-lines-clause-papers : goal.returns-in_err-lines-clause-papers
returns-in_err-lines-clause-papers g c =
    let p = err_from_is_err_and c.from_residual.result c.from_residual.ensures.1 in
    rw (p.1) (some-none c.args.terminal.now c.args.papers.now)
