use Rattle.std.proofs.Common.{◌∙◌, ap, sym}
use Rattle.std.proofs.lemmas.Result.{err_from_is_err_and}
use Rattle.system_session.proofs.SessionLemmas.{delete_refused, delete_done, delete_settled}
use Rattle.volume_jobs.specs.Settled.{plain_jobs}
use Rattle.system_session.proofs.sessions.Session.delete.Goals as goal

pub invariant_of-self-in-Some : goal.invariant_of-self-in-Some
invariant_of-self-in-Some g c = (delete_settled _ _ _ _ c.in-Some.name c.settled_calls.ensures.disturbed c.kept_holds.ensures.delete c.self.invariant.0 c.disturb.ensures c.in_ok-delete-in-Some.ensures, c.self.invariant.1)

pub returns-in_err-delete-in-Some-clause-does : goal.returns-in_err-delete-in-Some-clause-does
returns-in_err-delete-in-Some-clause-does g c =
    let p = err_from_is_err_and c.from_residual.result c.from_residual.ensures.1 in
    rw (p.1, p.2, ← c.self.view_is)
    (delete_refused _ _ _ _ _ (sym c.parse.ensures.name ∙ c.in-Some.is) c.self.invariant.0.none (λ name. c.held_names.ensures _ _ name c.self.invariant.0) c.in_err-delete-in-Some.ensures)

pub returns-in_ok-delete-in-Some-clause-does : goal.returns-in_ok-delete-in-Some-clause-does
returns-in_ok-delete-in-Some-clause-does g c =
    rw (← c.self.view_is)
    (delete_done _ _ _ _ _ (sym c.parse.ensures.name ∙ c.in-Some.is) (λ name. c.held_names.ensures _ _ name c.self.invariant.0) (ap plain_jobs c.disturb.ensures ∙ c.disturbed_jobs.ensures _) c.in_ok-delete-in-Some.ensures)
