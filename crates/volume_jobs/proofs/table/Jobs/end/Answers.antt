use Rattle.std.proofs.Common.{◌∙◌, ap, sym, subst}
use Rattle.volume_jobs.specs.Settled.{AreHeld}
use Rattle.volume_jobs.proofs.EndLemmas.{all_let_go}
use Rattle.volume_jobs.proofs.table.Jobs.end.Goals as goal

pub returns : goal.returns
returns g c =
    c.end_all.ensures
    ∙ ap (λ h. record c.args.files.now { holds = h })
    (all_let_go c.counted_holds.ensures.released c.self.inside.places c.args.files.now.holds (subst (λ l. AreHeld c.args.files.now.holds l) (sym c.self.view_is) c.requires.held))
