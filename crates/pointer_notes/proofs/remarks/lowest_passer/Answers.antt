use Rattle.std.proofs.Common.{ap, ◌∙◌}
use Rattle.pointer_notes.specs.Steps.{lower, passer, view_in}
use Rattle.pointer_notes.proofs.ArgumentLemmas.{lowest_passer_is}
use Rattle.pointer_notes.proofs.remarks.lowest_passer.Goals as goal

pub returns : goal.returns
returns c =
    let view = view_in c.args.views.now in
    c.lower-2.ensures
    ∙ ap (λ o. lower o c.lower.result) c.passer.ensures.value
    ∙ ap (lower (passer view c.args.cell 3))
    (c.lower.ensures
    ∙ ap (λ o. lower o c.passer-3.result) c.passer-2.ensures.value
    ∙ ap (lower (passer view c.args.cell 2)) c.passer-3.ensures.value)
    ∙ lowest_passer_is view c.args.cell c.passer.ensures.range
