use Rattle.std.proofs.Common.{◌∙◌, Err, ap, subst, sym}
use Rattle.pal8_places.specs.declared.faults.Stop.{Stop}
use Rattle.pal8_asm.specs.Sources.{at_place}
use Rattle.pal8_asm.specs.Walking.{Passes, statement_in}
use Rattle.pal8_asm.proofs.WalkLemmas.{kept}
use Rattle.pal8_asm.proofs.assemblers.take_selected.Goals as goal

pub returns-clause-takes : goal.returns-clause-takes
returns-clause-takes c =
    kept (statement_in c.args.at c.args.statement) c.args.walk.now c.pass_selected.new.walk c.in-Ok.body ((c.in-Ok.ensures {u = tt}).passes c.args.at) c.args.entries.now
    c.push_content.new.self _ _ c.steps.result.now _ (ap (λ n. record { line = c.args.statement.line; start = n }) c.start_of.ensures) c.spot_at.ensures c.steps.ensures
    c.saturating_sub-size.ensures c.in_ok-push_content.ensures

pub returns-in-Err-At-clause-takes : goal.returns-in-Err-At-clause-takes
returns-in-Err-At-clause-takes c =
    let s = statement_in c.args.at c.args.statement in
    subst (λ (f : Stop). Passes s c.args.walk.now (Err f) c.pass_selected.new.walk) c.in-Err-At.field-0-is ((c.in-Err-At.ensures {u = tt}).passes c.args.at) c.args.entries.now
    ∙ ap (λ n. Err (at_place record { line = c.args.statement.line; start = n } c.in-Err-At.code)) (sym c.start_of.ensures)
    ∙ ap (λ k. Err (at_place record { line = c.args.statement.line; start = c.start_of.result } k)) (sym c.in-Err-At.code-is)
