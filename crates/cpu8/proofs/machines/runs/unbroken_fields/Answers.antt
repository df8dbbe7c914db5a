use Rattle.std.proofs.Common.{refl, arith, sym, ◌∙◌}
use Rattle.std.proofs.lemmas.Bool.{not-true}
use Rattle.std.proofs.lemmas.List.{length-set}
use Rattle.cpu8.proofs.UnbrokenLemmas.{unbroken-part, unbroken-set}
use Rattle.cpu8.proofs.machines.runs.unbroken_fields.Goals as goal

pub loop-field-preserved : goal.loop-field-preserved
loop-field-preserved c = (
  unbroken-set c.args.breaks.now c.loop-field.unbroken c.loop-field.field _ c.loop-field.invariant.0 (omega arith)
      (λ none. unbroken-part c.args.breaks.now c.loop-field.field _ _ refl (omega arith) (omega arith) (sym c.contains.ensures.value ∙ not-true c.contains.result none)),
  length-set c.loop-field.unbroken c.loop-field.field _ ∙ c.loop-field.invariant.1,
)
