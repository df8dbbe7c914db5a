use Rattle.std.proofs.Common.{◌∙◌, ◌++◌, ◌∷◌, [], ap, refl}
use Rattle.pal8_asm.specs.Steps.{entry_meaning}
use Rattle.pal8_asm.specs.Kept.{cut}
use Rattle.pal8_asm.specs.Sources.{entry_with, with_values}
use Rattle.pal8_asm.proofs.MakingLemmas.{one_more, same_entry, still_fits}
use Rattle.pal8_asm.proofs.entries.Entries.push.Goals as goal

pub invariant_of-self-2 : goal.invariant_of-self-2
invariant_of-self-2 c =
    still_fits c.self.inside.heads.items c.reserve.new.self.items c.push_reserved.new.self.items c.self.inside.steps.items c.reserve-2.new.self.items c.put_steps.new.to.items
    c.args.steps.now (entry_meaning c.args.names.now c.args.is_late) _ c.reserve.ensures.items c.push_reserved.ensures.items c.reserve-2.ensures.items c.put_steps.ensures c.self.invariant refl

pub returns : goal.returns
returns c =
    one_more c.self.inside.heads.items c.reserve.new.self.items c.push_reserved.new.self.items c.self.inside.steps.items c.reserve-2.new.self.items c.put_steps.new.to.items
    c.args.steps.now (entry_meaning c.args.names.now c.args.is_late) _ c.reserve.ensures.items c.push_reserved.ensures.items c.reserve-2.ensures.items c.put_steps.ensures c.self.invariant refl
    ∙ ap (λ e. cut c.self.inside.heads.items c.self.inside.steps.items ++ e ∷ [])
    (same_entry c.args.late c.args.stand.place c.args.stand.spot c.cell_of.result c.low.result 0 (with_values (entry_meaning c.args.names.now c.args.is_late) c.args.steps.now) c.cell_of.ensures c.low.ensures.value)
    ∙ ap (λ l. l ++ entry_with c.args.late c.args.stand.place c.args.stand.spot (with_values (entry_meaning c.args.names.now c.args.is_late) c.args.steps.now) ∷ []) c.self.view_is
