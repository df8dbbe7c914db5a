use Rattle.std.proofs.Common.{◌∙◌, ap}
use Rattle.pal8_grammar.specs.SourceNames.{own_value}
use Rattle.pal8_places.specs.Passing.{is_late}
use Rattle.pal8_asm.specs.Kept.{cut}
use Rattle.pal8_asm.specs.Steps.{late_of}
use Rattle.pal8_asm.proofs.MakingLemmas.{made_at_last}
use Rattle.pal8_asm.proofs.entries.Entries.make.Goals as goal

pub returns : goal.returns
returns c = λ whole making.
    made_at_last (own_value c.args.names.now.table) (is_late c.args.names.now) (late_of c.new-late.result) (late_of c.find.new.self) c.args.self.now
    (cut c.deref.result.now c.deref-2.result.now) (cut c.deref-3.result.now c.deref-4.result.now) whole c.make_all.new.made.pools c.make_all.new.made.cells
    c.make_all.new.made.clash c.make_all.new.made.pairs.items c.make_all.result c.new-late.ensures (c.in_ok-find.ensures {u = tt})
    (ap (λ h. cut h c.deref-2.result.now) c.deref.ensures.value ∙ ap (cut c.self.inside.heads.items) c.deref-2.ensures.value ∙ c.self.view_is)
    (ap (λ h. cut h c.deref-4.result.now) c.deref-3.ensures.value ∙ ap (cut c.self.inside.heads.items) c.deref-4.ensures.value ∙ c.self.view_is)
    (c.make_all.ensures whole making)
