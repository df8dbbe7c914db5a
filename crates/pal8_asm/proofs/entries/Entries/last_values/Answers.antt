use Rattle.std.proofs.Common.{◌∙◌, ap}
use Rattle.std.specs.Ordering.{nat_cmp}
use Rattle.std.specs.BTreeMap.{get}
use Rattle.pal8_grammar.specs.SourceNames.{own_value}
use Rattle.pal8_places.specs.Passing.{is_late}
use Rattle.pal8_asm.specs.Kept.{cut}
use Rattle.pal8_asm.specs.Steps.{late_of}
use Rattle.pal8_asm.proofs.MarkLemmas.{last_after}
use Rattle.pal8_asm.proofs.entries.Entries.last_values.Goals as goal

pub returns : goal.returns
returns c =
    last_after (own_value c.args.names.now.table) (is_late c.args.names.now) (late_of c.new-late.result) (late_of c.find.new.self) c.args.self.now
    (cut c.deref.result.now c.deref-2.result.now) (get nat_cmp c.in_ok-values.values) c.new-late.ensures (c.in_ok-find.ensures {u = tt})
    (ap (λ h. cut h c.deref-2.result.now) c.deref.ensures.value ∙ ap (cut c.self.inside.heads.items) c.deref-2.ensures.value ∙ c.self.view_is)
    c.in_ok-values.ensures
