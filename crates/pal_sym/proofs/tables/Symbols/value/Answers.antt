use Rattle.std.proofs.Common.{sym, ap, ◌∙◌}
use Rattle.std.specs.Ordering.{nat_cmp}
use Rattle.std.specs.FinMap.{find}
use Rattle.pal_sym.specs.Values.{defined_value}
use Rattle.pal_sym.proofs.TableLemmas.{permanent_stands, listed_value}
use Rattle.pal_sym.proofs.tables.Symbols.value.Goals as goal

pub returns-in-Some-clause-value : goal.returns-in-Some-clause-value
returns-in-Some-clause-value c = sym (permanent_stands c.args.self.now c.args.name c.in-Some.word c.in-Some.ensures.value)

pub returns-in-None-clause-value : goal.returns-in-None-clause-value
returns-in-None-clause-value c =
    c.find.ensures.value ∙ ap (λ items. defined_value (find nat_cmp c.args.name items)) c.deref.ensures.value
    ∙ sym (listed_value c.self.inside.entries.items _ c.args.name c.args.self.now c.self.view_is c.in-None.ensures.value)
