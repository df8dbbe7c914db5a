use Rattle.pal_sym.proofs.TableLemmas.{nothing_defined, nothing_fixed}
use Rattle.pal_sym.proofs.tables.Symbols.new.Goals as goal

pub returns-clause-values : goal.returns-clause-values
returns-clause-values c = nothing_defined _ _ c.new.ensures.items

pub returns-clause-fixed : goal.returns-clause-fixed
returns-clause-fixed c = nothing_fixed _ _ c.new.ensures.items
