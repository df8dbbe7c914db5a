use Rattle.pal_sym.proofs.TableLemmas.{value_answered}
use Rattle.pal_sym.proofs.tables.Symbols.define_value.Goals as goal

pub returns-in-Some : goal.returns-in-Some
returns-in-Some c = value_answered c.args.name c.in-Some.known c.args.self.now c.in-Some.ensures.value c.args.value c.unless_other.result c.unless_other.ensures
