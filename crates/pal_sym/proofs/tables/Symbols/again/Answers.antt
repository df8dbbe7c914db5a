use Rattle.pal_sym.proofs.TableLemmas.{set_permanent}
use Rattle.pal_sym.proofs.tables.Symbols.again.Goals as goal

pub returns-in-Some : goal.returns-in-Some
returns-in-Some c = set_permanent c.args.name c.in-Some.field-0 c.args.self.now c.in-Some.ensures.value c.args.value
