use Rattle.pal_sym.proofs.TableLemmas.{tag_answered}
use Rattle.pal_sym.proofs.tables.Symbols.define_tag.Goals as goal

pub returns-in-Some : goal.returns-in-Some
returns-in-Some c = tag_answered c.args.name c.in-Some.known c.args.self.now c.in-Some.ensures.value c.args.value c.unless_other.result c.unless_other.ensures
