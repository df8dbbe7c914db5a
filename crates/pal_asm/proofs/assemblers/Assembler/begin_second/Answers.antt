use Rattle.pal_asm.proofs.SecondLemmas.{turned}
use Rattle.pal_asm.proofs.assemblers.Assembler.begin_second.Goals as goal

pub returns-clause-turns : goal.returns-clause-turns
returns-clause-turns c = λ whole first.
    turned whole c.args.self.now c.self.inside.is_second c.self.inside.symbols c.self.inside.spot c.first_spot-self-inside.result c.self.inside.line c.self.inside.fault
    c.self.view_is c.if-not-self.false c.first_spot-self-inside.ensures first
