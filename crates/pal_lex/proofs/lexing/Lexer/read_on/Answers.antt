use Rattle.std.proofs.Common.{ap, sym, ◌∙◌}
use Rattle.pal_lex.specs.Progress.{Progress}
use Rattle.pal_lex.proofs.FinishLemmas.{over_read}
use Rattle.pal_lex.proofs.lexing.Lexer.read_on.Goals as goal

pub returns-in-Over-clause-read : goal.returns-in-Over-clause-read
returns-in-Over-clause-read c = λ seam text h.
    over_read c.args.self.now seam text c.args.bytes.now (sym (ap (λ (l : Progress). l.state) c.self.view_is) ∙ c.in-Over.is) h
