use Rattle.std.proofs.Common.{ap, sym, ◌∙◌}
use Rattle.pal_lex.specs.Progress.{Progress}
use Rattle.pal_lex.proofs.ReadingLemmas.{failed_byte}
use Rattle.pal_lex.proofs.lexing.Lexer.push.Goals as goal

pub returns-in-Failed-clause-answers : goal.returns-in-Failed-clause-answers
returns-in-Failed-clause-answers c = λ seam text h.
    failed_byte c.args.self.now seam text c.args.byte c.in-Failed.fault (sym (ap (λ (l : Progress). l.state) c.self.view_is) ∙ c.in-Failed.is) h
