use Rattle.std.proofs.Common.{ap, sym, ◌∙◌}
use Rattle.pal_lex.specs.Progress.{Progress}
use Rattle.pal_lex.proofs.ReadingLemmas.{failed_end}
use Rattle.pal_lex.proofs.lexing.Lexer.end.Goals as goal

pub returns-in-Failed-clause-read : goal.returns-in-Failed-clause-read
returns-in-Failed-clause-read c = λ seam text h.
    failed_end c.args.self.now seam text c.in-Failed.fault (sym (ap (λ (l : Progress). l.state) c.self.view_is) ∙ c.in-Failed.is) h
