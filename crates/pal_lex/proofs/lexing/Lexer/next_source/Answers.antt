use Rattle.std.proofs.Common.{ap, sym, ◌∙◌}
use Rattle.pal_lex.specs.Progress.{Progress}
use Rattle.pal_lex.proofs.FinishLemmas.{source_begins}
use Rattle.pal_lex.proofs.ReadingLemmas.{failed_next}
use Rattle.pal_lex.proofs.lexing.Lexer.next_source.Goals as goal

pub returns-in-Failed-clause-read : goal.returns-in-Failed-clause-read
returns-in-Failed-clause-read c = λ seam text h.
    failed_next c.args.self.now seam text c.in-Failed.fault (sym (ap (λ (l : Progress). l.state) c.self.view_is) ∙ c.in-Failed.is) h

pub returns-in-Paused-clause-paused : goal.returns-in-Paused-clause-paused
returns-in-Paused-clause-paused c = λ text h. source_begins c.args.self.now c.begin.new.self text c.args.last h c.begin.ensures
