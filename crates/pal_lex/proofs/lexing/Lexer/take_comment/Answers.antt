use Rattle.std.proofs.Common.{ap, sym, subst, ◌∙◌}
use Rattle.pal_lex.specs.Progress.{Progress}
use Rattle.pal_lex.specs.Reading.{HasRead}
use Rattle.pal_lex.proofs.RunLemmas.{comment_read}
use Rattle.pal_lex.proofs.lexing.Lexer.take_comment.Goals as goal

pub returns-clause-read : goal.returns-clause-read
returns-clause-read c = λ seam text read.
    comment_read _ seam text c.args.bytes.now c.before_cr-count.result c.saturating_add-self-inside.result
    (ap (λ (l : Progress). l.state) c.self.view_is ∙ c.requires.reading) (ap (λ (l : Progress). l.comment) c.self.view_is ∙ c.requires.comment)
    c.before_cr-count.ensures.range c.before_cr-count.ensures.none (subst (λ l. HasRead l seam text) (sym c.self.view_is) read) c.saturating_add-self-inside.ensures
