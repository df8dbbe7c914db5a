use Rattle.std.proofs.Common.{◌+◌, ◌∙◌, ap}
use Rattle.pal_lex.specs.Text.{limit}
use Rattle.pal8_lex.specs.Reading.{Progress}
use Rattle.pal8_lex.proofs.FurtherLemmas.{comment_passed}
use Rattle.pal8_lex.proofs.lexing.Lexer.pass_comment.Goals as goal

pub returns : goal.returns
returns c =
    comment_passed c.args.self.now _ c.args.byte c.requires.goes_on c.requires.state c.if-byte-eq10.false
    (ap (λ n. record { place = n; line = c.self.inside.line; end = c.self.inside.end; draft = c.self.inside.draft }) c.saturating_add-self-inside.ensures
    ∙ ap (λ (l : Progress). record { place = limit (l.place + 1); line = l.line; end = l.end; draft = l.draft }) c.self.view_is)
