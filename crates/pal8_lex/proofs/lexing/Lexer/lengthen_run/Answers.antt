use Rattle.std.proofs.Common.{◌+◌, ◌∙◌, ap, sym}
use Rattle.pal_lex.specs.Text.{limit}
use Rattle.pal8_lex.specs.Reading.{Progress}
use Rattle.pal8_lex.proofs.FurtherLemmas.{run_lengthened}
use Rattle.pal8_lex.proofs.lexing.Lexer.lengthen_run.Goals as goal

pub returns : goal.returns
returns c =
    run_lengthened c.args.self.now _ c.args.byte c.lengthen.new.self c.requires.goes_on c.requires.state (sym c.if-not-is_letter_or_digit.ensures)
    (λ newest older at place_is draft_is shape_is.
    c.lengthen.ensures newest older at (ap (λ (l : Progress). l.place) c.self.view_is ∙ place_is) (ap (λ (l : Progress). l.draft) c.self.view_is ∙ draft_is) shape_is)
    (ap (λ n. record { place = n; line = c.self.inside.line; end = c.self.inside.end; draft = c.lengthen.new.self }) c.saturating_add-self-inside.ensures
    ∙ ap (λ (l : Progress). record { place = limit (l.place + 1); line = l.line; end = l.end; draft = c.lengthen.new.self }) c.self.view_is)
