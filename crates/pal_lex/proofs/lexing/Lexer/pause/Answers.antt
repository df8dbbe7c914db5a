use Rattle.std.proofs.Common.{ap, ◌∙◌}
use Rattle.pal_lex.specs.Drafting.{Cut}
use Rattle.pal_lex.specs.JudgeSteps.{after_pause}
use Rattle.pal_lex.specs.declared.lexing.State.TheVariants.{Paused}
use Rattle.pal_lex.specs.declared.runs.Radix.TheVariants.{Octal}
use Rattle.pal_lex.proofs.lexing.Lexer.pause.Goals as goal

pub returns-clause-paused : goal.returns-clause-paused
returns-clause-paused c =
    ap (λ (d : Cut). record {
      state = Paused;
      source = c.self.inside.source;
      may_pause = c.self.inside.may_pause;
      comment = c.self.inside.comment;
      place = c.self.inside.place;
      line = c.self.inside.line;
      radix = c.self.inside.radix;
      keeps_tokens = c.self.inside.keeps_tokens;
      draft = d;
    }) (c.take-tokens.ensures.anew Octal)
    ∙ ap after_pause c.self.view_is
