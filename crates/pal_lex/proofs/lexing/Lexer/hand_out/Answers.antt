use Rattle.std.proofs.Common.{◌∙◌, ap}
use Rattle.pal_lex.specs.Progress.{Progress}
use Rattle.pal_lex.specs.JudgeSteps.{after_byte, after_statement}
use Rattle.pal_lex.specs.declared.lexing.State.TheVariants.{Over}
use Rattle.pal_lex.specs.declared.runs.Radix.TheVariants.{Octal}
use Rattle.pal_lex.proofs.ReadingLemmas.{begun_anew, is_dollar, is_no_dollar}
use Rattle.pal_lex.proofs.lexing.Lexer.hand_out.Goals as goal
use Rattle.pal_lex.proofs.lexing.Lexer.hand_out.Goals.{then-last, else-last}

old : (c : goal.After-self-2) → Progress
old c = record {
  state = c.self.inside.state;
  source = c.self.inside.source;
  may_pause = c.self.inside.may_pause;
  comment = c.self.inside.comment;
  place = c.self.inside.place;
  line = c.self.inside.line;
  radix = c.self.inside.radix;
  keeps_tokens = c.self.inside.keeps_tokens;
  draft = c.self.inside.draft;
}

pub returns-clause-ended : goal.returns-clause-ended
unfolding old
returns-clause-ended c =
    let draft = c.take-tokens.ensures.anew Octal in
    let same = ap (after_statement c.args.byte c.args.said.body) c.self.view_is in
    elim c.if-last.branch [
      | then-last w ↦ c.pass.ensures ∙ ap (after_byte c.args.byte) w.self-is
          ∙ begun_anew c.args.byte c.args.said.body (old c) Over c.radix_by-self-inside.result c.take-tokens.new.self
          (is_dollar c.args.byte c.self.inside.state w.if-last.true) c.radix_by-self-inside.ensures draft ∙ same
      | else-last w ↦ c.pass.ensures ∙ ap (after_byte c.args.byte) w.self-is
          ∙ begun_anew c.args.byte c.args.said.body (old c) c.self.inside.state c.radix_by-self-inside.result c.take-tokens.new.self
          (is_no_dollar c.args.byte c.self.inside.state w.if-last.false) c.radix_by-self-inside.ensures draft ∙ same
    ]
