use Rattle.std.proofs.Common.{◌-◌, length, refl, ap, sym, subst, ◌∙◌}
use Rattle.pal_lex.specs.Progress.{Progress}
use Rattle.pal_lex.specs.Reading.{HasRead}
use Rattle.pal_lex.proofs.RunLemmas.{moved, run_read, none_read}
use Rattle.pal_lex.proofs.lexing.Lexer.take_run.Goals as goal

pub returns-in-Some-clause-read : goal.returns-in-Some-clause-read
returns-in-Some-clause-read c = λ seam text read.
    run_read _ seam text c.args.bytes.now c.args.others.now c.args.first c.in-Some.more (length c.args.bytes.now - (length c.args.others.now - c.in-Some.more)) c.saturating_add-self-inside.result c.put_run.new.self
    (ap (λ (l : Progress). l.state) c.self.view_is ∙ c.requires.reading) (ap (λ (l : Progress). l.comment) c.self.view_is ∙ c.requires.live) c.requires.coded
    c.requires.bytes refl (subst (λ l. HasRead l seam text) (sym c.self.view_is) read) c.in-Some.ensures.put c.saturating_add-self-inside.ensures

pub returns-in-None-clause-read : goal.returns-in-None-clause-read
returns-in-None-clause-read c = λ seam text read.
    let old : Progress = record {
      state = c.self.inside.state;
      source = c.self.inside.source;
      may_pause = c.self.inside.may_pause;
      comment = c.self.inside.comment;
      place = c.self.inside.place;
      line = c.self.inside.line;
      radix = c.self.inside.radix;
      keeps_tokens = c.self.inside.keeps_tokens;
      draft = c.self.inside.draft;
    } in
    none_read (moved old old.place c.put_run.new.self) seam text c.args.bytes.now
    (subst (λ l. HasRead l seam text) (sym (ap (moved old old.place) (c.in-None.ensures.refused refl) ∙ c.self.view_is)) read)
