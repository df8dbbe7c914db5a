use Rattle.std.proofs.Common.{Bool, Ok, if◌then◌else◌, ap, subst, ◌∙◌}
use Rattle.pal8_lex.specs.Reading.{Answers}
use Rattle.pal8_tape.specs.Marks.{begins, mark_of}
use Rattle.pal8_tape.proofs.MarkLemmas.{with_one}
use Rattle.pal8_tape.proofs.marks.look.Goals as goal

pub returns-then-branch : goal.returns-then-branch
returns-then-branch c = λ text read is.
    let new = c.push.new.self in
    let answers = subst (λ (b : Bool). Answers text c.args.byte (Ok b) new) c.if-branch.true (c.in_ok-push.ensures text read) in (
      c.with_statement.ensures
          ∙ ap (λ t. if begins c.args.start t then mark_of c.args.code.now c.args.radix c.args.start t else c.args.mark) c.tokens.ensures
          ∙ with_one c.args.code.now c.args.radix c.args.start c.args.mark text c.args.byte new answers is,
      answers.2,
    )
