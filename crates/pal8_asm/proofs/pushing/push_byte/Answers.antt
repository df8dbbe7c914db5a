use Rattle.std.proofs.Common.{Bool, Ok, subst, sym}
use Rattle.pal8_lex.specs.Reading.{Answers}
use Rattle.pal8_asm.proofs.ByteLemmas.{none_shown, statement_shown}
use Rattle.pal8_asm.proofs.pushing.push_byte.Goals as goal

pub returns-then-not-branch : goal.returns-then-not-branch
returns-then-not-branch c = λ here read. none_shown here c.args.byte c.push.new.self (subst (λ (b : Bool). Answers here c.args.byte (Ok b) c.push.new.self) c.if-not-branch.true (c.in_ok-push.ensures here read))

pub returns : goal.returns
returns c = λ here read.
    statement_shown here c.args.byte _ c.push.new.self (sym c.end.ensures)
    (subst (λ (b : Bool). Answers here c.args.byte (Ok b) c.push.new.self) c.if-not-branch.false (c.in_ok-push.ensures here read))
