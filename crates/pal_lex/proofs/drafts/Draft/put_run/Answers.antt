use Rattle.std.proofs.Common.{refl, arith, ap, sym, ◌∙◌}
use Rattle.pal_lex.specs.Drafting.{Cut}
use Rattle.pal_lex.specs.Runs.{base}
use Rattle.pal_lex.proofs.RunLemmas.{run_put, puts_legal}
use Rattle.pal_lex.proofs.drafts.Draft.put_run.Goals as goal

pub returns-in-Ok-clause-put : goal.returns-in-Ok-clause-put
returns-in-Ok-clause-put c = λ illegal before at there was.
    puts_legal (base c.args.radix) illegal before c.args.first c.args.others.now at 0 c.args.self.now c.put_character.new.self was (ap (λ (d : Cut). d.illegal) (sym c.self.view_is) ∙ c.if-self.false)
    (λ e. (omega arith, refl, c.in-Ok.ensures.put before at there e))

pub returns-in-Ok-add-clause-put : goal.returns-in-Ok-add-clause-put
returns-in-Ok-add-clause-put c = λ illegal before at there was.
    puts_legal (base c.args.radix) illegal before c.args.first c.args.others.now at c.run_of-run.result.more c.args.self.now c.add.new.self was (ap (λ (d : Cut). d.illegal) (sym c.self.view_is) ∙ c.if-self.false)
    (λ e. run_put (base c.args.radix) before c.args.first c.args.others.now at c.run_of-run.result c.args.self.now c.add.new.self
    (λ weight e. c.in_default.not-Run weight (ap (λ (d : Cut). d.tail) c.self.view_is ∙ e)) (c.run_of-run.ensures.run at there) e c.in-Ok-add.ensures.added)
