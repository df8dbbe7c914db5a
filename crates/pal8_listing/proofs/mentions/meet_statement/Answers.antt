use Rattle.std.proofs.Common.{◌++◌, ap, subst, ◌∙◌}
use Rattle.pal8_asm.specs.Sources.{with_next}
use Rattle.pal8_tape.specs.Passing.{Follows}
use Rattle.pal8_listing.specs.Uses.{names_read}
use Rattle.pal8_listing.proofs.mentions.meet_statement.Goals as goal

pub returns : goal.returns
returns c = λ at left follows. (
  c.in_ok-put_read.ensures left follows ∙ ap (λ s. c.args.found.now.items ++ names_read left s) (c.shown_statement-statement.ensures at),
  subst (λ s. Follows c.take.new.self (with_next s left)) (c.shown_statement-statement.ensures at) (c.in_ok-take.ensures at left follows),
)
