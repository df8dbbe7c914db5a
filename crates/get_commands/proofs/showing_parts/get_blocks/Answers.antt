use Rattle.std.proofs.Common.{rules, inl, inr}
use Rattle.image_files.specs.Reading.{LooksAt}
use Rattle.image_files.proofs.WorkLemmas.{ends_with}
use Rattle.get_commands.proofs.showing_parts.get_blocks.Goals as goal

pub returns-in_err-given : goal.returns-in_err-given
returns-in_err-given g c = inr (record { given = c.in_ok-image.image; between = g.H.Host.history c.look_at.new.host; done = c.in_ok-image.ensures.looks; after = inl (search rules) })

pub returns : goal.returns
returns g c = inr (record { given = c.in_ok-image.image; between = g.H.Host.history c.look_at.new.host; done = c.in_ok-image.ensures.looks; after = inr (record { given = c.in_ok-given.given; between = g.H.Host.history c.given_blocks.new.host; done = search rules; after = rw c.deref-2.ensures.value at c.print.ensures }) })

pub returns-in_err-image : goal.returns-in_err-image
returns-in_err-image g c = inl (ends_with (LooksAt c.args.form.now.image) _ _ _ _ c.in_err-image.ensures.looks c.from_residual.ensures)
