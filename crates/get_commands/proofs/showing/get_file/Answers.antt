use Rattle.std.proofs.Common.{rules, inl, inr}
use Rattle.image_files.specs.Reading.{LooksAt}
use Rattle.image_files.proofs.WorkLemmas.{ends_with}
use Rattle.get_commands.proofs.showing.get_file.Goals as goal

pub returns-in_err-given : goal.returns-in_err-given
returns-in_err-given g c = inr (record { given = c.in_ok-bytes.bytes; between = g.H.Host.history c.look_at.new.host; done = c.in_ok-bytes.ensures.looks; after = inl (search rules) })

pub returns : goal.returns
returns g c = inr (record { given = c.in_ok-bytes.bytes; between = g.H.Host.history c.look_at.new.host; done = c.in_ok-bytes.ensures.looks; after = inr (record { given = c.in_ok-given.given; between = g.H.Host.history c.show_file.new.host; done = search rules; after = rw c.deref-2.ensures.value at c.print.ensures }) })

pub returns-in_err-bytes : goal.returns-in_err-bytes
returns-in_err-bytes g c = inl (ends_with (LooksAt c.args.image.now) _ _ _ _ c.in_err-bytes.ensures.looks c.from_residual.ensures)
