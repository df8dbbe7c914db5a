use Rattle.std.proofs.Common.{inl, inr, rules}
use Rattle.image_files.specs.Reading.{FindsOne}
use Rattle.image_files.proofs.WorkLemmas.{ends_with}
use Rattle.salvage_commands.proofs.rescues.rescue_file.Goals as goal

pub returns : goal.returns
returns g c = inr (record { given = c.in_ok-judge_file.field-0; between = g.H.Host.history c.judge_file.new.host; done = rw (c.deref.ensures.value, c.as_str.ensures.value) at c.in_ok-judge_file.ensures; after = inr (record { given = c.in_ok-image.image; between = g.H.Host.history c.one_volume_in.new.host; done = c.in_ok-image.ensures.finds; after = inr (record { given = tt; between = g.H.Host.history c.tell_margins.new.host; done = (tt, c.tell_margins.ensures.0, rw (c.has_margins.ensures, c.margins_in-margins.ensures, c.deref-2.ensures.value) at c.tell_margins.ensures.1); after = rw c.deref-3.ensures.value at c.rescue_volume.ensures }) }) })

pub returns-in_err-image : goal.returns-in_err-image
returns-in_err-image g c = inr (record { given = c.in_ok-judge_file.field-0; between = g.H.Host.history c.judge_file.new.host; done = rw (c.deref.ensures.value, c.as_str.ensures.value) at c.in_ok-judge_file.ensures; after = inl (ends_with (FindsOne c.args.form.now.layout c.args.form.now.is_plain c.args.file.items) _ _ _ _ c.in_err-image.ensures.finds c.from_residual-in_err-image.ensures) })
