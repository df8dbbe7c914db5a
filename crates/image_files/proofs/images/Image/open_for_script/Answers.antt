use Rattle.std.proofs.Common.{rules, inl, inr}
use Rattle.image_files.proofs.images.Image.open_for_script.Goals as goal

pub returns-in_err-file : goal.returns-in_err-file
returns-in_err-file g c = inr (record { given = c.in_ok-place.place; between = g.H.Host.history c.hold.new.host; done = search rules; after = inl (search rules) })

pub returns-in_err-judge_file : goal.returns-in_err-judge_file
returns-in_err-judge_file g c = inr (record { given = c.in_ok-place.place; between = g.H.Host.history c.hold.new.host; done = search rules; after = inr (record { given = c.in_ok-file.file; between = g.H.Host.history c.look.new.host; done = search rules; after = inl (search rules) }) })

pub returns : goal.returns
returns g c = inr (record { given = c.in_ok-place.place; between = g.H.Host.history c.hold.new.host; done = search rules; after = inr (record { given = c.in_ok-file.file; between = g.H.Host.history c.look.new.host; done = search rules; after = inr (record { given = c.in_ok-judge_file.field-0; between = g.H.Host.history c.judge_file.new.host; done = rw (c.deref.ensures.value, c.as_str-name.ensures.value) at c.in_ok-judge_file.ensures; after = search rules }) }) })
