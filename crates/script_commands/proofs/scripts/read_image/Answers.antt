use Rattle.std.proofs.Common.{rules, inl, inr, refl}
use Rattle.script_commands.proofs.scripts.read_image.Goals as goal

pub returns : goal.returns
returns g c = inr (record { given = c.in_ok-file.file; between = g.H.Host.history c.look_file.new.host; done = search rules; after = inr (record { given = tt; between = g.H.Host.history c.judge_file.new.host; done = rw (c.as_str-2.ensures.value, c.deref.ensures.value) at c.in_ok-judge_file.ensures; after = inr (record { given = c.in_ok-bytes.bytes; between = g.H.Host.history c.script_volume_in.new.host; done = c.in_ok-bytes.ensures; after = ((refl, refl, refl, refl), refl) }) }) })

pub returns-in_err-bytes : goal.returns-in_err-bytes
returns-in_err-bytes g c = inr (record { given = c.in_ok-file.file; between = g.H.Host.history c.look_file.new.host; done = search rules; after = inr (record { given = tt; between = g.H.Host.history c.judge_file.new.host; done = rw (c.as_str-2.ensures.value, c.deref.ensures.value) at c.in_ok-judge_file.ensures; after = inl (search rules) }) })

pub returns-in_err-judge_file : goal.returns-in_err-judge_file
returns-in_err-judge_file g c = inr (record { given = c.in_ok-file.file; between = g.H.Host.history c.look_file.new.host; done = search rules; after = inl (search rules) })
