use Rattle.std.proofs.Common.{inl, inr, rules}
use Rattle.image_files.proofs.reading.look_at.Goals as goal

pub returns-clause-looks : goal.returns-clause-looks
returns-clause-looks g c = inr (record { given = c.in_ok-file.file; between = g.H.Host.history c.look_image.new.host; done = search rules; after = c.one_volume_in.ensures.finds })

pub returns-in_err-file-clause-looks : goal.returns-in_err-file-clause-looks
returns-in_err-file-clause-looks g c = inl (search rules)
