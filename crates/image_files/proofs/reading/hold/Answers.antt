use Rattle.std.proofs.Common.{inl, rules}
use Rattle.image_files.specs.Reading.{IsUnheldImage}
use Rattle.image_files.proofs.HoldLemmas.{unheld}
use Rattle.image_files.proofs.reading.hold.Goals as goal

pub returns-in_default : goal.returns-in_default
unfolding IsUnheldImage
returns-in_default g c = inl (
  c.in-Err.fault,
  unheld c.in-Err.fault c.ending_of_image.result c.ending_of_image.ensures c.in_default.not-Denied c.in_default.not-ReadOnly,
  (g.H.Host.history c.hold_file.new.host, search rules, c.in-Err.ensures.cause, search rules, c.tell_unheld.ensures),
)
