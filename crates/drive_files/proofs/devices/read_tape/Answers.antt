use Rattle.std.proofs.Common.{inr, refl}
use Rattle.drive_files.proofs.devices.read_tape.Goals as goal

pub returns-in_ok-frames-in-Some : goal.returns-in_ok-frames-in-Some
returns-in_ok-frames-in-Some g c = rw c.in-Some.is (inr (record {
  given = c.in_ok-frames-in-Some.frames;
  between = g.H.Host.history c.look_file.new.host;
  done = rw c.as_str.ensures.value at c.in_ok-frames-in-Some.ensures;
  after = (refl, refl);
}))
