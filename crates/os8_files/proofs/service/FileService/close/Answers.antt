use Rattle.std.proofs.Common.{refl}
use Rattle.os8_files.proofs.service.FileService.close.Goals as goal

pub place-requires-clause-begun : goal.place-requires-clause-begun
place-requires-clause-begun g c = record {
  ready = record { running = c.if-self.false; none = refl };
  directory = c.self.inside.directory;
  read = c.self.invariant.kept c.if-self.false;
  lies = c.self.invariant.begun c.if-self.false c.in-Some.begun c.in-Some.is;
}
