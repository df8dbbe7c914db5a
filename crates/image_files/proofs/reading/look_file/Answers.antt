use Rattle.image_files.proofs.ReadLemmas.{looks}
use Rattle.image_files.proofs.reading.look_file.Goals as goal

pub returns : goal.returns
returns g c = looks c.args.name.now c.args.name.now (g.H.Host.history c.args.host.now) (g.H.Host.history c.look-found.new.self) (g.H.Host.history c.within.new.host) c.look-found.result c.within.result c.look-found.ensures.call c.within.ensures
