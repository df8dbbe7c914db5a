use Rattle.image_files.proofs.ReadLemmas.{looks}
use Rattle.image_files.proofs.reading.look.Goals as goal

pub returns-then-place : goal.returns-then-place
returns-then-place g c = rw c.if-place.true
    (looks c.args.place.now.path.bytes.items c.args.name.now (g.H.Host.history c.args.host.now) (g.H.Host.history c.look_held-found.new.self) (g.H.Host.history c.within.new.host) c.look_held-found.result c.within.result
    (rw c.as_str.ensures.value at c.look_held-found.ensures.call) c.within.ensures)
