use Rattle.std.proofs.Common.{subst, IfSome}
use Rattle.os8_dir.specs.Entries.{IsNamed}
use Rattle.system_session.proofs.sessions.Session.store.Goals as goal

pub store_named-requires : goal.store_named-requires
store_named-requires g c = subst (λ found. IfSome found IsNamed) c.in-Some.is c.parse.ensures.named
