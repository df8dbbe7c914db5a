use Rattle.archive_many.proofs.HostLemmas.{begun, at-slash, at-other}
use Rattle.archive_many.proofs.host_names.last_part.Goals as goal

pub loop-rest-init : goal.loop-rest-init
loop-rest-init c = begun c.args.path.now

pub loop-rest-preserved-then-character-eq47 : goal.loop-rest-preserved-then-character-eq47
loop-rest-preserved-then-character-eq47 c = at-slash c.args.path.now c.loop-rest.part.now c.loop-rest.rest.now c.in-len1-up.len_at_least c.if-character-eq47.true c.loop-rest.invariant

pub loop-rest-preserved : goal.loop-rest-preserved
loop-rest-preserved c = at-other c.args.path.now c.loop-rest.part.now c.loop-rest.rest.now c.in-len1-up.len_at_least c.if-character-eq47.false c.loop-rest.invariant
