use Rattle.std.proofs.Common.{◌∙◌, ap, sym}
use Rattle.image_files.specs.Leftovers.{part_after}
use Rattle.image_files.proofs.LeftoverLemmas.{part-goes-on}
use Rattle.image_files.proofs.WorkLemmas.{no_item}
use Rattle.image_files.proofs.leftovers.last_part.Goals as goal

pub loop-rest-preserved : goal.loop-rest-preserved
loop-rest-preserved c = sym (part-goes-on c.loop-rest.part.now c.loop-rest.rest.now c.in-len1-up.len_at_least c.if-byte-eq47.false) ∙ c.loop-rest.invariant

pub returns : goal.returns
returns c = sym (ap (λ l. part_after c.loop-rest.part.now l) (no_item c.loop-rest.rest.now c.in_default.len_below)) ∙ c.loop-rest.invariant
