use Rattle.keeper_laws.specs.Changes.{HasDeleted, HasEmptied, HasPatched, HasRenamed, HasSqueezed}
use Rattle.keeper_laws.specs.Copied.{HasCopied}
use Rattle.keeper_laws.specs.Stored.{HasStored}
use Rattle.keeper_laws.proofs.TouchLemmas.{ends-touches, gets-touches, patch-touches}
use Rattle.keeper_laws.proofs.laws.touched_files.Goals as goal

pub returns-clause-puts : goal.returns-clause-puts
returns-clause-puts c form old result new p =
    ends-touches form.image (HasStored form) (λ ok old new s. gets-touches form.image s.image s.path s.was s.stored.bytes.items old new s.opened s.has) result old new (c.ended_changes.ensures.puts form old result new p)

pub returns-clause-copies : goal.returns-clause-copies
returns-clause-copies c form old result new p =
    ends-touches form.to (HasCopied form) (λ ok old new s. gets-touches form.to s.image s.path s.was s.made.items old new s.opened s.has) result old new (c.ended_changes.ensures.copies form old result new p)

pub returns-clause-squeezes : goal.returns-clause-squeezes
returns-clause-squeezes c form old result new p =
    ends-touches form (HasSqueezed form) (λ ok old new s. gets-touches form s.image s.path s.was s.made.bytes.items old new s.opened s.has) result old new (c.ended_changes.ensures.squeezes form old result new p)

pub returns-clause-renames : goal.returns-clause-renames
returns-clause-renames c wanted other form old result new p =
    ends-touches form (HasRenamed wanted other form) (λ ok old new s. gets-touches form s.image s.path s.was s.made.bytes.items old new s.opened s.has) result old new (c.ended_changes.ensures.renames wanted other form old result new p)

pub returns-clause-deletes : goal.returns-clause-deletes
returns-clause-deletes c form old result new p =
    ends-touches form.image (HasDeleted form) (λ ok old new s. gets-touches form.image s.image s.path s.was s.made.bytes.items old new s.opened s.has) result old new (c.ended_changes.ensures.deletes form old result new p)

pub returns-clause-patches : goal.returns-clause-patches
returns-clause-patches c word form old result new p =
    patch-touches form (HasPatched word form) (λ ok old new s. gets-touches form s.image s.path s.was s.made.items old new s.opened s.has) result old new (c.ended_words.ensures.patches word form old result new p)

pub returns-clause-empties : goal.returns-clause-empties
returns-clause-empties c form old result new p =
    ends-touches form (HasEmptied form) (λ ok old new s. gets-touches form s.image s.path s.was s.made.items old new s.opened s.has) result old new (c.ended_words.ensures.empties form old result new p)
