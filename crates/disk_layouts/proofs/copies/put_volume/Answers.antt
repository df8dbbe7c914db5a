use Rattle.std.proofs.Common.{subst, inl, inr}
use Rattle.std.proofs.lemmas.Bool.{cases_lt}
use Rattle.disk_layouts.specs.declared.layouts.Layout.{Layout}
use Rattle.disk_layouts.specs.declared.sizes.TheConstants.{DISK_VOLUME}
use Rattle.disk_layouts.specs.Disks.{IsOutside}
use Rattle.disk_layouts.proofs.CopyLemmas.{following_first, beside_second}
use Rattle.disk_layouts.proofs.copies.put_volume.Goals as goal

pub returns-in-First-clause-others : goal.returns-in-First-clause-others
returns-in-First-clause-others c = λ at out.
    c.copy_at.ensures.following at (following_first at (subst (λ (l : Layout). IsOutside l at) c.in-First.is out))

pub returns-in-Second-clause-others : goal.returns-in-Second-clause-others
returns-in-Second-clause-others c = λ at out. elim (cases_lt at DISK_VOLUME) [
  | inl lower ↦ c.copy_at-in-Second.ensures.before at lower
  | inr from ↦ c.copy_at-in-Second.ensures.following at (beside_second at (subst (λ (l : Layout). IsOutside l at) c.in-Second.is out) from)
]

pub returns-in-Dectape-clause-others : goal.returns-in-Dectape-clause-others
returns-in-Dectape-clause-others c = λ at out. c.put_tape.ensures.others at (subst (λ (l : Layout). IsOutside l at) c.in-Dectape.is out)
