use Rattle.std.proofs.Common.{rules, ◌≡◌, inr, refl}
use Rattle.script_commands.proofs.SaveLemmas.{got}
use Rattle.script_commands.proofs.saves.save.Goals as goal

pub returns-clause-gets : goal.returns-clause-gets
returns-clause-gets g c =
    let are : c.swap.new.x.items ≡ c.deref.result.now = search rules in
    inr (c.in_ok-durability.durability, got _ _ _ _ _ _ _ _ _ _ c.in_ok-durability.ensures c.note_sync-progress.ensures.notes refl refl refl refl are, refl, c.note_sync-progress.ensures.told)
