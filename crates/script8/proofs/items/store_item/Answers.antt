use Rattle.std.proofs.Common.{refl}
use Rattle.script8.proofs.ItemLemmas.{stores, few_lines}
use Rattle.script8.proofs.items.store_item.Goals as goal

pub returns-in-Err : goal.returns-in-Err
returns-in-Err c = few_lines _ _ _ _ _ _ _ _ c.requires c.split_at.ensures.back c.in-Err.ensures c.cut_off.ensures.over c.cut_off.ensures.on

pub returns-in_ok-text-in-Ok : goal.returns-in_ok-text-in-Ok
returns-in_ok-text-in-Ok c = stores _ _ _ _ _ _ _ _ _ _ c.requires c.split_at.ensures.back c.in-Ok.ensures c.split_at-in-Ok.ensures.front c.in_ok-text-in-Ok.ensures refl
