use Rattle.std.proofs.Common.{refl}
use Rattle.script8.proofs.CutLemmas.{some_line}
use Rattle.script8.proofs.ItemLemmas.{opens, gives, said_ok, said_bad, said_other, begins_name}
use Rattle.script8.proofs.items.line_item.Goals as goal

pub without_end-requires : goal.without_end-requires
without_end-requires c = some_line _ _ _ _ c.requires c.split_at.ensures.front

pub store_item-requires : goal.store_item-requires
store_item-requires c = opens _ _ _ _ _ _ c.requires c.split_at.ensures.front c.without_end.ensures (said_ok _ _ _ c.in-Ok-Store.ensures c.in-Ok-Store.field-0-is)

pub returns-in-Ok-Empty : goal.returns-in-Ok-Empty
returns-in-Ok-Empty c = gives _ _ _ _ _ refl (λ short lines. refl) (opens _ _ _ _ _ _ c.requires c.split_at.ensures.front c.without_end.ensures (said_ok _ _ _ c.in-Ok-Empty.ensures c.in-Ok-Empty.field-0-is))

pub returns-in-Ok-Finish : goal.returns-in-Ok-Finish
returns-in-Ok-Finish c = gives _ _ _ _ _ refl (λ short lines. refl) (opens _ _ _ _ _ _ c.requires c.split_at.ensures.front c.without_end.ensures (said_ok _ _ _ c.in-Ok-Finish.ensures c.in-Ok-Finish.field-0-is))

pub returns-in-Ok-Whole : goal.returns-in-Ok-Whole
returns-in-Ok-Whole c = gives _ _ _ _ _ refl (λ short lines. refl) (opens _ _ _ _ _ _ c.requires c.split_at.ensures.front c.without_end.ensures (said_ok _ _ _ c.in-Ok-Whole.ensures c.in-Ok-Whole.field-0-is))

pub returns-in-BadLine : goal.returns-in-BadLine
returns-in-BadLine c = gives _ _ _ _ _ refl (λ short lines. refl) (opens _ _ _ _ _ _ c.requires c.split_at.ensures.front c.without_end.ensures (said_bad _ _ c.in-Err.ensures c.in-BadLine.is))

pub returns-in_default : goal.returns-in_default
returns-in_default c =
    let other = said_other _ _ c.in-Err.ensures c.in_default.not-BadLine in
    (other.0, begins_name _ _ _ _ (opens _ _ _ _ _ _ c.requires c.split_at.ensures.front c.without_end.ensures refl) other.1)
