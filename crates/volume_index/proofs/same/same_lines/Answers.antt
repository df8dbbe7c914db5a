use Rattle.std.proofs.Common.{◌∙◌}
use Rattle.volume_index.proofs.SameLemmas.{near_is_shared}
use Rattle.volume_index.proofs.same.same_lines.Goals as goal

pub returns : goal.returns
returns c = record {
  lines = c.in_ok-lines.lines.items;
  are_lines = c.in_ok-lines.ensures;
  by_digest = c.sort.new.lines.items;
  order = c.in_ok-sort.ensures;
  same_is = (rw (c.new-same.ensures.items, c.deref.ensures.value) at c.in_ok-put_same.ensures) ∙ near_is_shared c.in_ok-lines.lines.items c.sort.new.lines.items c.in_ok-sort.ensures;
}
