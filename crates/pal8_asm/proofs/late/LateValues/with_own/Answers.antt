use Rattle.std.proofs.Common.{◌∙◌, ap, sym}
use Rattle.std.specs.Ordering.{nat_cmp}
use Rattle.std.specs.BTreeMap.{get, is_at}
use Rattle.std.specs.Map.{lookup}
use Rattle.pal_sym.specs.Values.{if_none}
use Rattle.pal8_asm.proofs.MarkLemmas.{none_left, own_goes_on}
use Rattle.pal8_asm.proofs.late.LateValues.with_own.Goals as goal

pub loop-name-preserved : goal.loop-name-preserved
loop-name-preserved c = λ n.
    own_goes_on n c.in-Some.name.now c.in-Some.value.now (get nat_cmp c.loop-name.values n) (get nat_cmp c.put_if_new.new.values n) (lookup (is_at (nat_cmp n)) c.next.new.self)
    (c.in_ok-put_if_new.ensures {u = tt} n)
    ∙ ap (λ l. if_none (get nat_cmp c.loop-name.values n) (lookup (is_at (nat_cmp n)) l)) (sym c.in-Some.ensures.steps) ∙ c.loop-name.invariant n

pub returns : goal.returns
returns c = λ n.
    sym (none_left (get nat_cmp c.loop-name.values n))
    ∙ ap (λ l. if_none (get nat_cmp c.loop-name.values n) (lookup (is_at (nat_cmp n)) l)) (sym c.in-None.ensures.steps.0) ∙ c.loop-name.invariant n
