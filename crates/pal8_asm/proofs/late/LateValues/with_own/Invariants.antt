use Rattle.std.proofs.Common.{◌≡◌, ℕ}
use Rattle.std.specs.Ordering.{nat_cmp}
use Rattle.std.specs.BTreeMap.{get, is_at}
use Rattle.std.specs.Map.{lookup}
use Rattle.pal_sym.specs.Values.{if_none}
use Rattle.pal8_grammar.specs.SourceNames.{own_value}
use Rattle.pal8_asm.specs.Steps.{late_of}
use Rattle.pal8_asm.proofs.late.LateValues.with_own.Given as goal

-- a name has the value that it has by now, or else that of the names that are left
abbrev pub invariant-loop-name : goal.invariant-loop-name
invariant-loop-name l = (n : ℕ) → if_none (get nat_cmp l.values n) (lookup (is_at (nat_cmp n)) l.name-iterator) ≡ if_none (late_of l.fn.self n) (own_value l.names.table n)
