use Rattle.std.proofs.Common.{◌≡◌, ◌≤◌, ◌+◌, drop, map}
use Rattle.command_refusals.specs.Refusals.{input_count}
use Rattle.command_refusals.proofs.missing.input_count.Given as goal

-- the names so far are counted
abbrev pub invariant-loop-name : goal.invariant-loop-name
invariant-loop-name l = record {
  counted : input_count (map (λ name. name.now) l.names) ≡ l.count + input_count (map (λ name. name.now) (drop l.name-index l.names));
  small : l.count ≤ l.name-index;
}
