use Rattle.std.proofs.Common.{◌≡◌, drop, map}
use Rattle.archive_many.specs.Extensions as spec
use Rattle.archive_many.proofs.extensions.is_in_any.Given as goal

-- what the lists that are left tell is what all tell
abbrev pub invariant-loop-list : goal.invariant-loop-list
invariant-loop-list l = spec.is_in_any (map (λ list. list.bytes.items) (drop l.list-index l.lists)) l.extension ≡ spec.is_in_any (map (λ list. list.bytes.items) l.lists) l.extension
