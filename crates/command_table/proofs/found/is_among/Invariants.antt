use Rattle.std.proofs.Common.{◌≡◌, drop, map}
use Rattle.command_table.specs.Found.{is_among}
use Rattle.command_table.proofs.found.is_among.Given as goal

-- none of the texts so far is this one
abbrev pub invariant-loop-other : goal.invariant-loop-other
invariant-loop-other l = is_among l.text (map (λ it. it.now) l.texts) ≡ is_among l.text (map (λ it. it.now) (drop l.other-index l.texts))
