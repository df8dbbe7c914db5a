use Rattle.std.proofs.Common.{◌≡◌, drop, map}
use Rattle.command_table.specs.Found.{first_not}
use Rattle.command_refusals.proofs.judging.first_of.Given as goal

-- the texts so far are of the form
abbrev pub invariant-loop-text : goal.invariant-loop-text
invariant-loop-text l = first_not l.form (map (λ text. text.now) l.texts) ≡ first_not l.form (map (λ text. text.now) (drop l.text-index l.texts))
