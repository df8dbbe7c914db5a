use Rattle.std.proofs.Common.{◌≡◌, drop, map}
use Rattle.name_spelling.specs.Patterns as spec
use Rattle.name_spelling.proofs.patterns.is_chosen_by.Given as goal

-- no word so far chooses the file
abbrev pub invariant-loop-word : goal.invariant-loop-word
invariant-loop-word l = spec.is_chosen_by (map (λ word. word.bytes.items) (drop l.word-index l.words)) l.name ≡ spec.is_chosen_by (map (λ word. word.bytes.items) l.words) l.name
