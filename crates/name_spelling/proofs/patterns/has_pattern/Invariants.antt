use Rattle.std.proofs.Common.{◌≡◌, drop, map}
use Rattle.name_spelling.specs.Patterns as spec
use Rattle.name_spelling.proofs.patterns.has_pattern.Given as goal

-- no word so far is a pattern
abbrev pub invariant-loop-word : goal.invariant-loop-word
invariant-loop-word l = spec.has_pattern (map (λ word. word.bytes.items) (drop l.word-index l.words)) ≡ spec.has_pattern (map (λ word. word.bytes.items) l.words)
