use Rattle.std.proofs.Common.{◌≡◌, Some, length}
use Rattle.pal8_grammar.specs.Values.{steps_in, steps_of, with_tokens}
use Rattle.pal8_grammar.specs.Steps.{setting_of}
use Rattle.pal8_grammar.proofs.readers.Reader.read.Given as goal

-- the tokens that were read are the value's first ones
abbrev pub invariant-loop-rest : goal.invariant-loop-rest
invariant-loop-rest l = steps_in (with_tokens (setting_of l.names l.rules) l.rest (Some l.self)) ≡ steps_of (setting_of l.fn.names l.fn.rules) l.fn.first l.fn.tokens

abbrev pub decreases-loop-rest : goal.decreases-loop-rest
decreases-loop-rest l = length l.rest
