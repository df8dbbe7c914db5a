use Rattle.std.proofs.Common.{◌-◌, ◌^◌, length, map}
use Rattle.program.specs.GivenWords.{AreAsked}
use Rattle.program.proofs.given_words.words_of.Given as goal

-- the words so far were asked for
abbrev pub invariant-loop-words : goal.invariant-loop-words
invariant-loop-words g l = AreAsked 0 (map (λ word. word.bytes.items) l.words.items) (g.H.Host.history l.fn.host) (g.H.Host.history l.host)

abbrev pub decreases-loop-words : goal.decreases-loop-words
decreases-loop-words g l = 2 ^ 64 - length l.words.items
