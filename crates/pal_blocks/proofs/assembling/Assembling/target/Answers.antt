use Rattle.std.proofs.Common.{ℕ, List, length, ap, arith}
use Rattle.pal_blocks.proofs.AgainLemmas.{last_turn, goes_on, is_over}
use Rattle.pal_blocks.proofs.assembling.Assembling.target.Goals as goal

pub returns-then-self-count-clause-last : goal.returns-then-self-count-clause-last
returns-then-self-count-clause-last c = λ sources is.
    absurd (omega (arith, is_over sources c.args.self.now is, c.if-self-count.true, c.count.ensures, ap (λ (l : List ℕ). length l) c.deref.ensures.value))

pub returns-clause-last : goal.returns-clause-last
returns-clause-last c = λ sources is.
    last_turn c.has_words.ensures c.written_tape.ensures sources c.args.self.now c.deref-2.result.now c.tape_words.result is c.deref-2.ensures.value c.tape_words.ensures.words c.tape_words.ensures.fault

pub returns-clause-early : goal.returns-clause-early
returns-clause-early c = λ sources left is more.
    absurd (omega (arith, goes_on sources c.args.self.now left is more, c.if-self-count.false, c.count.ensures, ap (λ (l : List ℕ). length l) c.deref.ensures.value))
