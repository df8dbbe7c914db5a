use Rattle.program.proofs.WordLemmas.{taken}
use Rattle.program.proofs.given_words.next_word.Goals as goal

pub returns-in-Some : goal.returns-in-Some
returns-in-Some g c =
    taken c.args.place c.in-Some.bytes (g.H.Host.history c.args.host.now) (g.H.Host.history c.word.new.self) c.take_word.result (g.H.Host.history c.take_word.new.host)
    (rw c.in-Some.is at c.in_ok-bytes.ensures) (rw c.deref.ensures.value at c.take_word.ensures)
