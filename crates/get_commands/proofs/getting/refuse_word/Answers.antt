use Rattle.std.proofs.Common.{subst, sym}
use Rattle.get_commands.specs.GettingMany.{RefusesWord}
use Rattle.get_commands.proofs.WordLemmas.{word-at}
use Rattle.get_commands.proofs.getting.refuse_word.Goals as goal

pub returns-in-Some : goal.returns-in-Some
returns-in-Some g c =
    subst (λ o. RefusesWord o c.args.why (g.H.Host.history c.args.host.now) c.refuse.result (g.H.Host.history c.refuse.new.host))
    (sym (word-at c.args.words.now c.args.place c.in-Some.word.now c.in-Some.ensures.lookup.3.0 c.in-Some.ensures.lookup.1))
    (rw c.as_str.ensures.value at c.refuse.ensures)
