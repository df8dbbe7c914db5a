use Rattle.std.proofs.Common.{List, Ok, String, inr, map, subst}
use Rattle.std.specs.Global.{Global}
use Rattle.byte_reader.specs.Readings.{reading}
use Rattle.program.specs.GivenWords.{RunsGiven}
use Rattle.program.proofs.running.run_program.Goals as goal

pub returns-in-Ok-words_of : goal.returns-in-Ok-words_of
returns-in-Ok-words_of g c =
    let runs = subst (λ (words : List (String Global)). RunsGiven (map (λ word. word.bytes.items) words) (reading g.I.ByteReader.remaining g.I.ByteReader.has_failed c.args.input.now c.run_given.new.input)
    (g.H.Host.history c.words_of.new.host) (g.H.Host.history c.run_given.result.0) c.run_given.result.1) c.deref.ensures.value c.run_given.ensures in
    inr (Ok c.in-Ok-words_of.words, g.H.Host.history c.words_of.new.host, c.in-Ok-words_of.ensures, runs)
