use Rattle.bin_tape.proofs.MapLemmas.{word_taken, end_taken}
use Rattle.bin_tape.proofs.maps.take_frame.Goals as goal

pub returns-in-Word : goal.returns-in-Word
returns-in-Word c = λ whole later r.
    word_taken whole later c.args.frame c.args.reader.now c.push.new.self c.args.words.now c.in-Word.cell c.in-Word.word c.index.result c.in_ok-tape.tape
    c.in-Word.is c.requires c.index.ensures.value c.index.ensures.range c.in_ok-tape.ensures.read r

pub returns-in-End : goal.returns-in-End
returns-in-End c = λ whole later r.
    end_taken whole later c.args.frame c.args.reader.now c.args.words.now c.in_ok-tape.tape c.in-End.is c.in_ok-tape.ensures.answer r
