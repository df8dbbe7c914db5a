use Rattle.pal8_grammar.specs.SourceNames.{own_value}
use Rattle.pal8_values.specs.Words.{word_value}
use Rattle.pal8_asm.proofs.words.word_at.Goals as goal

pub returns-in-Err : goal.returns-in-Err
returns-in-Err c = λ asks punched holds.
    c.fault_at.ensures (word_value (own_value c.args.names.now.table) c.args.stand.spot c.args.steps.now asks punched) (c.in-Err.ensures asks punched holds)
