use Rattle.std.proofs.Common.{map, arith}
use Rattle.pal8_tape.specs.Further.{ended_texts}
use Rattle.pal8_tape.specs.Joins.{bytes_in}
use Rattle.pal8_tape.proofs.TextLemmas.{all_ended, ended_more}
use Rattle.pal8_tape.proofs.texts.ended_texts.Goals as goal

pub loop-rest-preserved : goal.loop-rest-preserved
loop-rest-preserved c =
    ended_more c.loop-rest.rest.now _ c.is_empty.result (map (λ text. text.items) c.loop-rest.texts.items) (map (λ text. text.items) c.put_text.new.texts.items)
    (ended_texts (bytes_in c.args.sources.now)) c.in_ok-text.text.items c.in-len1-up.len_at_least c.is_empty.ensures c.in_ok-text.ensures c.in_ok-put_text.ensures
    c.loop-rest.invariant

pub returns : goal.returns
returns c =
    all_ended c.loop-rest.rest.now (map (λ text. text.items) c.loop-rest.texts.items) (ended_texts (bytes_in c.args.sources.now)) (omega (arith, c.in_default.len_below))
    c.loop-rest.invariant
