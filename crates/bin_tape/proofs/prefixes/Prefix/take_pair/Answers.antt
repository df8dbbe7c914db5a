use Rattle.bin_tape.proofs.MapLemmas.{word_more, origin_more}
use Rattle.std.proofs.Common.{arith}
use Rattle.bin_tape.proofs.prefixes.Prefix.take_pair.Goals as goal

pub returns-then-first-lt64 : goal.returns-then-first-lt64
returns-then-first-lt64 c = λ whole later r.
    word_more whole later c.args.first c.args.second _ _ _ _ c.if-first-lt64.true (omega arith) c.with_word.ensures c.put_last.ensures r

pub returns-then-first-lt128 : goal.returns-then-first-lt128
returns-then-first-lt128 c = λ whole later r.
    origin_more whole later c.args.first c.args.second _ _ _ _ (omega arith) (omega arith) (omega arith) c.with_origin.ensures r
