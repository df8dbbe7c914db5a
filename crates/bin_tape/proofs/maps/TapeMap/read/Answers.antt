use Rattle.std.proofs.Common.{subst, sym, ◌∙◌, arith}
use Rattle.bin_tape.specs.Map.{IsTable, IsMapOf}
use Rattle.bin_tape.proofs.MapLemmas.{hold_none, whole_written}
use Rattle.bin_tape.proofs.maps.TapeMap.read.Goals as goal

pub read_words-requires-clause-none : goal.read_words-requires-clause-none
read_words-requires-clause-none c = rw (c.deref_mut.ensures.value, c.in_ok-words.ensures.words) (hold_none 32768 (omega arith))

pub invariant_of-result : goal.invariant_of-result
invariant_of-result c =
    subst IsTable
    (sym (whole_written c.in_ok-words.words.len c.read_words.new.words c.in_ok-words.words.items (c.read_words.auto.words ∙ c.deref_mut.ensures.len)))
    (c.read_words.auto.words ∙ c.deref_mut.ensures.len ∙ c.in_ok-words.ensures.len)

pub returns : goal.returns
returns c =
    subst (λ words. IsMapOf c.args.frames.now words)
    (sym (whole_written c.in_ok-words.words.len c.read_words.new.words c.in_ok-words.words.items (c.read_words.auto.words ∙ c.deref_mut.ensures.len)))
    c.in_ok-read_words.ensures
