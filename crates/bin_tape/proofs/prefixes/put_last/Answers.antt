use Rattle.std.proofs.Common.{Option, subst}
use Rattle.bin_tape.specs.declared.prefixes.LastWord.{LastWord}
use Rattle.bin_tape.specs.Prefix.{IsLast}
use Rattle.bin_tape.proofs.MapLemmas.{hold_last, hold_no_last}
use Rattle.bin_tape.proofs.prefixes.put_last.Goals as goal

pub returns-in-Some : goal.returns-in-Some
returns-in-Some c = λ items newest held.
    hold_last _ items c.in-Some.last c.index.result c.requires c.index.ensures.value c.index.ensures.range
    (subst (λ (last : Option LastWord). IsLast last items) c.in-Some.is newest)
    held

pub returns-in_default : goal.returns-in_default
returns-in_default c = λ items newest held.
    hold_no_last _ items (subst (λ (last : Option LastWord). IsLast last items) c.in_default.is newest) held
