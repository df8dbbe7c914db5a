use Rattle.std.proofs.Common.{None, subst, sym}
use Rattle.source_notes.specs.Notes.{is_flagged}
use Rattle.tape_source.specs.Looks.{plain}
use Rattle.tape_source.specs.Steps.{HoldsMap, look_with}
use Rattle.tape_source.specs.Saying.{SameLook}
use Rattle.tape_source.proofs.NoteLemmas.{plain_notes, same_plain}
use Rattle.tape_source.proofs.TagLemmas.{tag_naming}
use Rattle.tape_source.proofs.sources.source_of.Goals as goal

pub returns-clause-source : goal.returns-clause-source
returns-clause-source c =
    let held = c.in_ok-words.ensures.words in
    let words = subst (HoldsMap held.items) (sym c.deref.ensures.value) held.cells in
    let told = same_plain c.in_ok-code.code.items c.in_ok-code.ensures.code in
    let same = subst (λ code. SameLook (look_with None None (is_flagged code)) plain) (sym c.deref-2.ensures.value) told in
    let both = c.in_ok-text.ensures.source plain held.items held.is_tape.is_prefix.3 words same plain_notes tag_naming in
    record { items = held.items; is_tape = held.is_tape; notes = plain_notes; naming = tag_naming; lines = both.0; says = both.1 }
