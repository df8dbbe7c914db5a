use Rattle.std.proofs.Common.{None, Some, [], ap, subst, sym, ◌∙◌}
use Rattle.std.proofs.lemmas.Result.{err_from_is_err_and}
use Rattle.bin_tape.specs.Items.{tape_map}
use Rattle.flow8.specs.Flow.{word_in}
use Rattle.source_names.specs.Names.{AreNames}
use Rattle.source_notes.specs.Notes.{is_flagged}
use Rattle.tape_source.specs.Looks.{names_in, plain, with_names}
use Rattle.tape_source.specs.Steps.{HoldsMap, look_with}
use Rattle.tape_source.specs.Saying.{SameLook}
use Rattle.tape_source.proofs.FaultLemmas.{no_source, refused, unread}
use Rattle.tape_source.proofs.FlowLemmas.{map_is}
use Rattle.tape_source.proofs.NoteLemmas.{named_notes, plain_notes, same_named, same_plain}
use Rattle.tape_source.proofs.TagLemmas.{given_naming}
use Rattle.tape_source.proofs.sources.named_source_of.Goals as goal

pub returns-in_err-words-clause-fault : goal.returns-in_err-words-clause-fault
returns-in_err-words-clause-fault c =
    let p = err_from_is_err_and c.from_residual.result c.from_residual.ensures.1 in
    rw (p.1, p.2) (unread c.args.frames.now [] c.args.names.now c.in_err-words.field-0.0 c.in_err-words.ensures.fault)

pub returns-in_err-table-clause-fault : goal.returns-in_err-table-clause-fault
returns-in_err-table-clause-fault c =
    let held = c.in_ok-words.ensures.words in
    let same =
    ap word_in c.deref.ensures.value
    ∙ map_is c.in_ok-words.words.items held.items (sym c.in_ok-words.words.ok.0 ∙ c.in_ok-words.ensures.size) held.is_tape.is_prefix.3 held.cells in
    let p = err_from_is_err_and c.from_residual-in_err-table.result c.from_residual-in_err-table.ensures.1 in
    rw (p.1, p.2)
    (refused c.deref.result.now held.items c.args.frames.now [] c.args.names.now c.in_err-table.field-0.0 held.is_tape same (λ cell among. absurd among)
    c.in_err-table.ensures.fault)

pub returns-in_err-text-clause-fault : goal.returns-in_err-text-clause-fault
returns-in_err-text-clause-fault c =
    let held = c.in_ok-words.ensures.words in
    let same =
    ap word_in c.deref.ensures.value
    ∙ map_is c.in_ok-words.words.items held.items (sym c.in_ok-words.words.ok.0 ∙ c.in_ok-words.ensures.size) held.is_tape.is_prefix.3 held.cells in
    let named = subst (λ m. AreNames m c.args.names.now c.in_ok-table.table) same c.in_ok-table.ensures.names in
    let p = err_from_is_err_and c.from_residual-in_err-text.result c.from_residual-in_err-text.ensures.1 in
    rw (p.1, p.2)
    (no_source c.deref-2.result.now held.items c.args.frames.now [] c.args.names.now c.in_ok-table.table c.in_err-text.field-0.0 held.is_tape held.is_tape.is_prefix.3
    (subst (HoldsMap held.items) (sym c.deref-2.ensures.value) held.cells) (λ cell among. absurd among) named c.in_err-text.ensures.fault)

pub returns-clause-source : goal.returns-clause-source
returns-clause-source c =
    let held = c.in_ok-words.ensures.words in
    let map = tape_map held.items in
    let table = c.in_ok-table.table in
    let same =
    ap word_in c.deref.ensures.value
    ∙ map_is c.in_ok-words.words.items held.items (sym c.in_ok-words.words.ok.0 ∙ c.in_ok-words.ensures.size) held.is_tape.is_prefix.3 held.cells in
    let named = subst (λ m. AreNames m c.args.names.now table) same c.in_ok-table.ensures.names in
    let own = c.names_of_a_text_are_names_of_their_own.ensures map c.args.names.now table named in
    let naming = given_naming (names_in table) own in
    let notes = named_notes table plain plain_notes in
    let told =
    same_named table None (is_flagged c.in_ok-code.code.items) plain (same_plain c.in_ok-code.code.items c.in_ok-code.ensures.code) in
    let look = subst (λ code. SameLook (look_with (Some table) None (is_flagged code)) (with_names table plain)) (sym c.deref-3.ensures.value) told in
    let words = subst (HoldsMap held.items) (sym c.deref-2.ensures.value) held.cells in
    let both = c.in_ok-text.ensures.source (with_names table plain) held.items held.is_tape.is_prefix.3 words look notes naming in
    record {
      table = table;
      source = record { items = held.items; is_tape = held.is_tape; notes = notes; naming = naming; lines = both.0; says = both.1 };
      named = named;
    }
