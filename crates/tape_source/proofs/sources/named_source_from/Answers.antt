use Rattle.std.proofs.Common.{◌≡◌, ◌↔◌, ℕ, true, Option, Some, ap, refl, subst, sym, ◌∙◌}
use Rattle.std.proofs.lemmas.Result.{err_from_is_err_and}
use Rattle.bin_tape.specs.Items.{tape_map}
use Rattle.flow8.specs.Flow.{IsFlow, Reaches, word_in}
use Rattle.source_names.specs.Names.{AreNames}
use Rattle.source_notes.specs.Notes.{is_flagged}
use Rattle.tape_source.specs.Looks.{AreNotes, names_in, with_notes, with_names}
use Rattle.tape_source.specs.Sources.{AllGiven, IsFirstWithout}
use Rattle.tape_source.specs.Steps.{HoldsMap, look_with}
use Rattle.tape_source.specs.Saying.{SameLook}
use Rattle.tape_source.proofs.FaultLemmas.{no_source, refused, unread}
use Rattle.tape_source.proofs.FlowLemmas.{map_is}
use Rattle.tape_source.proofs.NoteLemmas.{named_notes, same_named, same_notes}
use Rattle.tape_source.proofs.TagLemmas.{given_naming}
use Rattle.tape_source.proofs.sources.named_source_from.Goals as goal

pub returns-in_err-map-clause-fault : goal.returns-in_err-map-clause-fault
returns-in_err-map-clause-fault c =
    let p = err_from_is_err_and c.from_residual.result c.from_residual.ensures.1 in
    rw (p.1, p.2) (unread c.args.frames.now c.args.starts.now c.args.names.now c.in_err-map.field-0.0 c.in_err-map.ensures.fault)

pub returns-in-Some-clause-fault : goal.returns-in-Some-clause-fault
returns-in-Some-clause-fault c =
    let held = c.in_ok-map.ensures.words in
    let same =
    ap word_in c.deref.ensures.value
    ∙ map_is c.in_ok-map.map.items held.items (sym c.in_ok-map.map.ok.0 ∙ c.in_ok-map.ensures.size) held.is_tape.is_prefix.3 held.cells in
    record {
      items = held.items;
      is_tape = held.is_tape;
      first = subst (λ m. IsFirstWithout m c.args.starts.now c.in-Some.start) same c.in-Some.ensures;
    }

pub returns-in_err-table-clause-fault : goal.returns-in_err-table-clause-fault
returns-in_err-table-clause-fault c =
    let held = c.in_ok-map.ensures.words in
    let map =
    map_is c.in_ok-map.map.items held.items (sym c.in_ok-map.map.ok.0 ∙ c.in_ok-map.ensures.size) held.is_tape.is_prefix.3 held.cells in
    let given = subst (λ m. AllGiven m c.args.starts.now) (ap word_in c.deref.ensures.value ∙ map) c.in_default.ensures in
    let p = err_from_is_err_and c.from_residual-in_err-table.result c.from_residual-in_err-table.ensures.1 in
    rw (p.1, p.2)
    (refused c.deref-2.result.now held.items c.args.frames.now c.args.starts.now c.args.names.now c.in_err-table.field-0.0 held.is_tape
    (ap word_in c.deref-2.ensures.value ∙ map) given
    c.in_err-table.ensures.fault)

pub returns-in_err-text-clause-fault : goal.returns-in_err-text-clause-fault
returns-in_err-text-clause-fault c =
    let held = c.in_ok-map.ensures.words in
    let map =
    map_is c.in_ok-map.map.items held.items (sym c.in_ok-map.map.ok.0 ∙ c.in_ok-map.ensures.size) held.is_tape.is_prefix.3 held.cells in
    let given = subst (λ m. AllGiven m c.args.starts.now) (ap word_in c.deref.ensures.value ∙ map) c.in_default.ensures in
    let named = subst (λ m. AreNames m c.args.names.now c.in_ok-table.table) (ap word_in c.deref-2.ensures.value ∙ map) c.in_ok-table.ensures.names in
    let p = err_from_is_err_and c.from_residual-in_err-text.result c.from_residual-in_err-text.ensures.1 in
    rw (p.1, p.2)
    (no_source c.deref-6.result.now held.items c.args.frames.now c.args.starts.now c.args.names.now c.in_ok-table.table c.in_err-text.field-0.0 held.is_tape
    held.is_tape.is_prefix.3
    (subst (HoldsMap held.items) (sym c.deref-6.ensures.value) held.cells) given named c.in_err-text.ensures.fault)

pub returns-clause-source : goal.returns-clause-source
returns-clause-source c =
    let held = c.in_ok-map.ensures.words in
    let words = c.in_ok-map.map.items in
    let code = c.in_ok-code.code.items in
    let map = tape_map held.items in
    let table = c.in_ok-table.table in
    let same = map_is words held.items (sym c.in_ok-map.map.ok.0 ∙ c.in_ok-map.ensures.size) held.is_tape.is_prefix.3 held.cells in
    let named = subst (λ m. AreNames m c.args.names.now table) (ap word_in c.deref-2.ensures.value ∙ same) c.in_ok-table.ensures.names in
    let own = c.names_of_a_text_are_names_of_their_own.ensures map c.args.names.now table named in
    let naming = given_naming (names_in table) own in
    let look = with_notes map (is_flagged code) in
    let graphic : AreNotes look =
    record {
      above = λ cell small. c.notes_are_graphic.ensures.above map (is_flagged code) cell;
      remark = λ cell small. c.notes_are_graphic.ensures.remark map (is_flagged code) cell;
    } in
    let notes = named_notes table look graphic in
    let told =
    same_named table (Some c.in_ok-notes.notes) (is_flagged code) look
    (same_notes c.in_ok-notes.notes words code map (c.in_ok-notes.ensures.words ∙ c.deref-4.ensures.value) (c.in_ok-notes.ensures.code ∙ c.deref-5.ensures.value)
    (λ cell. ap (λ (m : ℕ → Option ℕ). m cell) same)) in
    let both =
    c.in_ok-text.ensures.source (with_names table look) held.items held.is_tape.is_prefix.3 (subst (HoldsMap held.items) (sym c.deref-6.ensures.value) held.cells)
    (subst (λ l. SameLook (look_with (Some table) (Some c.in_ok-notes.notes) (is_flagged l)) (with_names table look)) (sym c.deref-7.ensures.value) told) notes naming in
    let flow = subst (λ l. IsFlow l c.args.starts.now code) c.deref-3.ensures.value c.in_ok-code.ensures in
    record {
      table = table;
      look = look;
      source = record { items = held.items; is_tape = held.is_tape; notes = notes; naming = naming; lines = both.0; says = both.1 };
      named = named;
      told = refl;
      reached = subst (λ m. (cell : ℕ) → (is_flagged code cell ≡ true) ↔ Reaches m c.args.starts.now cell) same flow.cells;
    }
