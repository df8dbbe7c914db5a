use Rattle.std.proofs.Common.{◌≡◌, ◌↔◌, ℕ, true, Option, None, Some, ap, refl, subst, sym, ◌∙◌}
use Rattle.bin_tape.specs.Items.{tape_map}
use Rattle.flow8.specs.Flow.{IsFlow, Reaches, word_in}
use Rattle.tape_source.specs.Sources.{IsFirstWithout}
use Rattle.tape_source.specs.Looks.{AreNotes, with_notes}
use Rattle.tape_source.specs.Steps.{HoldsMap, look_with}
use Rattle.tape_source.specs.Saying.{SameLook}
use Rattle.tape_source.specs.Tags.{is_flagged}
use Rattle.tape_source.proofs.TagLemmas.{tag_naming}
use Rattle.tape_source.proofs.FlowLemmas.{map_is}
use Rattle.tape_source.proofs.NoteLemmas.{same_notes}
use Rattle.tape_source.proofs.sources.source_from.Goals as goal

pub returns-clause-source : goal.returns-clause-source
returns-clause-source c =
    let held = c.in_ok-words.ensures.words in
    let prefix = held.is_tape.is_prefix.3 in
    let words = c.in_ok-words.words.items in
    let code = c.in_ok-code.code.items in
    let notes = c.in_ok-notes.notes in
    let look = with_notes (tape_map held.items) (is_flagged code) in
    let same = map_is words held.items (sym c.in_ok-words.words.ok.0 ∙ c.in_ok-words.ensures.size) prefix held.cells in
    let map = tape_map held.items in
    let told =
    same_notes notes words code map (c.in_ok-notes.ensures.words ∙ c.deref-3.ensures.value) (c.in_ok-notes.ensures.code ∙ c.deref-4.ensures.value)
    (λ cell. ap (λ (m : ℕ → Option ℕ). m cell) same) in
    let graphic : AreNotes look =
    record {
      above = λ cell small. c.notes_are_graphic.ensures.above map (is_flagged code) cell;
      remark = λ cell small. c.notes_are_graphic.ensures.remark map (is_flagged code) cell;
    } in
    let both =
    c.in_ok-text.ensures.source look held.items prefix (subst (HoldsMap held.items) (sym c.deref-5.ensures.value) held.cells)
    (subst (λ l. SameLook (look_with None (Some notes) (is_flagged l)) look) (sym c.deref-6.ensures.value) told) graphic tag_naming in
    let flow = subst (λ l. IsFlow l c.args.starts.now code) c.deref-2.ensures.value c.in_ok-code.ensures in
    record {
      look = look;
      told = refl;
      source = record { items = held.items; is_tape = held.is_tape; notes = graphic; naming = tag_naming; lines = both.0; says = both.1 };
      reached = subst (λ m. (cell : ℕ) → (is_flagged code cell ≡ true) ↔ Reaches m c.args.starts.now cell) same flow.cells;
    }

pub returns-in-Some-clause-fault : goal.returns-in-Some-clause-fault
returns-in-Some-clause-fault c =
    let held = c.in_ok-words.ensures.words in
    let words = c.in_ok-words.words.items in
    let same =
    ap word_in c.deref.ensures.value
    ∙ map_is words held.items (sym c.in_ok-words.words.ok.0 ∙ c.in_ok-words.ensures.size) held.is_tape.is_prefix.3 held.cells in
    record {
      items = held.items;
      is_tape = held.is_tape;
      first = subst (λ m. IsFirstWithout m c.args.starts.now c.in-Some.start) same c.in-Some.ensures;
    }
