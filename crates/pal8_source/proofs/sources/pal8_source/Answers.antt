use Rattle.std.proofs.Common.{◌&&◌, ◌||◌, ℕ, Bool, Option, None, is_some, List, Vec, Global, option_map, slice_index_or, ap, subst, sym, ◌∙◌}
use Rattle.std.proofs.lemmas.Result.{err_from_is_err_and}
use Rattle.flow8.specs.Flow.{word_in}
use Rattle.source_notes.specs.Notes.{is_flagged}
use Rattle.tape_source.specs.Sources.{AllGiven, IsFirstWithout, words_of_tape}
use Rattle.tape_source.specs.Steps.{name_by}
use Rattle.pal8_source.specs.Sources.{AreInstructions, GivesNames, IsShown}
use Rattle.pal8_source.proofs.FaultLemmas.{unnamed}
use Rattle.pal8_source.proofs.MapLemmas.{map_is, no_word}
use Rattle.pal8_source.proofs.sources.pal8_source.Goals as goal

pub returns-in-Some-clause-fault : goal.returns-in-Some-clause-fault
returns-in-Some-clause-fault c =
    let held = c.in_ok-words.ensures.words in
    let map =
    map_is c.in_ok-words.words.items held.items (sym c.in_ok-words.words.ok.0 ∙ c.in_ok-words.ensures.size) held.is_tape.is_prefix.3 held.cells in
    record {
      items = held.items;
      is_tape = held.is_tape;
      first = subst (λ m. IsFirstWithout m c.args.starts.now c.in-Some.start) (ap word_in c.deref.ensures.value ∙ map) c.in-Some.ensures;
    }

pub returns-in_err-table-clause-fault : goal.returns-in_err-table-clause-fault
returns-in_err-table-clause-fault c =
    let held = c.in_ok-words.ensures.words in
    let map =
    map_is c.in_ok-words.words.items held.items (sym c.in_ok-words.words.ok.0 ∙ c.in_ok-words.ensures.size) held.is_tape.is_prefix.3 held.cells in
    let given = subst (λ m. AllGiven m c.args.starts.now) (ap word_in c.deref.ensures.value ∙ map) c.in_default.ensures in
    let p = err_from_is_err_and c.from_residual-in_err-table.result c.from_residual-in_err-table.ensures.1 in
    rw (p.1, p.2)
    (unnamed (word_in c.deref-2.result.now) held.items c.args.frames.now c.args.starts.now
    (option_map {T = Vec ℕ Global} {U = List ℕ} (λ names. names.items) c.args.names.now) c.in_err-table.field-0.0 held.is_tape
    (ap word_in c.deref-2.ensures.value ∙ map) given
    c.in_err-table.ensures.fault)

pub returns-in-Some-first_reserved-clause-fault : goal.returns-in-Some-first_reserved-clause-fault
returns-in-Some-first_reserved-clause-fault c =
    let held = c.in_ok-words.ensures.words in
    let map =
    map_is c.in_ok-words.words.items held.items (sym c.in_ok-words.words.ok.0 ∙ c.in_ok-words.ensures.size) held.is_tape.is_prefix.3 held.cells in
    let names = option_map {T = Vec ℕ Global} {U = List ℕ} (λ names. names.items) c.args.names.now in
    record {
      items = held.items;
      is_tape = held.is_tape;
      given = subst (λ m. AllGiven m c.args.starts.now) (ap word_in c.deref.ensures.value ∙ map) c.in_default.ensures;
      table = c.in_ok-table.table;
      named = subst (λ m. GivesNames m names c.in_ok-table.table) (ap word_in c.deref-2.ensures.value ∙ map) c.in_ok-table.ensures.names;
      reserved = c.in-Some-first_reserved.ensures.0;
      lowest = c.in-Some-first_reserved.ensures.1;
    }

pub returns-in_default-first_word-clause-fault : goal.returns-in_default-first_word-clause-fault
returns-in_default-first_word-clause-fault c =
    let held = c.in_ok-words.ensures.words in
    let map =
    map_is c.in_ok-words.words.items held.items (sym c.in_ok-words.words.ok.0 ∙ c.in_ok-words.ensures.size) held.is_tape.is_prefix.3 held.cells in
    let names = option_map {T = Vec ℕ Global} {U = List ℕ} (λ names. names.items) c.args.names.now in
    record {
      items = held.items;
      is_tape = held.is_tape;
      none =
          no_word c.deref-3.result.now held.items held.is_tape.is_prefix.3
          (λ cell small. ap (λ (l : List (Option ℕ)). slice_index_or l cell None) c.deref-3.ensures.value ∙ held.cells cell small)
          c.in_default-first_word.ensures;
      given = subst (λ m. AllGiven m c.args.starts.now) (ap word_in c.deref.ensures.value ∙ map) c.in_default.ensures;
      table = c.in_ok-table.table;
      named = subst (λ m. GivesNames m names c.in_ok-table.table) (ap word_in c.deref-2.ensures.value ∙ map) c.in_ok-table.ensures.names;
    }

pub returns-clause-source : goal.returns-clause-source
returns-clause-source c =
    let held = c.in_ok-words.ensures.words in
    let map =
    map_is c.in_ok-words.words.items held.items (sym c.in_ok-words.words.ok.0 ∙ c.in_ok-words.ensures.size) held.is_tape.is_prefix.3 held.cells in
    let names = option_map {T = Vec ℕ Global} {U = List ℕ} (λ names. names.items) c.args.names.now in
    let starts = c.args.starts.now in
    let table = c.in_ok-table.table in
    let words = c.deref-5.result.now in
    let code = c.deref-6.result.now in
    let from = c.in_ok-text.ensures in
    let first = c.in-Some-first_word._first in
    record {
      items = held.items;
      is_tape = held.is_tape;
      given = subst (λ m. AllGiven m starts) (ap word_in c.deref.ensures.value ∙ map) c.in_default.ensures;
      table = table;
      named = subst (λ m. GivesNames m names table) (ap word_in c.deref-2.ensures.value ∙ map) c.in_ok-table.ensures.names;
      own = c.in_default-first_reserved.ensures;
      cell = first;
      has_word = ap (λ (m : ℕ → Option ℕ). is_some (m first)) (sym (ap word_in c.deref-3.ensures.value ∙ map)) ∙ c.in-Some-first_word.ensures.0;
      program = record { words = words; code = code; exempt = from.exempt };
      is_program = record {
        words_are = λ cell small. ap (λ (m : ℕ → Option ℕ). m cell) (ap word_in c.deref-5.ensures.value ∙ map);
        instructions =
            subst (λ m. AreInstructions m starts (is_flagged code)) (ap word_in c.deref-4.ensures.value ∙ map)
            (subst (λ (l : List Bool). AreInstructions (word_in c.deref-4.result.now) starts (is_flagged l)) (sym c.deref-6.ensures.value) c.in_ok-code.ensures.code);
        exempt = λ cell small. from.kept cell small ∙ ap (λ (b : Bool). is_some (name_by table cell) || (b && is_flagged code cell)) c.has_some.ensures;
      };
      sheet = from.sheet;
      shown =
          subst (λ (b : Bool). IsShown (record { words = words; code = code; exempt = from.exempt }) table b (words_of_tape held.items) from.sheet) c.has_some.ensures
          (from.shown held.items held.is_tape.is_prefix.3
          (λ cell small. ap (λ (l : List (Option ℕ)). slice_index_or l cell None) c.deref-5.ensures.value ∙ held.cells cell small));
      text_is = from.text_is;
    }
