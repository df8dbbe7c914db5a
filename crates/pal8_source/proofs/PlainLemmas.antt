-- A plain source comes back.
use Rattle.std.proofs.Common.{◌≡◌, ℕ, ◌+◌, ◌/◌, ◌%◌, ◌<◌, true, false, zero, suc, is_some, Option, None, Some, Ok, length, List, [], ◌∷◌, ◌++◌, refl, ap, sym, subst, ◌∙◌, arith}
use Rattle.std.proofs.lemmas.List.{append-nil}
use Rattle.word12.specs.declared.sizes.TheConstants.{CORE, FIELD}
use Rattle.pal_lex.specs.Text.{limit, text_of}
use Rattle.pal8_lex.specs.Text.{line_after, live}
use Rattle.pal8_asm.specs.Sources.{Entry, remainder_of_text}
use Rattle.pal8_asm.specs.Assembled.{has_words, result_if_any_word, result_of_source, result_of_text, result_with_words}
use Rattle.pal8_asm.specs.Tapes.{late_values, without_clash}
use Rattle.pal8_asm.specs.declared.faults.Place.{Place}
use Rattle.pal8_source.specs.Plain.{lines_below, lines_if, lines_of_word, plain_source}
use Rattle.pal8_source.specs.Checked.{ComesBack, as_profile}
use Rattle.pal8_source.proofs.PassLemmas.{left_at}
use Rattle.pal8_source.proofs.BlockLemmas.{Leaves, lines_leave, text_append}
use Rattle.pal8_source.proofs.EntryLemmas.{AreWords, entries_make, made_of, no_pool, one_more}
use Rattle.pal8_source.proofs.CellLemmas.{has_some, in_range, means, pair_if, pairs_below}

-- lines leave the words of the cells below a number
record LeavesBelow (words : ℕ → Option ℕ) (cell : ℕ) : Type 0 where
  location : ℕ
  field : ℕ
  entries : List Entry
  leaves : Leaves (text_of (lines_below words cell)) location field entries
  are : AreWords entries (pairs_below words cell)

at_first : (words : ℕ → Option ℕ) → LeavesBelow words 0
unfolding lines_below pairs_below
at_first words = record {
  location = 0o200;
  field = 0;
  entries = [];
  leaves = record { source = []; reaches = record { pieces_are = refl; statements_are = refl }; left = refl };
  are = tt;
}

further : (words : ℕ → Option ℕ) (cell : ℕ) → cell < CORE → (o : Option ℕ) → words cell ≡ o → ((w : ℕ) → o ≡ Some w → w < 4096) → LeavesBelow words cell
    → LeavesBelow words (suc cell)
unfolding lines_below pairs_below
further words cell in_core None is small it = record {
  location = it.location;
  field = it.field;
  entries = it.entries;
  leaves = subst (λ l. Leaves (text_of l) it.location it.field it.entries) (sym (append-nil (lines_below words cell)) ∙ ap (λ o. lines_below words cell ++ lines_if cell o) (sym is)) it.leaves;
  are = subst (AreWords it.entries) (sym (append-nil (pairs_below words cell)) ∙ ap (λ o. pairs_below words cell ++ pair_if cell o) (sym is)) it.are;
}
further words cell in_core (Some word) is small it =
    let next = lines_leave (text_of (lines_below words cell)) it.location it.field it.entries cell word in_core (small word refl) it.leaves in
    record {
      location = cell % FIELD + 1;
      field = cell / FIELD;
      entries = it.entries ++ next.entry ∷ [];
      leaves = subst (λ t. Leaves t (cell % FIELD + 1) (cell / FIELD) (it.entries ++ next.entry ∷ [])) (sym (text_append (lines_below words cell) (lines_of_word cell word) []) ∙ ap (λ o. text_of (lines_below words cell ++ lines_if cell o)) (sym is)) next.leaves;
      are = subst (AreWords (it.entries ++ next.entry ∷ [])) (ap (λ o. pairs_below words cell ++ pair_if cell o) (sym is)) (one_more it.entries (pairs_below words cell) next.entry (cell, word) it.are next.is_word);
    }

all_leave : (words : ℕ → Option ℕ) (n : ℕ) → ((cell word : ℕ) → cell < n → words cell ≡ Some word → word < 4096) → ((cell : ℕ) → cell < n → cell < CORE) → LeavesBelow words n
all_leave words zero small low = at_first words
all_leave words (suc n) small low =
    further words n (low n (omega arith)) (words n) refl (λ word is. small n word (omega arith) is)
    (all_leave words n (λ cell word below is. small cell word (omega (arith, below)) is) (λ cell below. low cell (omega (arith, below))))

-- the end of a text
record EndsText (text : List ℕ) (location field : ℕ) (entries : List Entry) : Type 0 where
  place : Place
  left : remainder_of_text as_profile (0o12 ∷ 0o15 ∷ 0o44 ∷ text) ≡ Ok record { standing = (left_at location field entries).standing; entries = entries; brackets = []; end = Some place }

ends_text : (text : List ℕ) (location field : ℕ) (entries : List Entry) → Leaves text location field entries → EndsText text location field entries
ends_text text location field entries it = record {
  place = record { line = line_after (live text); start = limit (length text) };
  left = rw (it.reaches.pieces_are, it.reaches.statements_are, it.left) refl;
}

module _ (words : ℕ → Option ℕ) (small : (cell word : ℕ) → cell < CORE → words cell ≡ Some word → word < 4096) where
  abbrev pairs : List (ℕ × ℕ)
  pairs = pairs_below words CORE

  result_is : has_words pairs ≡ true → result_of_text as_profile (text_of (plain_source words)) ≡ Ok (made_of pairs)
  result_is has =
      let it = all_leave words CORE small (λ cell low. low) in
      let e = ends_text (text_of (lines_below words CORE)) it.location it.field it.entries it.leaves in
      ap (result_of_text as_profile) (text_append (lines_below words CORE) (0o44 ∷ 0o15 ∷ 0o12 ∷ []) [])
      ∙ ap result_of_source e.left
      ∙ ap (λ r. result_if_any_word e.place (without_clash r)) (entries_make (λ n. None) (late_values (λ n. None) (λ n. false) it.entries (λ n. None)) it.entries pairs [] it.are)
      ∙ ap (result_with_words e.place (made_of pairs)) has

  pub plain_comes_back : (cell : ℕ) → cell < CORE → is_some (words cell) ≡ true → ComesBack words (plain_source words)
  plain_comes_back cell low some = record {
    pairs = pairs;
    are = record { made = made_of pairs; is_whole = result_is (has_some words CORE cell low some); pool = []; are = sym (append-nil pairs); is_pool = no_pool };
    are_pairs = in_range words small CORE (λ c low. low);
    cells = λ c below. means words CORE c below;
  }
