-- Why the laws hold.
use Rattle.std.proofs.Common.{◌≡◌, ℕ, ◌+◌, ◌-◌, ◌<◌, nat_eq, arith, Bool, true, false, inl, inr, Option, Some, None, Result, Ok, Err, length, if◌then◌else◌, is_some, List, [], ◌∷◌, ◌++◌, refl, ap, subst, ◌∙◌}
use Rattle.std.proofs.lemmas.List.{append-nil}
use Rattle.std.proofs.lemmas.Bool.Decides.{nat_tests}
use Rattle.pal_sym.specs.Values.{if_none}
use Rattle.pal8_pools.specs.Asks.{Ask, cell_in}
use Rattle.pal8_pools.specs.Cells.{ArePairs, IsIn, IsPair, RiseFrom}
use Rattle.pal8_pools.specs.Clashes.{lowest_clash}
use Rattle.pal8_pools.specs.ClashLaws.{NoClashIsApart}
use Rattle.pal8_values.specs.Sums.{Meanings}
use Rattle.pal8_values.specs.Words.{AskResult, word_value}
use Rattle.pal8_lex.specs.declared.tokens.Token.{Token}
use Rattle.pal8_grammar.specs.Bodies.{Phrase}
use Rattle.pal8_grammar.specs.declared.bodies.Body.TheVariants as body
use Rattle.pal8_grammar.specs.declared.faults.GrammarFault.{GrammarFault}
use Rattle.pal8_grammar.specs.declared.steps.Step.{Step}
use Rattle.pal8_places.specs.Places.{Standing, spot_at, truth_of, with_body_if, with_statement, with_tags}
use Rattle.pal8_asm.specs.Sources.{Entry, Remainder, PassResult, Statement, brackets_with, remainder_of_text, number, pass_over, place_of, phrase_of, with_brackets, open_value, with_entries as with_entries_of, with_late_entry, with_next, with_values, with_phrase, with_said, with_selected, with_skipped, words_in}
use Rattle.pal8_places.specs.Brackets.{is_selected}
use Rattle.pal8_asm.specs.Tapes.{TapeWords, late_after, late_fault, late_value, late_values, unless_fault, without_clash, unless_clash, words_of_entries, spot_of, with_entries, with_entry, with_entry_by, with_made, with_word_entry}
use Rattle.pal8_asm.specs.declared.entries.Late.{Late}
use Rattle.pal8_asm.specs.Assembled.{dollar_in, has_words, result_if_any_word, result_with_words, result_of_source}
use Rattle.pal8_asm.specs.Laws.{Apart, NoPoolNoChange, PlacesStay, ValueIsFound, meaning, passed_zero, read_zero, without_words, zero_phrase, zero_said}
use Rattle.pal8_asm.specs.declared.faults.Fault.{Fault}
use Rattle.pal8_asm.specs.declared.faults.Place.{Place}
use Rattle.pal8_places.specs.declared.faults.Code.{Code}
use Rattle.pal8_asm.proofs.MakingLemmas.{free_by}

-- ## No clash

-- no fault of a clash is no clash among the words so far
abbrev Free : Result TapeWords Fault → Type 0
Free (Err fault) = Unit {0}
Free (Ok made) = made.clash ≡ None → lowest_clash made.asks made.words ≡ None

word_is_free : (e : Entry) (made : TapeWords) (r : AskResult) → Free (with_made e made r)
word_is_free e made (Err fault) = tt
word_is_free e made (Ok (word, asks, punched)) = free_by made.clash e.place _

word_entry_is_free : (own : Meanings) (e : Entry) (steps : List Step) (r : Result TapeWords Fault) → Free (with_word_entry own e steps r)
word_entry_is_free own e steps (Err fault) = tt
word_entry_is_free own e steps (Ok made) = word_is_free e made (word_value own (spot_of e) steps made.asks made.punched)

late_is_free : (fault : Option Fault) (r : Result TapeWords Fault) → Free r → Free (unless_fault fault r)
late_is_free fault (Err before) free = tt
late_is_free None (Ok made) free = free
late_is_free (Some fault) (Ok made) free = tt

entry_is_free : (own late : Meanings) (e : Entry) (r : Result TapeWords Fault) → Free r → Free (with_entry own late e r)
entry_is_free own late e r free = by_late e.late
  where
    by_late : (definition : Option Late) → Free (with_entry_by own late e definition r)
    by_late None = word_entry_is_free own e (with_values late e.steps) r
    by_late (Some d) = late_is_free (late_fault e d (late_value own e d)) r free

entries_are_free : (own late : Meanings) (entries : List Entry) (r : Result TapeWords Fault) → Free r → Free (with_entries own late entries r)
entries_are_free own late [] r free = free
entries_are_free own late (e ∷ others) r free = entries_are_free own (late_after own e late) others (with_entry own late e r) (entry_is_free own late e r free)

made_is_free : (own : Meanings) (is_late : ℕ → Bool) (entries : List Entry) → Free (words_of_entries own is_late entries)
made_is_free own is_late entries = entries_are_free own (late_values own is_late entries (λ n. None)) entries _ (λ none. refl)

abbrev made_in : TapeWords → Result TapeWords Fault → TapeWords
made_in other (Err fault) = other
made_in other (Ok made) = made

module _ (dollar : Place) (made : TapeWords) where
  by_words : (m : TapeWords) → lowest_clash m.asks m.words ≡ None → (has : Bool) → result_with_words dollar m has ≡ Ok made → lowest_clash made.asks made.words ≡ None
  by_words m none true is = subst (λ (x : TapeWords). lowest_clash x.asks x.words ≡ None) (ap (made_in m) is) none
  by_words m none false is = absurd cc

  by_clash : (m : TapeWords) (clash : Option Fault) → m.clash ≡ clash → Free (Ok m) → result_if_any_word dollar (unless_clash m clash) ≡ Ok made → lowest_clash made.asks made.words ≡ None
  by_clash m (Some fault) same free is = absurd cc
  by_clash m None same free is = by_words m (free same) (has_words m.words) is

  by_made : (r : Result TapeWords Fault) → Free r → result_if_any_word dollar (without_clash r) ≡ Ok made → lowest_clash made.asks made.words ≡ None
  by_made (Err fault) free is = absurd cc
  by_made (Ok m) free is = by_clash m m.clash refl free is

by_left : (made : TapeWords) (l : PassResult) → result_of_source l ≡ Ok made → lowest_clash made.asks made.words ≡ None
by_left made (Err fault) is = absurd cc
by_left made (Ok left) is =
    by_made (dollar_in left.end) made (words_of_entries left.standing.names.own left.standing.late left.entries)
    (made_is_free left.standing.names.own left.standing.late left.entries) is

pub apart : NoClashIsApart → Apart
apart law options text made is c has = law made.words made.asks (by_left made (remainder_of_text options text) is) c has

-- ## No pool

none_asked : (asks : List Ask) (c v : ℕ) → IsPair asks [] c v → ⊥
none_asked asks c v pair = pair.is_asked

no_pairs : (asks : List Ask) (pool : List (ℕ × ℕ)) → ArePairs asks [] pool → pool ≡ []
no_pairs asks [] are = refl
no_pairs asks (pair ∷ others) are = absurd (none_asked asks pair.0 pair.1 ((are.each pair.0 pair.1).0 (inl (refl, refl))))

pub no_pool_no_change : NoPoolNoChange
no_pool_no_change options text pairs whole none =
    whole.are ∙ ap (λ l. whole.made.words ++ l) (no_pairs whole.made.asks whole.pool (subst (λ a. ArePairs whole.made.asks a whole.pool) none whole.is_pool)) ∙ append-nil whole.made.words

-- ## Pools' values

same_number : (n : ℕ) → nat_eq n n ≡ true
same_number n = grind (arith, nat_tests)

other_number : (a b : ℕ) → b < a → nat_eq a b ≡ false
other_number a b below = grind (arith, nat_tests)

absent : (pairs : List (ℕ × ℕ)) (low c : ℕ) → RiseFrom low pairs → c < low → meaning pairs c ≡ None
absent [] low c rise below = refl
absent (pair ∷ later) low c rise below =
    ap (λ o. if_none o (if nat_eq pair.0 c then Some pair.1 else None)) (absent later (pair.0 + 1) c rise.1 (omega (arith, rise.0, below)))
    ∙ ap (λ t. if t then Some pair.1 else None) (other_number pair.0 c (omega (arith, rise.0, below)))

there : (pairs : List (ℕ × ℕ)) (low c v : ℕ) → RiseFrom low pairs → IsIn c v pairs → meaning pairs c ≡ Some v
there [] low c v rise is = absurd is
there (pair ∷ later) low c v rise (inl same) =
    ap (λ o. if_none o (if nat_eq pair.0 c then Some pair.1 else None)) (absent later (pair.0 + 1) c rise.1 (omega (arith, same.0)))
    ∙ ap (λ n. if nat_eq n c then Some pair.1 else None) same.0 ∙ ap (λ t. if t then Some pair.1 else None) (same_number c) ∙ ap Some same.1
there (pair ∷ later) low c v rise (inr is) =
    ap (λ o. if_none o (if nat_eq pair.0 c then Some pair.1 else None)) (there later (pair.0 + 1) c v rise.1 is)

after : (words pairs : List (ℕ × ℕ)) (c v : ℕ) → meaning pairs c ≡ Some v → meaning (words ++ pairs) c ≡ Some v
after [] pairs c v is = is
after (word ∷ words) pairs c v is = ap (λ o. if_none o (if nat_eq word.0 c then Some word.1 else None)) (after words pairs c v is)

pub value_is_found : ValueIsFound
value_is_found options text pairs whole a is =
    ap (λ l. meaning l (cell_in whole.made.asks a)) whole.are
    ∙ after whole.made.words whole.pool (cell_in whole.made.asks a) a.value
    (there whole.pool 0 (cell_in whole.made.asks a) a.value whole.is_pool.rise
    ((whole.is_pool.each (cell_in whole.made.asks a) a.value).1 (record { ask = a; is_asked = is; has_cell = refl; has_value = refl })))

-- ## Places

word_steps : (steps steps' : List Step) (n : ℕ) (r : Result Standing Code) → with_body_if body.Word steps n r ≡ with_body_if body.Word steps' n r
word_steps steps steps' n (Err fault) = refl
word_steps steps steps' n (Ok standing) = refl

same_statement : (tokens : List Token) (n : ℕ) (standing : Standing) (phrase : Phrase)
    → with_statement tokens (zero_phrase phrase).0 (zero_phrase phrase).1 n standing ≡ with_statement tokens phrase.0 phrase.1 n standing
same_statement tokens n standing (body.Nothing, steps) = refl
same_statement tokens n standing (body.Origin, steps) = refl
same_statement tokens n standing (body.Define name, steps) = refl
same_statement tokens n standing (body.Decimal, steps) = refl
same_statement tokens n standing (body.Octal, steps) = refl
same_statement tokens n standing (body.Field, steps) = refl
same_statement tokens n standing (body.NextPage, steps) = refl
same_statement tokens n standing (body.Page, steps) = refl
same_statement tokens n standing (body.Zeros, steps) = refl
same_statement tokens n standing (body.Text, steps) = refl
same_statement tokens n standing (body.Listing, steps) = refl
same_statement tokens n standing (body.IfZero, steps) = refl
same_statement tokens n standing (body.IfNotZero, steps) = refl
same_statement tokens n standing (body.IfDefined name, steps) = refl
same_statement tokens n standing (body.IfUndefined name, steps) = refl
same_statement tokens n standing (body.NoPunch, steps) = refl
same_statement tokens n standing (body.Punch, steps) = refl
same_statement tokens n standing (body.Relocate, steps) = refl
same_statement tokens n standing (body.Unrelocate, steps) = refl
same_statement tokens n standing (body.FileName, steps) = refl
same_statement tokens n standing (body.Device, steps) = refl
same_statement tokens n standing (body.Expunge, steps) = refl
same_statement tokens n standing (body.FixTable, steps) = refl
same_statement tokens n standing (body.FixOperation name, steps) = refl
same_statement tokens n standing (body.Word, steps) = word_steps (number 0) steps n (with_tags tokens (Ok standing))

same_truth : (phrase : Phrase) (standing : Standing) → truth_of (zero_phrase phrase).0 (zero_phrase phrase).1 standing ≡ truth_of phrase.0 phrase.1 standing
same_truth (body.Nothing, steps) standing = refl
same_truth (body.Origin, steps) standing = refl
same_truth (body.Define name, steps) standing = refl
same_truth (body.Decimal, steps) standing = refl
same_truth (body.Octal, steps) standing = refl
same_truth (body.Field, steps) standing = refl
same_truth (body.NextPage, steps) standing = refl
same_truth (body.Page, steps) standing = refl
same_truth (body.Zeros, steps) standing = refl
same_truth (body.Text, steps) standing = refl
same_truth (body.Listing, steps) standing = refl
same_truth (body.IfZero, steps) standing = refl
same_truth (body.IfNotZero, steps) standing = refl
same_truth (body.IfDefined name, steps) standing = refl
same_truth (body.IfUndefined name, steps) standing = refl
same_truth (body.NoPunch, steps) standing = refl
same_truth (body.Punch, steps) standing = refl
same_truth (body.Relocate, steps) standing = refl
same_truth (body.Unrelocate, steps) standing = refl
same_truth (body.FileName, steps) standing = refl
same_truth (body.Device, steps) standing = refl
same_truth (body.Expunge, steps) standing = refl
same_truth (body.FixTable, steps) standing = refl
same_truth (body.FixOperation name, steps) standing = refl
same_truth (body.Word, steps) standing = refl

abbrev left_or : Remainder → PassResult → Remainder
left_or other (Err fault) = other
left_or other (Ok left) = left

-- what is left, with other words
abbrev with_words : List Entry → Remainder → Remainder
with_words entries left = record { standing = left.standing; entries = entries; brackets = left.brackets; end = left.end }

module _ (s : Statement) where
  by_brackets : (standing : Standing) (entries entries' : List Entry) (r : Result (List Bool) Fault)
      → without_words (with_brackets s standing entries' r) ≡ without_words (with_brackets s standing entries r)
  by_brackets standing entries entries' (Err fault) = refl
  by_brackets standing entries entries' (Ok brackets) = refl

  abbrev words_after : Phrase → Remainder → List Entry → Standing → List Entry
  words_after phrase left entries standing =
      with_late_entry (place_of s) (spot_at left.standing.position) phrase.0 phrase.1 standing.names
      (with_entries_of (place_of s) (spot_at left.standing.position)
      (words_in left.standing.position.options phrase.0 (open_value standing) phrase.1 s.string (standing.position.location - left.standing.position.location)) entries)

  by_result : (phrase : Phrase) (left : Remainder) (entries : List Entry) (r : Result Standing Code)
      → without_words (with_phrase s (zero_phrase phrase) (with_words entries left) r) ≡ without_words (with_phrase s phrase left r)
  by_result phrase left entries (Err fault) = refl
  by_result phrase left entries (Ok standing) =
      ap (λ r. without_words (with_brackets s standing (words_after (zero_phrase phrase) left entries standing) (brackets_with (place_of s) s.end left.brackets r)))
      (same_truth phrase standing)
      ∙ by_brackets standing (words_after phrase left left.entries standing) (words_after (zero_phrase phrase) left entries standing) (brackets_with (place_of s) s.end left.brackets (truth_of phrase.0 phrase.1 standing))

  by_said : (left : Remainder) (entries : List Entry) (r : Result Phrase GrammarFault)
      → without_words (with_said s (with_words entries left) (zero_said r)) ≡ without_words (with_said s left r)
  by_said left entries (Err fault) = refl
  by_said left entries (Ok phrase) =
      ap (λ r. without_words (with_phrase s (zero_phrase phrase) (with_words entries left) r)) (same_statement s.tokens (length s.string) left.standing phrase)
      ∙ by_result phrase left entries (with_statement s.tokens phrase.0 phrase.1 (length s.string) left.standing)

  by_reading : (left : Remainder) (entries : List Entry) (over selected : Bool)
      → without_words (if over then Ok (with_words entries left)
      else (if selected then with_said s (with_words entries left) (zero_said (phrase_of left.standing s.tokens s.is_cut s.end))
      else Ok (with_skipped s (with_words entries left))))
      ≡ without_words (if over then Ok left else (if selected then with_selected s left else Ok (with_skipped s left)))
  by_reading left entries true selected = refl
  by_reading left entries false false = refl
  by_reading left entries false true = by_said left entries (phrase_of left.standing s.tokens s.is_cut s.end)

  by_both : (other whole : PassResult) → without_words other ≡ without_words whole → without_words (read_zero s other) ≡ without_words (with_next s whole)
  by_both (Err f) (Err g) same = same
  by_both (Err f) (Ok left) same = absurd cc
  by_both (Ok left') (Err g) same = absurd cc
  by_both (Ok left') (Ok left) same =
      ap (λ l. without_words (read_zero s (Ok (with_words left'.entries l)))) (ap (left_or left) same)
      ∙ by_reading left left'.entries (is_some left.end) (is_selected left.brackets)

pub places_stay : PlacesStay
places_stay options [] = refl
places_stay options (s ∷ older) = by_both s (passed_zero options older) (pass_over options older) (places_stay options older)
