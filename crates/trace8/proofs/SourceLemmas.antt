-- Instructions are spelled as in the source of the tape.
use Rattle.std.proofs.Common.{◌≡◌, ◌≢◌, inl, inr, ℕ, ◌%◌, ◌/◌, ◌<◌, zero, suc, nat_eq, Bool, true, false, ◌&&◌, if◌then◌else◌, Option, Some, None, List, [], ◌∷◌, ◌++◌, codes, refl, ap, sym, ◌∙◌, arith}
use Rattle.std.proofs.lemmas.Bool.{cases_Bool, or_right}
use Rattle.std.proofs.lemmas.Bool.Decides.{eqb_tells}
use Rattle.word12.specs.declared.sizes.TheConstants.{FIELD}
use Rattle.word12.specs.Octal.{octal4}
use Rattle.bin_tape.specs.Items.{Item, tape_map}
use Rattle.flow8.specs.Exits.{address_of_reference, referred_cell}
use Rattle.tape_source.specs.Looks.{is_tagged, plain}
use Rattle.tape_source.specs.Patterns.{patterns_of, names, patterns}
use Rattle.tape_source.specs.References.{is_reference, operation_name}
use Rattle.tape_source.specs.Sources.{with_word, words_below}
use Rattle.tape_source.specs.Statements.{instruction, is_named, reference}
use Rattle.tape_source.specs.Tags.{is_given, is_referred, tag}

same_number : (a : ℕ) → nat_eq a a ≡ true
same_number a = elim (eqb_tells a a) [ inl same ↦ same.0 | inr other ↦ absurd (other.1 refl) ]

stays : (word : Option ℕ) (cell named : ℕ) (below : List (ℕ × ℕ)) → is_referred plain.is_code below named ≡ true → is_referred plain.is_code (with_word word cell below) named ≡ true
stays None cell named below e = e
stays (Some word) cell named below e = or_right (is_reference (cell % FIELD) word && nat_eq (referred_cell cell word) named) (is_referred plain.is_code below named) e

-- a word among those of a tape refers to the cell that it names
refers : (items : List Item) (count cell word : ℕ) → cell < count → tape_map items cell ≡ Some word → is_reference (cell % FIELD) word ≡ true
    → is_referred plain.is_code (words_below items count) (referred_cell cell word) ≡ true
unfolding words_below
refers items zero cell word low given reference = absurd (omega (arith, low))
refers items (suc count) cell word low given reference = elim (eqb_tells cell count) [
  | inl same ↦ here (same.1)
  | inr other ↦ stays (tape_map items count) count (referred_cell cell word) (words_below items count) (refers items count cell word (under other.1) given reference)
]
  where
    under : cell ≢ count → cell < count
    under ne = omega (arith, low, ne)

    here : cell ≡ count → is_referred plain.is_code (with_word (tape_map items count) count (words_below items count)) (referred_cell cell word) ≡ true
    here e = ap (λ c. is_referred plain.is_code (with_word (tape_map items c) c (words_below items count)) (referred_cell cell word)) (sym e)
        ∙ ap (λ o. is_referred plain.is_code (with_word o cell (words_below items count)) (referred_cell cell word)) given
        ∙ rw (reference, same_number (referred_cell cell word)) refl

both : (a b : Bool) → b ≡ true → a ≡ (a && b)
both true b e = sym e
both false b e = refl

-- where both tag the cell that a reference names, or neither does, it is spelled alike
same_reference : (tagged tagged' : ℕ → Bool) (cell word : ℕ) → tagged (referred_cell cell word) ≡ tagged' (referred_cell cell word)
    → reference tag tagged cell word ≡ reference tag tagged' cell word
same_reference tagged tagged' cell word same =
    ap (λ (b : Bool). operation_name (word / 0o1000) ∷ (if nat_eq (word / 0o400 % 2) 1 then codes "I" ∷ [] else [])
    ++ (if b then tag (referred_cell cell word) else octal4 (address_of_reference (cell % FIELD) word)) ∷ []) same

same_instruction : (tagged tagged' : ℕ → Bool) (cell word : ℕ)
    → (is_reference (cell % FIELD) word ≡ true → tagged (referred_cell cell word) ≡ tagged' (referred_cell cell word))
    → instruction tagged cell word ≡ instruction tagged' cell word
same_instruction tagged tagged' cell word same = elim (cases_Bool (is_reference (cell % FIELD) word)) [
  | inl refers_to ↦
      ap (λ (b : Bool). if b then reference tag tagged cell word else (if is_named word then names (patterns_of word patterns) else octal4 word ∷ [])) refers_to
      ∙ same_reference tagged tagged' cell word (same refers_to)
      ∙ sym (ap (λ (b : Bool). if b then reference tag tagged' cell word else (if is_named word then names (patterns_of word patterns) else octal4 word ∷ [])) refers_to)
  | inr other ↦
      ap (λ (b : Bool). if b then reference tag tagged cell word else (if is_named word then names (patterns_of word patterns) else octal4 word ∷ [])) other
      ∙ sym (ap (λ (b : Bool). if b then reference tag tagged' cell word else (if is_named word then names (patterns_of word patterns) else octal4 word ∷ [])) other)
]

pub spelled : (items : List Item) (count cell word : ℕ) → cell < count → tape_map items cell ≡ Some word
    → instruction (is_given (words_below items count)) cell word ≡ instruction (is_tagged plain (words_below items count)) cell word
spelled items count cell word low given =
    same_instruction (is_given (words_below items count)) (is_tagged plain (words_below items count)) cell word
    (λ refers_to. both (is_given (words_below items count) (referred_cell cell word)) (is_referred plain.is_code (words_below items count) (referred_cell cell word))
    (refers items count cell word low given refers_to))
