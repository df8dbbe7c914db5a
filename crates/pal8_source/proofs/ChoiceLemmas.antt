-- The text that is answered.
use Rattle.std.proofs.Common.{◌≡◌, ◌⊎◌, inl, inr, ℕ, ◌<◌, Bool, Option, Ok, Err, List, ◌++◌, ◌∷◌, refl, ap, sym, subst, ◌∙◌}
use Rattle.word12.specs.declared.sizes.TheConstants.{CORE}
use Rattle.bin_tape.specs.Items.{Item, tape_map}
use Rattle.bin_tape.specs.Map.{IsMapOf}
use Rattle.bin_tape.specs.Tape.{IsTape}
use Rattle.flow8.specs.Flow.{word_in}
use Rattle.tape_source.specs.Lines.{line_end}
use Rattle.pal_lex.specs.Text.{text_of}
use Rattle.pal8_asm.specs.Assembling.{Assembles}
use Rattle.pal8_asm.specs.Sources.{at_place}
use Rattle.pal8_asm.specs.declared.faults.AsmFault.{AsmFault}
use Rattle.pal8_asm.specs.declared.faults.AsmFault.TheVariants.{At}
use Rattle.pal8_places.specs.declared.faults.Code.{Code}
use Rattle.pal8_asm.specs.declared.faults.Place.{Place}
use Rattle.pal8_places.specs.declared.options.Options.{Options}
use Rattle.pal8_source.specs.Sources.{IsPal8Source}
use Rattle.pal8_source.specs.Plain.{plain_source}
use Rattle.pal8_source.specs.Checked.{ComesBack, GivesOther, HasFault, IsCheckedSource, as_profile}
use Rattle.pal8_source.specs.CheckSteps.{Judges}
use Rattle.pal8_source.proofs.PlainMapLemmas.{below_same}
use Rattle.pal8_source.proofs.TapeLemmas.{in_core, twelve_bits}
use Rattle.pal8_source.proofs.PlainLemmas.{plain_comes_back}

-- a text has a fault
pub has_fault : (options : Options) (text : List ℕ) (fault : AsmFault) (code : Code) (place : Place) → options ≡ as_profile → fault ≡ At code place
    → Assembles options (text_of text) (Err fault) → HasFault text
has_fault options text fault code place plain is met = record {
  fault = at_place place code;
  is_fault = subst (λ f. Assembles as_profile (text_of text) (Err f)) is (subst (λ o. Assembles o (text_of text) (Err fault)) plain met);
}

-- what was judged, of the same words and the same text
pub judges_same : (words words' : List (Option ℕ)) (text text' : List ℕ) (b b' : Bool) → words ≡ words' → text ≡ text' → b ≡ b' → Judges words text (Ok b) → Judges words' text' (Ok b')
judges_same words words' text text' b b' e f g is =
    subst (λ w. Judges w text' (Ok b')) e (subst (λ t. Judges words t (Ok b')) f (subst (λ x. Judges words text (Ok x)) g is))

abbrev Same : (ℕ → Option ℕ) → (ℕ → Option ℕ) → Type 0
Same these those = (cell : ℕ) → cell < CORE → these cell ≡ those cell

same_back : (these those : ℕ → Option ℕ) (text : List ℕ) → Same these those → ComesBack these text → ComesBack those text
same_back these those text same back = record { pairs = back.pairs; are = back.are; are_pairs = back.are_pairs; cells = λ cell low. back.cells cell low ∙ same cell low }

same_other : (these those : ℕ → Option ℕ) (text : List ℕ) → Same these those → HasFault text ⊎ GivesOther these text → HasFault text ⊎ GivesOther those text
same_other these those text same (inl fault) = inl fault
same_other these those text same (inr other) = inr (record {
  pairs = other.pairs;
  are = other.are;
  cell = other.cell;
  in_core = other.in_core;
  differs = λ is. other.differs (is ∙ sym (same other.cell other.in_core));
})

module _ (frames starts : List ℕ) (names : Option (List ℕ)) (source : List ℕ) (words : List (Option ℕ)) (is : IsPal8Source frames starts names source) (map : IsMapOf frames words)
    (one : (frames : List ℕ) (a b : List Item) → IsTape frames a → IsTape frames b → a ≡ b) where
  the_same : Same (word_in words) (tape_map is.items)
  the_same cell low = map.cells cell low ∙ ap (λ items. tape_map items cell) (one frames map.items is.items map.is_tape is.is_tape)

  pub chosen : ComesBack (word_in words) source → IsCheckedSource frames starts names source
  chosen back = record { source = source; is_source = is; is_or_stands = inl refl; comes_back = same_back (word_in words) (tape_map is.items) source the_same back }

  pub stands : HasFault source ⊎ GivesOther (word_in words) source → (text : List ℕ) → text ≡ plain_source (word_in words) → IsCheckedSource frames starts names text
  stands fails text plain =
      let prefix = is.is_tape.is_prefix.3 in
      let same : text ≡ plain_source (tape_map is.items) = plain ∙ ap (λ l. l ++ 0o44 ∷ line_end) (below_same (word_in words) (tape_map is.items) CORE the_same) in
      record {
        source = source;
        is_source = is;
        is_or_stands = inr (same_other (word_in words) (tape_map is.items) source the_same fails, same);
        comes_back =
            subst (ComesBack (tape_map is.items)) (sym same)
            (plain_comes_back (tape_map is.items) (λ cell word low has. twelve_bits is.items prefix cell word has) is.cell (in_core is.items prefix is.cell is.has_word) is.has_word);
      }
