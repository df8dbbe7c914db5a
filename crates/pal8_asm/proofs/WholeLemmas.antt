-- What a text comes to, by what its parts do.
use Rattle.std.proofs.Common.{◌≡◌, ℕ, true, false, Result, Ok, Err, length, List, [], ◌∷◌, ◌++◌, refl, sym, ap, ◌∙◌}
use Rattle.std.specs.Prelude.{nat_eq}
use Rattle.pal8_grammar.specs.SourceNames.{own_value}
use Rattle.pal8_pools.specs.Pooled.{PoolTable}
use Rattle.pal8_asm.specs.Sources.{at_place}
use Rattle.pal8_asm.specs.Tapes.{TapeWords, without_clash, words_of_entries}
use Rattle.pal8_asm.specs.Assembled.{result_of_text, dollar_in, has_words, result_if_any_word, result_with_words, result_of_source}
use Rattle.pal8_asm.specs.Assembling.{Assembles, IsAssembled, IsMade, MakesWords, Progress, ReadsText, remainder_of}
use Rattle.pal8_places.specs.Passing.{is_late}
use Rattle.pal8_asm.specs.Marks.{HasParts}
use Rattle.pal8_asm.specs.MarkSteps.{HasWhole, TakesParts}
use Rattle.pal8_asm.specs.declared.assembling.Parts.{Parts}
use Rattle.pal8_asm.specs.declared.assembling.Whole.{Whole}
use Rattle.pal8_asm.specs.Steps.{AddsPool}
use Rattle.pal8_asm.specs.declared.faults.AsmFault.{AsmFault}
use Rattle.pal8_asm.specs.declared.faults.AsmFault.TheVariants.{At, Memory}
use Rattle.pal8_places.specs.declared.faults.Code.TheVariants as code
use Rattle.pal8_asm.specs.declared.faults.Fault.{Fault}
use Rattle.pal8_asm.specs.declared.faults.Place.{Place}
use Rattle.pal8_places.specs.declared.faults.Code.{Code}
use Rattle.pal8_places.specs.declared.options.Options.{Options}

-- a list that isn't empty has words
pub has_some : (pairs : List (ℕ × ℕ)) → false ≡ nat_eq (length pairs) 0 → has_words pairs ≡ true
has_some [] is = absurd cc
has_some (pair ∷ others) is = refl

module _ (options : Options) (text : List ℕ) (a : Progress) where
  -- a statement or the end has a fault
  pub read_fails : (code : Code) (place : Place) → ReadsText options text (Err (At code place)) a → result_of_text options text ≡ Err (at_place place code)
  read_fails code place is = ap result_of_source is

  pub read_refused : (fault : AsmFault) → ReadsText options text (Err fault) a → Assembles options text (Err fault)
  read_refused (At code place) is = ap result_of_source is
  read_refused Memory is = tt

  abbrev whole : Result TapeWords Fault
  whole = without_clash (words_of_entries (own_value a.names.table) (is_late a.names) a.entries)

  -- a word has one
  pub word_fails : (code : Code) (place end : Place) → ReadsText options text (Ok end) a → MakesWords whole (Err (At code place))
      → result_of_text options text ≡ Err (at_place place code)
  word_fails code place end reads is = ap result_of_source reads.0 ∙ ap (result_if_any_word (dollar_in a.end)) is

  -- there is none
  pub no_word : (end : Place) (pools : PoolTable) (pairs : List (ℕ × ℕ)) → ReadsText options text (Ok end) a → IsMade whole pools pairs → has_words pairs ≡ false
      → result_of_text options text ≡ Err (at_place end code.NW)
  no_word end pools pairs reads made none =
      ap result_of_source reads.0 ∙ ap (result_if_any_word (dollar_in a.end)) made.is_whole ∙ ap (result_with_words (dollar_in a.end) made.made) (ap has_words (sym made.words) ∙ none)
      ∙ ap (λ o. Err (at_place (dollar_in o) code.NW)) reads.1

  -- all is well
  abbrev pub all_words : (end : Place) (pools : PoolTable) (pairs pairs' : List (ℕ × ℕ)) → ReadsText options text (Ok end) a → (made : IsMade whole pools pairs) → has_words pairs ≡ true
      → AddsPool made.made.asks made.made.punched pairs pairs' → IsAssembled (result_of_text options text) pairs'
  all_words end pools pairs pairs' reads made some adds = record {
    made = made.made;
    is_whole =
        ap result_of_source reads.0 ∙ ap (result_if_any_word (dollar_in a.end)) made.is_whole ∙ ap (result_with_words (dollar_in a.end) made.made) (ap has_words (sym made.words) ∙ some);
    pool = adds.pool;
    are = adds.are ∙ ap (λ l. l ++ adds.pool) made.words;
    is_pool = adds.is_pool;
  }

-- the parts of a text that was read and assembled
pub parts_have : (options : Options) (text : List ℕ) (whole : Whole) (parts : Parts) → HasWhole options text whole → TakesParts (remainder_of whole.assembler) whole.pairs.items whole.word_count parts
    → HasParts options text parts
parts_have options text whole parts has takes = record {
  assembled = record {
    made = has.assembled.made;
    is_whole = has.assembled.is_whole;
    pool = has.assembled.pool;
    are = takes.pairs_are ∙ has.assembled.are;
    is_pool = has.assembled.is_pool;
  };
  count = takes.count_is ∙ has.count;
  left = remainder_of whole.assembler;
  leaves = has.leaves;
  marks = takes.marks;
  names = takes.names;
}
