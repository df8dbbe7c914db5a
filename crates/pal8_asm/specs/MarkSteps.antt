-- What the steps to a listing's parts give, for private clauses.
use Rattle.std.specs.Prelude.{◌≡◌, ℕ, Result, Ok, Err, length, List}
use Rattle.std.specs.Ordering.{nat_cmp}
use Rattle.std.specs.BTreeMap.{get}
use Rattle.pal8_asm.specs.Assembled.{result_of_text}
use Rattle.pal8_asm.specs.Assembling.{Assembles, IsAssembled, remainder_of}
use Rattle.pal8_asm.specs.Marks.{last_values, marks_of}
use Rattle.pal8_asm.specs.Sources.{Remainder, remainder_of_text}
use Rattle.pal8_asm.specs.declared.faults.AsmFault.{AsmFault}
use Rattle.pal8_places.specs.declared.options.Options.{Options}
use Rattle.pal8_asm.specs.declared.assembling.Parts.{Parts}
use Rattle.pal8_asm.specs.declared.assembling.Whole.{Whole}

-- A text was read and assembled: these are its pairs, as many of which are words.
pub record HasWhole (options : Options) (text : List ℕ) (whole : Whole) : Type 0 where
  pub assembled : IsAssembled (result_of_text options text) whole.pairs.items
  pub count : whole.word_count ≡ length assembled.made.words
  pub leaves : remainder_of_text options text ≡ Ok (remainder_of whole.assembler)

-- a text was read and assembled, or its first fault is answered; or memory ran out
abbrev pub ReadsWhole : Options → List ℕ → Result Whole AsmFault → Type 0
ReadsWhole options text (Ok whole) = HasWhole options text whole
ReadsWhole options text (Err fault) = Assembles options text (Err fault)

-- These are the parts of what was left and assembled.
pub record TakesParts (left : Remainder) (pairs : List (ℕ × ℕ)) (count : ℕ) (parts : Parts) : Type 0 where
  pub pairs_are : parts.pairs.items ≡ pairs
  pub count_is : parts.word_count ≡ count
  pub marks : parts.marks.items ≡ marks_of left.entries
  pub names : (n : ℕ) → get nat_cmp parts.names n ≡ last_values left.standing.names.own left.standing.late left.entries n
