-- What a listing shows of a text beside its words: where they begin, which are links, and what its names stand for at last (PAL8, in this project's
-- profile).
use Rattle.std.specs.Prelude.{◌≡◌, ℕ, nat_eq, bit_and, Bool, true, false, ◌&&◌, not, if◌then◌else◌, is_some, None, Result, Ok, Err, length, List, [], ◌∷◌, ◌++◌}
use Rattle.std.specs.Ordering.{nat_cmp}
use Rattle.std.specs.BTreeMap.{get}
use Rattle.pal_sym.specs.Values.{if_none}
use Rattle.pal8_values.specs.Sums.{Meanings}
use Rattle.pal8_grammar.specs.declared.steps.Step.{Step}
use Rattle.pal8_grammar.specs.declared.steps.Step.TheVariants as step
use Rattle.pal8_asm.specs.Assembled.{result_of_text}
use Rattle.pal8_asm.specs.Assembling.{Assembles, IsAssembled}
use Rattle.pal8_asm.specs.Sources.{Entry, Remainder, remainder_of_text}
use Rattle.pal8_asm.specs.Tapes.{late_values}
use Rattle.pal8_asm.specs.declared.faults.AsmFault.{AsmFault}
use Rattle.pal8_asm.specs.declared.marks.Mark.{Mark}
use Rattle.pal8_places.specs.declared.options.Options.{Options}
use Rattle.pal8_asm.specs.declared.assembling.Parts.{Parts}

-- the word of an operation has the bit of `I`
abbrev pub has_indirect_bit : ℕ → Bool
has_indirect_bit word = not (nat_eq (bit_and word 0o400) 0)

-- a memory reference begins, by an operation without the bit of `I`
abbrev pub begins_direct : Step → Bool
begins_direct (step.Operation word) = not (has_indirect_bit word)
begins_direct step.Alone = false
begins_direct step.Indirect = false
begins_direct (step.Name name) = false
begins_direct (step.Permanent name value) = false
begins_direct (step.Number word) = false
begins_direct step.Here = false
begins_direct (step.Sign op) = false
begins_direct (step.Open pool) = false
begins_direct step.Close = false

abbrev pub is_indirect : Step → Bool
is_indirect (step.Operation word) = false
is_indirect step.Alone = false
is_indirect step.Indirect = true
is_indirect (step.Name name) = false
is_indirect (step.Permanent name value) = false
is_indirect (step.Number word) = false
is_indirect step.Here = false
is_indirect (step.Sign op) = false
is_indirect (step.Open pool) = false
is_indirect step.Close = false

-- `I` comes first
abbrev pub is_first_indirect : List Step → Bool
is_first_indirect [] = false
is_first_indirect (s ∷ others) = is_indirect s

-- steps are those of a memory reference without `I`
abbrev pub is_direct : List Step → Bool
is_direct [] = false
is_direct (s ∷ others) = begins_direct s && not (is_first_indirect others)

abbrev pub mark_of : ℕ → List Step → Mark
mark_of line steps = record { line = line; is_direct = is_direct steps }

-- the mark of a word that is punched; a late definition is no word
abbrev pub mark_in : Entry → List Mark
mark_in e = if e.is_punched && not (is_some e.late) then mark_of e.place.line e.steps ∷ [] else []

-- the marks of the punched words, in the order of the source
abbrev pub marks_of : List Entry → List Mark
marks_of [] = []
marks_of (e ∷ others) = mark_in e ++ marks_of others

-- what each of the source's own names stands for at last: by its last definition, which may be late
abbrev pub last_values : Meanings → (ℕ → Bool) → List Entry → Meanings
last_values own is_late entries n = if_none (late_values own is_late entries (λ n. None) n) (own n)

-- A text has no fault, and these are its pairs, as many of which are words, the marks of these, and the last values of the source's own names.
pub record HasParts (options : Options) (text : List ℕ) (parts : Parts) : Type 0 where
  pub assembled : IsAssembled (result_of_text options text) parts.pairs.items
  pub count : parts.word_count ≡ length assembled.made.words
  pub left : Remainder
  pub leaves : remainder_of_text options text ≡ Ok left
  pub marks : parts.marks.items ≡ marks_of left.entries
  pub names : (n : ℕ) → get nat_cmp parts.names n ≡ last_values left.standing.names.own left.standing.late left.entries n

-- a text is assembled, or its first fault is answered; or memory ran out
abbrev pub AssemblesParts : Options → List ℕ → Result Parts AsmFault → Type 0
AssemblesParts options text (Ok parts) = HasParts options text parts
AssemblesParts options text (Err fault) = Assembles options text (Err fault)
