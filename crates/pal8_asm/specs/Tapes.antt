-- The words of a source with their cells, and what its pools hold (PAL8, in this project's profile).
use Rattle.std.specs.Prelude.{ℕ, ◌/◌, ◌%◌, nat_lt, Bool, false, if◌then◌else◌, Option, Some, None, Result, Ok, Err, List, [], ◌∷◌}
use Rattle.word12.specs.declared.sizes.TheConstants.{FIELD, PAGE}
use Rattle.pal8_pools.specs.Asks.{Ask}
use Rattle.pal8_pools.specs.Clashes.{lowest_clash, with_word}
use Rattle.pal8_grammar.specs.SourceNames.{is_other, with_own}
use Rattle.pal8_values.specs.Sums.{Meanings, early_value}
use Rattle.pal8_values.specs.Words.{AskResult, word_value}
use Rattle.pal8_grammar.specs.declared.steps.Step.{Step}
use Rattle.pal8_values.specs.declared.sums.Spot.{Spot}
use Rattle.pal8_values.specs.declared.faults.ValueFault.{ValueFault}
use Rattle.pal8_places.specs.Places.{code_of}
use Rattle.pal8_asm.specs.Sources.{Entry, at_place, with_values}
use Rattle.pal8_asm.specs.declared.entries.Late.{Late}
use Rattle.pal8_asm.specs.declared.faults.Place.{Place}
use Rattle.pal8_asm.specs.declared.faults.Fault.{Fault}
use Rattle.pal8_places.specs.declared.faults.Code.{Code}
use Rattle.pal8_places.specs.declared.faults.Code.TheVariants as code

-- What entries make: the punched words with their cells, in the order of the source, and the first fault of a punched word on a pool's cell. Also
-- what all words asked, and what the punched ones asked of that, the newest first.
pub record TapeWords : Type 0 where
  pub words : List (ℕ × ℕ)
  pub asks : List Ask
  pub punched : List Ask
  pub clash : Option Fault

abbrev pub nothing_made : TapeWords
nothing_made = record { words = []; asks = []; punched = []; clash = None }

abbrev pub spot_of : Entry → Spot
spot_of e = record {
  field = e.cell / FIELD;
  location = e.cell % FIELD;
  here = e.here;
  is_punched = e.is_punched;
  may_link = e.may_link;
  zero_stay = e.zero_stay;
  page_stay = e.page_stay;
}

-- a cell of a page zero
abbrev pub is_on_zero : ℕ → Bool
is_on_zero c = nat_lt (c % FIELD) PAGE

abbrev pub clash_code : ℕ → Code
clash_code c = if is_on_zero c then code.ZeroClash c else code.PageClash c

-- the fault of the lowest of the cells of words that is a pool's, if one is
abbrev pub clash_fault : Place → Option ℕ → Option Fault
clash_fault place None = None
clash_fault place (Some c) = Some (at_place place (clash_code c))

abbrev pub first_of : Option Fault → Option Fault → Option Fault
first_of None later = later
first_of (Some fault) later = Some fault

-- ## Late definitions

-- where a late definition stands: `.` is past 7777 there or isn't
abbrev pub late_spot : Entry → Late → Spot
late_spot e d = record (spot_of e) { location = if d.is_past then 0o10000 else e.cell % FIELD }

-- its value, by the other definitions
abbrev pub late_value : Meanings → Entry → Late → Result ℕ ValueFault
late_value own e d = early_value own (late_spot e d) e.steps

abbrev pub with_known : ℕ → Result ℕ ValueFault → Meanings → Meanings
with_known name (Err fault) late = late
with_known name (Ok v) late = with_own name v late

abbrev pub late_after_by : Meanings → Entry → Option Late → Meanings → Meanings
late_after_by own e None late = late
late_after_by own e (Some d) late = with_known d.name (late_value own e d) late

-- the values of late definitions after an entry
abbrev pub late_after : Meanings → Entry → Meanings → Meanings
late_after own e late = late_after_by own e e.late late

-- the last definition of an entry's name is late
abbrev pub is_last_late : (ℕ → Bool) → Option Late → Bool
is_last_late is_late None = false
is_last_late is_late (Some d) = is_late d.name

-- Where a word stands before all definitions of a name, it has the last one, and this may be late.
abbrev pub late_values : Meanings → (ℕ → Bool) → List Entry → Meanings → Meanings
late_values own is_late [] late = late
late_values own is_late (e ∷ others) late = late_values own is_late others (if is_last_late is_late e.late then late_after own e late else late)

-- the fault of a late definition, if it has one: that of its value, or that its name is fixed with another value
abbrev pub late_fault : Entry → Late → Result ℕ ValueFault → Option Fault
late_fault e d (Err fault) = Some (at_place e.place (code_of fault))
late_fault e d (Ok v) = if is_other d.kept_value v then Some (at_place e.place code.RD) else None

-- ## Entries

-- an entry's word; one that isn't punched asks, too
abbrev pub with_made : Entry → TapeWords → AskResult → Result TapeWords Fault
with_made e made (Err fault) = Err (at_place e.place (code_of fault))
with_made e made (Ok (word, asks, punched)) = Ok record {
  words = with_word e.is_punched e.cell word made.words;
  asks = asks;
  punched = punched;
  clash = first_of made.clash (clash_fault e.place (lowest_clash asks (with_word e.is_punched e.cell word made.words)));
}

-- an entry that is a word, by these steps
abbrev pub with_word_entry : Meanings → Entry → List Step → Result TapeWords Fault → Result TapeWords Fault
with_word_entry own e steps (Err fault) = Err fault
with_word_entry own e steps (Ok made) = with_made e made (word_value own (spot_of e) steps made.asks made.punched)

abbrev pub unless_fault : Option Fault → Result TapeWords Fault → Result TapeWords Fault
unless_fault fault (Err before) = Err before
unless_fault None (Ok made) = Ok made
unless_fault (Some fault) (Ok made) = Err fault

abbrev pub with_entry_by : Meanings → Meanings → Entry → Option Late → Result TapeWords Fault → Result TapeWords Fault
with_entry_by own late e None made = with_word_entry own e (with_values late e.steps) made
with_entry_by own late e (Some d) made = unless_fault (late_fault e d (late_value own e d)) made

abbrev pub with_entry : Meanings → Meanings → Entry → Result TapeWords Fault → Result TapeWords Fault
with_entry own late e made = with_entry_by own late e e.late made

-- entries more, up to the first fault of a word or of a late definition, which has its value from there on
abbrev pub with_entries : Meanings → Meanings → List Entry → Result TapeWords Fault → Result TapeWords Fault
with_entries own late [] made = made
with_entries own late (e ∷ others) made = with_entries own (late_after own e late) others (with_entry own late e made)

-- what entries make, by what names stand for at last; or the first fault of a word or of a late definition
abbrev pub words_of_entries : Meanings → (ℕ → Bool) → List Entry → Result TapeWords Fault
words_of_entries own is_late entries = with_entries own (late_values own is_late entries (λ n. None)) entries (Ok nothing_made)

abbrev pub unless_clash : TapeWords → Option Fault → Result TapeWords Fault
unless_clash made (Some fault) = Err fault
unless_clash made None = Ok made

-- no punched word lies on a pool's cell
abbrev pub without_clash : Result TapeWords Fault → Result TapeWords Fault
without_clash (Err fault) = Err fault
without_clash (Ok made) = unless_clash made made.clash
