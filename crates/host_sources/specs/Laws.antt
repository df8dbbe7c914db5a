-- What holds of texts, names and of further faults, for the laws.
use Rattle.std.specs.Prelude.{◌≡◌, ℕ, ◌+◌, ◌<◌, true, false, Option, Some, None, slice_index_or, length, take, List, ◌∷◌}
use Rattle.std.specs.Borrow.{Bor}
use Rattle.std.specs.Ordering.{nat_cmp}
use Rattle.std.specs.Map.{lookup}
use Rattle.std.specs.BTreeMap.{is_at}
use Rattle.pal_sym.specs.Permanent.{permanent}
use Rattle.pal_sym.specs.Values.{if_none}
use Rattle.pal_lex.specs.Text.{is_over, text_of}
use Rattle.pal_lex.specs.Statements.{statements}
use Rattle.pal_lex.specs.declared.phrases.Part.{Part}
use Rattle.pal_faults.specs.declared.assembling.AsmFault.TheVariants.{At}
use Rattle.pal_asm.specs.Expressions.{Meanings, value_of}
use Rattle.pal_asm.specs.Places.{values}
use Rattle.pal_asm.specs.Faults.{terms_fault, first_order, fault_of}
use Rattle.host_sources.specs.Sources.{newest_first}
use Rattle.host_sources.specs.Places.{is_refused, place_at_byte}
use Rattle.host_sources.specs.Answers.{IsMarked}
use Rattle.host_sources.specs.Symbols.{Entries, symbols_of}
use Rattle.host_sources.specs.Further.{word_faults}
use Rattle.host_sources.specs.declared.faults.Fault.{Fault}

-- ## Bytes

-- A text up to one of its bytes, and with it, has this byte as its newest. Where the first pass meets no fault of the text, it
-- meets none up to there.
abbrev pub FineByBytes : Type 0
FineByBytes =
    (bytes : List ℕ) (n : ℕ) → n < length bytes
    → (text_of (take (n + 1) bytes) ≡ slice_index_or bytes n 0 ∷ text_of (take n bytes))
    × (first_order (statements (text_of bytes)) ≡ None → first_order (statements (text_of (take (n + 1) bytes))) ≡ None)

-- ## Expressions

-- An expression whose terms have no fault has a value.
abbrev pub FineTermsHaveValue : Type 0
FineTermsHaveValue =
    (known : Meanings) (place : ℕ) (parts : List Part) → terms_fault known place parts ≡ None → (value : ℕ) × (value_of known place parts ≡ Some value)

-- ## Symbols

-- what a name stands for by symbols, its permanent value where it is none of them
abbrev pub value_by : Entries → ℕ → Option ℕ
value_by entries name = if_none (lookup (is_at (nat_cmp name)) entries) (permanent name)

-- The symbols of sources have the values that names stand for after all statements.
abbrev pub SymbolsHaveLastValues : Type 0
SymbolsHaveLastValues =
    (sources : List (Bor (List ℕ))) → fault_of (newest_first sources) ≡ None
    → (name : ℕ) → value_by (symbols_of (statements (newest_first sources))) name ≡ values (statements (newest_first sources)) name

-- ## Further faults

-- The first of the words with a fault, where the first pass meets none, is the fault that is reported, at its place and with
-- what it is about.
abbrev pub FirstIsTold : Type 0
FirstIsTold =
    (sources : List (Bor (List ℕ))) (fault : Fault) (others : List Fault) → is_refused (newest_first sources) ≡ false → is_over (newest_first sources) ≡ true
    → word_faults (place_at_byte sources) (values (statements (newest_first sources))) (newest_first sources) ≡ fault ∷ others
    → (fault_of (newest_first sources) ≡ Some (At fault.code fault.line)) × IsMarked sources fault.code fault.place fault.about
