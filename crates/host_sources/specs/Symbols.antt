-- The symbols of sources (PAL III Symbolic Assembler manual, and this project's profile of it).
use Rattle.std.specs.Prelude.{◌≡◌, ℕ, Option, Some, None, Ok, Err, List, [], ◌∷◌}
use Rattle.std.specs.Ordering.{nat_cmp}
use Rattle.std.specs.BTreeMap.{BTreeMap, get, insert_entry}
use Rattle.pal_sym.specs.Permanent.{permanent}
use Rattle.pal_sym.specs.Values.{if_none}
use Rattle.pal_lex.specs.declared.phrases.Body.{Body}
use Rattle.pal_lex.specs.declared.phrases.Body.TheVariants.{Nothing, Origin, Define, Decimal, Octal, Pause, Field, Reference, Word}
use Rattle.pal_asm.specs.Expressions.{Meanings, value_of}
use Rattle.pal_asm.specs.Places.{Source, place_at, values, values_at}

-- names with what they stand for, in the order of the names
abbrev pub Entries : Type 0
Entries = List (ℕ × ℕ)

-- a name among others stands for a value, if there is one
abbrev pub with_value : Entries → ℕ → Option ℕ → Entries
with_value entries name None = entries
with_value entries name (Some value) = insert_entry nat_cmp entries name value

-- tags stand for the place of their statement
abbrev pub with_tags : Entries → List ℕ → ℕ → Entries
with_tags entries [] place = entries
with_tags entries (tag ∷ tags) place = with_tags (insert_entry nat_cmp entries tag place) tags place

-- `=` gives a name a value
abbrev pub with_body : Entries → Meanings → ℕ → Body → Entries
with_body entries known place Nothing = entries
with_body entries known place (Origin e) = entries
with_body entries known place (Define name e) = with_value entries name (value_of known place e)
with_body entries known place Decimal = entries
with_body entries known place Octal = entries
with_body entries known place Pause = entries
with_body entries known place (Field e) = entries
with_body entries known place (Reference operation indirect address) = entries
with_body entries known place (Word e) = entries

-- the names that statements define, in the order of the names, each with the value that it was given last
abbrev pub symbols_of : Source → Entries
symbols_of [] = []
symbols_of (Err fault ∷ older) = symbols_of older
symbols_of (Ok s ∷ older) = with_body (with_tags (symbols_of older) s.tags (place_at older)) (values_at s.tags older) (place_at older) s.body

-- ## Symbols that are kept

-- what a name stands for, where these are defined
abbrev pub meaning_in : BTreeMap ℕ ℕ → Meanings
meaning_in symbols name = if_none (get nat_cmp symbols name) (permanent name)

-- These symbols and this place are those after some statements.
pub record Follows (symbols : BTreeMap ℕ ℕ) (place : ℕ) (source : Source) : Type 0 where
  pub values : (n : ℕ) → meaning_in symbols n ≡ values source n
  pub entries : symbols.entries ≡ symbols_of source
  pub at : place ≡ place_at source
