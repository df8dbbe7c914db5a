-- What the small steps of judging words do, for private clauses.
use Rattle.std.specs.Prelude.{◌≡◌, ℕ, Option, take, List, [], ◌∷◌}
use Rattle.std.specs.BTreeMap.{BTreeMap}
use Rattle.pal_sym.specs.Values.{if_none}
use Rattle.pal_faults.specs.declared.assembling.Code.{Code}
use Rattle.pal_asm.specs.Expressions.{Meanings}
use Rattle.pal_asm.specs.Places.{Source, values_at}
use Rattle.pal_lex.specs.Text.{text_of}
use Rattle.pal_lex.specs.Statements.{statements}
use Rattle.pal_lex.specs.Reading.{HasRead}
use Rattle.pal_lex.specs.Progress.{Progress}
use Rattle.source_places.specs.declared.places.Place.{Place}
use Rattle.host_sources.specs.Symbols.{meaning_in, Follows}
use Rattle.host_sources.specs.Unknowns.{Standing}
use Rattle.host_sources.specs.Further.{byte_fault}
use Rattle.host_sources.specs.Marks.{at_mark, mark_of}
use Rattle.host_sources.specs.declared.faults.Fault.{Fault}
use Rattle.host_sources.specs.declared.further.Found.{Found}

-- what a name stands for in a word: what is defined before it, else what is defined at last
abbrev pub known_last : BTreeMap ℕ ℕ → BTreeMap ℕ ℕ → Meanings
known_last now last name = if_none (meaning_in now name) (meaning_in last name)

-- what names stand for at the body of a statement, by those that are defined there and those that are defined at last
abbrev pub Stands : BTreeMap ℕ ℕ → Standing → Type 0
Stands last standing =
    (now : BTreeMap ℕ ℕ) (tags : List ℕ) (older : Source) → meaning_in now ≡ values_at tags older → known_last now last ≡ standing tags older

-- words of a text with faults, where these are the places of its bytes
abbrev pub faults_of_words : (ℕ → Place) → List ℕ → List Found → List Fault
faults_of_words place bytes [] = []
faults_of_words place bytes (found ∷ others) =
    at_mark place found.code found.line (mark_of found.code found.about (text_of (take found.end bytes))) ∷ faults_of_words place bytes others

-- A byte after a text was taken, and this is the fault of the word that it ends.
pub record IsJudged (text : List ℕ) (b : ℕ) (last : Meanings) (fault : Option (Code × ℕ × Option ℕ)) (lexer : Progress) (symbols : BTreeMap ℕ ℕ) (place : ℕ) : Type 0 where
  pub follows : Follows symbols place (statements (b ∷ text))
  pub read : HasRead lexer 0 (b ∷ text)
  pub told : fault ≡ byte_fault last text b
