-- The characters of the words that TEXT, FILENAME and DEVICE make (PAL8, in this project's profile).
use Rattle.std.specs.Prelude.{◌≡◌, ℕ, ◌+◌, ◌*◌, ◌/◌, ◌%◌, Bool, if◌then◌else◌, Option, Some, List, [], ◌∷◌, map}
use Rattle.pal8_grammar.specs.Bodies.{Phrase}
use Rattle.pal8_grammar.specs.declared.bodies.Body.TheVariants as body
use Rattle.pal8_grammar.specs.declared.steps.Step.{Step}
use Rattle.pal8_values.specs.Sums.{Meanings}
use Rattle.pal8_places.specs.declared.options.Options.{Options}
use Rattle.pal8_asm.specs.Sources.{number, words_in}

-- the two characters of each word, six bits of each
abbrev pub characters_in : List ℕ → List ℕ
characters_in [] = []
characters_in (word ∷ words) = word / 0o100 ∷ word % 0o100 ∷ characters_in words

-- What stands after the characters of a text. Where their number is odd it is the zero of the last word. Else it is a word of zeros, unless the
-- options leave that out.
abbrev pub zeros_after : Bool → List ℕ → List ℕ
zeros_after is_without_zero [] = if is_without_zero then [] else 0 ∷ 0 ∷ []
zeros_after is_without_zero (one ∷ []) = 0 ∷ []
zeros_after is_without_zero (one ∷ two ∷ others) = zeros_after is_without_zero others

-- words are these numbers, which have these characters
pub record HasCharacters (made : List (List Step)) (characters : List ℕ) : Type 0 where
  pub words : List ℕ
  pub are : made ≡ map number words
  pub has : characters_in words ≡ characters

-- Tokens after FILENAME say four words, whatever else stands in the source. Three are together the number of a name, and the last is the first
-- third of that of the extension.
pub record SaysFile (said : Option Phrase) (name extension : ℕ) : Type 0 where
  pub steps : List Step
  pub is : said ≡ Some (body.FileName, steps)
  pub first : ℕ
  pub second : ℕ
  pub third : ℕ
  pub last : ℕ
  pub made : (options : Options) (own : Meanings) (string : List ℕ) (size : ℕ) → words_in options body.FileName own steps string size ≡ map number (first ∷ second ∷ third ∷ last ∷ [])
  pub name_is : 0o100000000 * first + 0o10000 * second + third ≡ name
  pub extension_is : last ≡ extension / 0o100000000 % 0o10000

-- Those after DEVICE say two words, which are together two thirds of the number of a name.
pub record SaysDevice (said : Option Phrase) (name : ℕ) : Type 0 where
  pub steps : List Step
  pub is : said ≡ Some (body.Device, steps)
  pub first : ℕ
  pub second : ℕ
  pub made : (options : Options) (own : Meanings) (string : List ℕ) (size : ℕ) → words_in options body.Device own steps string size ≡ map number (first ∷ second ∷ [])
  pub name_is : 0o10000 * first + second ≡ name / 0o10000
