-- The characters of words that are made of a text, of the name of a file, and of that of a device.
use Rattle.std.proofs.Common.{◌≡◌, ◌∙◌, ◌<◌, ◌++◌, ℕ, ◌+◌, ◌*◌, ◌/◌, ◌%◌, Bool, true, false, if◌then◌else◌, Option, Some, List, [], ◌∷◌, refl, ap, arith, map}
use Rattle.pal8_lex.specs.declared.tokens.Token.{Token}
use Rattle.pal8_grammar.specs.Bodies.{device_phrase, file_phrase, phrase}
use Rattle.pal8_grammar.specs.Names.{device_steps, extension_of, file_steps, pair_of, spaced_run}
use Rattle.pal8_grammar.specs.declared.bodies.Body.TheVariants as body
use Rattle.pal8_grammar.specs.declared.steps.Step.{Step}
use Rattle.pal8_grammar.specs.declared.steps.Step.TheVariants as step
use Rattle.pal8_places.specs.declared.options.Options.{Options}
use Rattle.pal8_asm.specs.Sources.{number, text_words}
use Rattle.program_laws.specs.Characters.{HasCharacters, SaysDevice, SaysFile, characters_in, zeros_after}

-- ## A text

abbrev HasText : Options → List ℕ → Type 0
HasText options string = HasCharacters (text_words options string) (map (λ byte. byte % 0o100) string ++ zeros_after options.is_without_zero string)

no-text : (options : Options) (is : Bool) → HasCharacters (if is then [] else number 0 ∷ []) (if is then [] else 0 ∷ 0 ∷ [])
no-text options true = record { words = []; are = refl; has = refl }
no-text options false = record { words = 0 ∷ []; are = refl; has = refl }

-- the halves of a word of two characters
high-of : (a b : ℕ) → (0o100 * (a % 0o100) + b % 0o100) / 0o100 ≡ a % 0o100
high-of a b = omega arith

low-of : (a b : ℕ) → (0o100 * (a % 0o100) + b % 0o100) % 0o100 ≡ b % 0o100
low-of a b = omega arith

last-high : (a : ℕ) → 0o100 * (a % 0o100) / 0o100 ≡ a % 0o100
last-high a = omega arith

last-low : (a : ℕ) → 0o100 * (a % 0o100) % 0o100 ≡ 0
last-low a = omega arith

two-more : (a b : ℕ) (words characters : List ℕ) → characters_in words ≡ characters → characters_in ((0o100 * (a % 0o100) + b % 0o100) ∷ words) ≡ a % 0o100 ∷ b % 0o100 ∷ characters
two-more a b words characters is =
    ap (λ (n : ℕ). n ∷ (0o100 * (a % 0o100) + b % 0o100) % 0o100 ∷ characters_in words) (high-of a b)
    ∙ ap (λ (n : ℕ). a % 0o100 ∷ n ∷ characters_in words) (low-of a b) ∙ ap (λ (l : List ℕ). a % 0o100 ∷ b % 0o100 ∷ l) is

pub text-has : (options : Options) (string : List ℕ) → HasText options string
text-has options [] = no-text options options.is_without_zero
text-has options (a ∷ []) = record {
  words = 0o100 * (a % 0o100) ∷ [];
  are = refl;
  has = ap (λ (n : ℕ). n ∷ 0o100 * (a % 0o100) % 0o100 ∷ []) (last-high a) ∙ ap (λ (n : ℕ). a % 0o100 ∷ n ∷ []) (last-low a);
}
text-has options (a ∷ b ∷ others) =
    let h = text-has options others in
    record {
      words = (0o100 * (a % 0o100) + b % 0o100) ∷ h.words;
      are = ap (λ (made : List (List Step)). number (0o100 * (a % 0o100) + b % 0o100) ∷ made) h.are;
      has = two-more a b h.words (map (λ byte. byte % 0o100) others ++ zeros_after options.is_without_zero others) h.has;
    }

-- ## Names

thirds : (name : ℕ) → name < 0o1000000000000 → 0o100000000 * (name / 0o100000000 % 0o10000) + 0o10000 * (name / 0o10000 % 0o10000) + name / 1 % 0o10000 ≡ name
thirds name small = omega (arith, small)

two-thirds : (name : ℕ) → name < 0o1000000000000 → 0o10000 * (name / 0o100000000 % 0o10000) + name / 0o10000 % 0o10000 ≡ name / 0o10000
two-thirds name small = omega (arith, small)

says-file : (said : Option ℕ) (more : Option ℕ) (name extension : ℕ) → said ≡ Some name → more ≡ Some extension → name < 0o1000000000000 → SaysFile (phrase body.FileName (file_steps said more)) name extension
says-file said more name extension named extended small = record {
  steps = step.Number (pair_of name 0o100000000) ∷ step.Number (pair_of name 0o10000) ∷ step.Number (pair_of name 1) ∷ step.Number (pair_of extension 0o100000000) ∷ [];
  is = ap (λ (o : Option ℕ). phrase body.FileName (file_steps o more)) named ∙ ap (λ (o : Option ℕ). phrase body.FileName (file_steps (Some name) o)) extended;
  first = pair_of name 0o100000000;
  second = pair_of name 0o10000;
  third = pair_of name 1;
  last = pair_of extension 0o100000000;
  made = λ options own string size. refl;
  name_is = thirds name small;
  extension_is = refl;
}

pub file-says : (one point other : Token) (name extension : ℕ) → spaced_run one ≡ Some name → extension_of point other ≡ Some extension → name < 0o1000000000000
    → SaysFile (file_phrase (one ∷ point ∷ other ∷ [])) name extension
file-says one point other name extension named extended small = says-file (spaced_run one) (extension_of point other) name extension named extended small

pub bare-says : (one : Token) (name : ℕ) → spaced_run one ≡ Some name → name < 0o1000000000000 → SaysFile (file_phrase (one ∷ [])) name 0
bare-says one name named small = says-file (spaced_run one) (Some 0) name 0 named refl small

pub device-says : (one : Token) (name : ℕ) → spaced_run one ≡ Some name → name < 0o1000000000000 → SaysDevice (device_phrase (one ∷ [])) name
device-says one name named small = record {
  steps = step.Number (pair_of name 0o100000000) ∷ step.Number (pair_of name 0o10000) ∷ [];
  is = ap (λ (o : Option ℕ). phrase body.Device (device_steps o)) named;
  first = pair_of name 0o100000000;
  second = pair_of name 0o10000;
  made = λ options own string size. refl;
  name_is = two-thirds name small;
}
