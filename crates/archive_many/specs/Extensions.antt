-- Texts by the extensions of their names, and lists of extensions (OS/8 Software Support Manual: a name's fourth word is its
-- extension; the lists are this project's profile).
use Rattle.std.specs.Prelude.{◌≡◌, ℕ, ◌+◌, ◌*◌, ◌%◌, ◌==◌, ◌&&◌, ◌||◌, Bool, true, false, if◌then◌else◌, codes, Option, Some, None, List, [], ◌∷◌, ◌++◌, length}
use Rattle.std.specs.Option.{is_some}
use Rattle.word12.specs.Sixbit.{sixbit_code}
use Rattle.name_spelling.specs.Patterns.{is_code}

-- a word of two sixbit codes, where both are known
abbrev pub word_of : Option ℕ → Option ℕ → Option ℕ
word_of None low = None
word_of (Some high) None = None
word_of (Some high) (Some low) = Some (0o100 * high + low)

-- the word that an extension spells: none, or one or two capital letters or digits
abbrev pub extension_word : List ℕ → Option ℕ
extension_word [] = Some 0
extension_word (first ∷ []) = word_of (sixbit_code first) (Some 0)
extension_word (first ∷ second ∷ []) = word_of (sixbit_code first) (sixbit_code second)
extension_word (first ∷ second ∷ third ∷ others) = None

-- a character before the first of some items
abbrev pub with_first : ℕ → List (List ℕ) → List (List ℕ)
with_first character [] = (character ∷ []) ∷ []
with_first character (item ∷ items) = (character ∷ item) ∷ items

-- the items of a list, of which commas part them
abbrev pub items_of : List ℕ → List (List ℕ)
items_of [] = [] ∷ []
items_of (character ∷ list) = if character == 0o54 then [] ∷ items_of list else with_first character (items_of list)

-- some item spells the word
abbrev pub some_spells : List (List ℕ) → ℕ → Bool
some_spells [] word = false
some_spells (item ∷ items) word = is_code (extension_word item) word || some_spells items word

-- each item spells a word
abbrev pub each_spells : List (List ℕ) → Bool
each_spells [] = true
each_spells (item ∷ items) = is_some (extension_word item) && each_spells items

-- a list has the extension of this word
abbrev pub is_listed : List ℕ → ℕ → Bool
is_listed list word = some_spells (items_of list) word

-- a text is a list of extensions
abbrev pub is_list : List ℕ → Bool
is_list list = each_spells (items_of list)

-- the extensions of texts: sources, listings and commands of OS/8's programs
abbrev pub usual_list : List ℕ
usual_list = codes "BA,BI,FT,HL,LS,MA,PA,RA,SB,TX"

-- some list has it
abbrev pub is_in_any : List (List ℕ) → ℕ → Bool
is_in_any [] word = false
is_in_any (list ∷ lists) word = is_listed list word || is_in_any lists word

-- a file of this name is a text: its extension is a usual one, where those count, or stands in one of some lists
abbrev pub is_text : ℕ → Bool → List (List ℕ) → Bool
is_text name usual lists = (usual && is_listed usual_list (name % 0o10000)) || is_in_any lists (name % 0o10000)

-- all of these are lists of extensions
abbrev pub AreLists : List (List ℕ) → Type 0
AreLists [] = Unit {0}
AreLists (list ∷ lists) = (is_list list ≡ true) × AreLists lists

-- the first that is none has this place, counted from 0
pub record IsFirstBad (lists : List (List ℕ)) (place : ℕ) : Type 0 where
  pub prefix : List (List ℕ)
  pub bad : List ℕ
  pub following : List (List ℕ)
  pub lists_are : lists ≡ prefix ++ bad ∷ following
  pub place_is : place ≡ length prefix
  pub good : AreLists prefix
  pub is_bad : is_list bad ≡ false
