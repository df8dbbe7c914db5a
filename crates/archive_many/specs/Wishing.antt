-- What is asked for of the files of a volume by words that choose files, and by first blocks.
use Rattle.std.specs.Prelude.{◌||◌, ℕ, ◌+◌, Bool, true, false, nat_eq, if◌then◌else◌, Option, None, Some, List, [], ◌∷◌, ◌++◌, map}
use Rattle.name_spelling.specs.Patterns.{is_choice}
use Rattle.archive_files.specs.Asking.{Target, AtBlock}
use Rattle.archive_many.specs.Choosing.{beginning_at, files_like}
use Rattle.archive_many.specs.declared.opened.VolumeFile.{VolumeFile}
use Rattle.archive_many.specs.declared.wishes.Wish.{Wish}
use Rattle.archive_many.specs.declared.wishes.Wish.TheVariants as wish

-- ## In the order of the words

-- the files that are like the word at a place; where none is, the word is refused
abbrev pub wishes_for : ℕ → List VolumeFile → List Wish
wishes_for place [] = wish.NotFound place ∷ []
wishes_for place (file ∷ files) = map wish.File (file ∷ files)

-- what the word at a place asks for: the files that it chooses, if it is a name or a pattern
abbrev pub wishes_of_word : List VolumeFile → ℕ → List ℕ → List Wish
wishes_of_word files place word = if is_choice word then wishes_for place (files_like word files) else wish.BadWord place ∷ []

-- what words ask for, of which the first has this place
abbrev pub asked_by_words : List VolumeFile → ℕ → List (List ℕ) → List Wish
asked_by_words files place [] = []
asked_by_words files place (word ∷ words) = wishes_of_word files place word ++ asked_by_words files (place + 1) words

-- the file that begins at a block, if one does
abbrev pub file_or_none : ℕ → Option VolumeFile → Wish
file_or_none block None = wish.Block block
file_or_none block (Some file) = wish.File file

abbrev pub wish_of_block : List VolumeFile → ℕ → Wish
wish_of_block files block = file_or_none block (beginning_at block files)

-- all files, if these are asked for
abbrev pub wishes_for_all : Bool → List VolumeFile → List Wish
wishes_for_all true files = map wish.File files
wishes_for_all false files = []

-- all files, if these are asked for, and then those of words, and those at blocks
abbrev pub all_wishes : List VolumeFile → Bool → List (List ℕ) → List ℕ → List Wish
all_wishes files is_all words places = wishes_for_all is_all files ++ asked_by_words files 0 words ++ map (wish_of_block files) places

-- ## Each file once

-- a file that begins at a block is among these
abbrev pub has_place : ℕ → List Wish → Bool
has_place place [] = false
has_place place (wish.File file ∷ wishes) = nat_eq file.place place || has_place place wishes
has_place place (wish.BadWord word ∷ wishes) = has_place place wishes
has_place place (wish.NotFound word ∷ wishes) = has_place place wishes
has_place place (wish.Block block ∷ wishes) = has_place place wishes

-- one more after others, unless it is a file that is among them
abbrev pub with_wish : List Wish → Wish → List Wish
with_wish before (wish.File file) = if has_place file.place before then before else before ++ wish.File file ∷ []
with_wish before (wish.BadWord word) = before ++ wish.BadWord word ∷ []
with_wish before (wish.NotFound word) = before ++ wish.NotFound word ∷ []
with_wish before (wish.Block block) = before ++ wish.Block block ∷ []

-- some after others, each file where it is asked for first
abbrev pub once : List Wish → List Wish → List Wish
once before [] = before
once before (one ∷ wishes) = once (with_wish before one) wishes

-- what is asked for of these files, each file once
abbrev pub wishes_of : List VolumeFile → Bool → List (List ℕ) → List ℕ → List Wish
wishes_of files is_all words places = once [] (all_wishes files is_all words places)

-- ## What is found

abbrev pub is_file : Wish → Bool
is_file (wish.File file) = true
is_file (wish.BadWord place) = false
is_file (wish.NotFound place) = false
is_file (wish.Block block) = false

-- the first that asks for no file
abbrev pub first_unfound : List Wish → Option Wish
first_unfound [] = None
first_unfound (one ∷ wishes) = if is_file one then first_unfound wishes else Some one

-- the file that is asked for, if one is
abbrev pub file_of : Wish → List VolumeFile
file_of (wish.File file) = file ∷ []
file_of (wish.BadWord place) = []
file_of (wish.NotFound place) = []
file_of (wish.Block block) = []

-- the files that are asked for
abbrev pub found_files : List Wish → List VolumeFile
found_files [] = []
found_files (one ∷ wishes) = file_of one ++ found_files wishes

-- a file by its first block, since no text may spell its name
abbrev pub by_place : VolumeFile → Target
by_place file = AtBlock file.place
