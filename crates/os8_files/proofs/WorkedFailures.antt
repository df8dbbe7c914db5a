-- A small volume, worked out: A has two blocks from 7 on, block 9 is empty, B has three from 10 on, blocks 13 and 14 are empty.
use Rattle.std.proofs.Common.{◌≡◌, ℕ, List, [], ◌∷◌, Some, None, Result, Ok, refl}
use Rattle.std.specs.Prelude.{slice_set}
use Rattle.os8_dir.specs.Entries.{DirectoryState}
use Rattle.os8_dir.specs.Files.{run}
use Rattle.os8_dir.specs.Changes.{moved_down, without_file}
use Rattle.os8_dir.specs.declared.entries.DirEntry.TheVariants.{File, Empty}
use Rattle.os8_dir.specs.declared.faults.DirFault.{DirFault}
use Rattle.os8_files.specs.Failed.{extent_or, with_list, lowest_or}
use Rattle.os8_files.specs.Calls.{differing}
use Rattle.os8_files.specs.WriteSteps.{with_run}

abbrev a : ℕ
a = 100000000000

abbrev b : ℕ
b = 200000000000

abbrev small : Result DirectoryState DirFault
small = Ok (record { first = 7; info = 1; entries = File a (0 ∷ []) 2 ∷ Empty 1 ∷ File b (0 ∷ []) 3 ∷ Empty 2 ∷ [] })

-- blocks of one word each
abbrev words : List (List ℕ)
words = (0 ∷ []) ∷ (1 ∷ []) ∷ (2 ∷ []) ∷ (3 ∷ []) ∷ (4 ∷ []) ∷ (5 ∷ []) ∷ (6 ∷ []) ∷ (71 ∷ []) ∷ (72 ∷ []) ∷ (90 ∷ []) ∷ (101 ∷ []) ∷ (102 ∷ []) ∷ (103 ∷ []) ∷ (130 ∷ []) ∷ (140 ∷ []) ∷ []

-- B is the lowest file with an empty below it, of one block; it lies from 10 on, and is to lie from 9 on
b-lowest : lowest_or small ≡ Some (b, 1)
b-lowest = refl

b-was : extent_or b small ≡ Some (10, 3)
b-was = refl

b-moved : extent_or b (with_list (λ d. moved_down b d.entries) small) ≡ Some (9, 3)
b-moved = refl

a-stays : extent_or a (with_list (λ d. moved_down b d.entries) small) ≡ Some (7, 2)
a-stays = refl

-- copied in full its words stand in its new blocks, and no longer in its old ones
abbrev copied : List (List ℕ)
copied = with_run words 9 ((101 ∷ []) ∷ (102 ∷ []) ∷ (103 ∷ []) ∷ [])

b-stands : run copied 9 3 ≡ run words 10 3
b-stands = refl

b-gone : run copied 10 3 ≡ 102 ∷ 103 ∷ 103 ∷ []
b-gone = refl

-- where the second block was not written, they stand in neither: B is longer than the empty
abbrev broken : List (List ℕ)
broken = with_run words 9 ((101 ∷ []) ∷ (5252 ∷ []) ∷ [])

b-lost : run broken 9 3 ≡ 101 ∷ 5252 ∷ 102 ∷ []
b-lost = refl

b-lost-too : run broken 10 3 ≡ 5252 ∷ 102 ∷ 103 ∷ []
b-lost-too = refl

-- without A its blocks are empty with the one after them, but A stands in full in its old blocks
a-gone : extent_or a (with_list (λ d. without_file a d.entries) small) ≡ None
a-gone = refl

a-stands : run (slice_set words 1 (5252 ∷ [])) 7 2 ≡ 71 ∷ 72 ∷ []
a-stands = refl

-- two of blocks 1 to 6 have other words
two-differ : differing 6 words (slice_set (slice_set words 1 (11 ∷ [])) 4 (44 ∷ [])) ≡ 2
two-differ = refl
