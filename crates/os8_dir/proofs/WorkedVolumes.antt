-- The definitions on small volumes whose words are known.
use Rattle.std.proofs.Common.{◌≡◌, ℕ, List, [], ◌∷◌, replicate, Some, None, Ok, Err, refl}
use Rattle.os8_dir.specs.declared.entries.DirEntry.{DirEntry}
use Rattle.os8_dir.specs.declared.entries.DirEntry.TheVariants.{File, Empty}
use Rattle.os8_dir.specs.declared.faults.DirFault.TheVariants.{BadLink, SameName, MixedInfo}
use Rattle.os8_dir.specs.Names.{name_of, with_end_zeros, parsed_name}
use Rattle.os8_dir.specs.Reading.{directory_of, head_of, with_segment, with_entries, with_entry, with_links, entry_at, file_at, empty_at}
use Rattle.os8_dir.specs.Found.{files_at, find, extent_of, rooms_at, largest, above, limit}
use Rattle.os8_dir.specs.Files.{data_if_there}
use Rattle.os8_dir.specs.Segments.{words_of_segment, segment_count, segment_of}
use Rattle.os8_dir.specs.Changes.{without_file, with_new_file, moved_down, fitting, lowest_above}

-- 20 blocks, of which block 1 has these words and zeros after
volume : List ℕ → List (List ℕ)
volume words = [] ∷ words ∷ replicate 18 []

-- an empty volume: one empty of 13 blocks from block 7 on
empty_words : ℕ → List ℕ
empty_words link = 4095 ∷ 7 ∷ link ∷ 0 ∷ 4095 ∷ 0 ∷ 4083 ∷ []

read-empty : directory_of (volume (empty_words 0)) ≡ Ok (record { first = 7; info = 1; entries = Empty 13 ∷ [] })
unfolding volume empty_words directory_of head_of with_segment with_entries with_entry with_links entry_at file_at empty_at
read-empty = refl

read-bad_link : directory_of (volume (empty_words 1)) ≡ Err (BadLink 1)
unfolding volume empty_words directory_of head_of with_segment with_entries with_entry with_links entry_at file_at empty_at
read-bad_link = refl

read-mixed : directory_of (volume (empty_words 2)) ≡ Err MixedInfo
unfolding volume empty_words directory_of head_of with_segment with_entries with_entry with_links entry_at file_at empty_at
read-mixed = refl

-- two files of one name
read-same : directory_of (volume (4093 ∷ 7 ∷ 0 ∷ 0 ∷ 4095 ∷ 64 ∷ 0 ∷ 0 ∷ 0 ∷ 0 ∷ 4095 ∷ 64 ∷ 0 ∷ 0 ∷ 0 ∷ 0 ∷ 4095 ∷ 0 ∷ 4085 ∷ [])) ≡ Err SameName
unfolding volume directory_of head_of with_segment with_entries with_entry with_links entry_at file_at empty_at
read-same = refl

-- PROG.PA
name-program : parsed_name (80 ∷ 82 ∷ 79 ∷ 71 ∷ 46 ∷ 80 ∷ 65 ∷ []) ≡ Some (name_of (1042 ∷ 967 ∷ 0 ∷ 1025 ∷ []))
name-program = refl

-- an empty of 2 blocks, a file of 3, an empty of 4, a file of 1
list : List DirEntry
list = Empty 2 ∷ File 9 (5 ∷ []) 3 ∷ Empty 4 ∷ File 8 (6 ∷ []) 1 ∷ []

found : extent_of (find 8 (files_at 7 list)) ≡ Some (16, 1)
unfolding list
found = refl

room : largest (rooms_at 7 list) ≡ Some (12, 4)
unfolding list
room = refl

counted : above list ≡ 2
unfolding list
counted = refl

counted_after : above (File 9 (5 ∷ []) 3 ∷ Empty 4 ∷ File 8 (6 ∷ []) 1 ∷ []) ≡ 1
counted_after = refl

blocks_kept : data_if_there ([] ∷ (1 ∷ 2 ∷ []) ∷ (3 ∷ []) ∷ (4 ∷ []) ∷ []) 1 (find 9 (files_at 1 (File 9 (5 ∷ 0 ∷ []) 2 ∷ []))) ≡ Some (5 ∷ [], 1 ∷ 2 ∷ 3 ∷ [])
blocks_kept = refl

limit-one : limit (record { first = 7; info = 1; entries = [] }) ≡ 246
limit-one = refl

-- Files of two blocks, of which two were removed.
two : ℕ → DirEntry
two name = File name (0 ∷ 0 ∷ 0 ∷ 0 ∷ 0 ∷ 0 ∷ 0 ∷ 0 ∷ 0 ∷ 0 ∷ []) 2

holes : List DirEntry
holes = two 1 ∷ Empty 2 ∷ two 3 ∷ Empty 2 ∷ two 5 ∷ two 6 ∷ Empty 1 ∷ []

removed-two : without_file 4 (without_file 2 (two 1 ∷ two 2 ∷ two 3 ∷ two 4 ∷ two 5 ∷ two 6 ∷ Empty 1 ∷ [])) ≡ holes
unfolding two holes
removed-two = refl

-- empties that touch are one
removed-all : without_file 1 (Empty 2 ∷ two 1 ∷ Empty 3 ∷ []) ≡ Empty 7 ∷ []
unfolding two
removed-all = refl

moved-once : moved_down 3 holes ≡ two 1 ∷ two 3 ∷ Empty 4 ∷ two 5 ∷ two 6 ∷ Empty 1 ∷ []
unfolding two holes
moved-once = refl

moved-all : moved_down 6 (moved_down 5 (moved_down 3 holes)) ≡ two 1 ∷ two 3 ∷ two 5 ∷ two 6 ∷ Empty 5 ∷ []
unfolding two holes
moved-all = refl

lowest-three : lowest_above holes ≡ Some (3, 2)
unfolding two holes
lowest-three = refl

fitting-two : fitting 2 (rooms_at 7 holes) ≡ Some (9, 2)
unfolding two holes
fitting-two = refl

fitting-one : fitting 1 (rooms_at 7 holes) ≡ Some (19, 1)
unfolding two holes
fitting-one = refl

fitting-largest : fitting 0 (rooms_at 7 holes) ≡ Some (9, 2)
unfolding two holes
fitting-largest = refl

fitting-three : fitting 3 (rooms_at 7 holes) ≡ None
unfolding two holes
fitting-three = refl

-- an older file of the name goes, and its blocks are no room
placed-again : with_new_file 7 (record { name = 1; info = 5 ∷ []; place = 10; size = 2 }) (File 1 (6 ∷ []) 1 ∷ Empty 12 ∷ []) ≡ Empty 3 ∷ File 1 (5 ∷ []) 2 ∷ Empty 8 ∷ []
placed-again = refl

-- the first segment of an empty volume
segment-empty : segment_of (record { first = 7; info = 1; entries = Empty 13 ∷ [] }) 0 ≡ with_end_zeros 256 (empty_words 0)
unfolding empty_words words_of_segment
segment-empty = refl

count-empty : segment_count (record { first = 7; info = 1; entries = [] }) ≡ 1
count-empty = refl
