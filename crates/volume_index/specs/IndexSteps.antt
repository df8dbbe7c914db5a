-- What steps of the code that indexes volumes do. No contract of a public function cites these.
use Rattle.std.specs.Prelude.{◌≡◌, ℕ, ◌+◌, Option, List, [], ◌∷◌, ◌++◌}
use Rattle.os8_dir.specs.declared.entries.DirEntry.{DirEntry}
use Rattle.os8_dir.specs.declared.entries.DirEntry.TheVariants.{File, Empty}
use Rattle.os8_dir.specs.Entries.{size_of}
use Rattle.volume_index.specs.Indexing.{IsLineIf, is_chosen}
use Rattle.volume_index.specs.declared.styles.IndexStyle.{IndexStyle}

-- the line of an entry that begins at a block; an empty has none
abbrev pub IsLineAt : IndexStyle → List ℕ → Option ℕ → ℕ → List ℕ → List (List ℕ) → ℕ → DirEntry → List ℕ → Type 0
IsLineAt style name number last image blocks place (File title info size) line =
    IsLineIf (is_chosen style.find.bytes.items title) style name number last image blocks (record { name = title; info = info; place = place; size = size }) line
IsLineAt style name number last image blocks place (Empty size) line = line ≡ []

-- the lines of entries, the first of which begins at a block
abbrev pub AreLinesAt : IndexStyle → List ℕ → Option ℕ → ℕ → List ℕ → List (List ℕ) → ℕ → List DirEntry → List ℕ → Type 0
AreLinesAt style name number last image blocks place [] text = text ≡ []
AreLinesAt style name number last image blocks place (entry ∷ entries) text = (line : List ℕ) × (others : List ℕ) × IsLineAt style name number last image blocks place entry line
    × AreLinesAt style name number last image blocks (place + size_of entry) entries others × (text ≡ line ++ others)
