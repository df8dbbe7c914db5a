-- The whole texts among blocks (this project's profile).
use Rattle.std.specs.Prelude.{ℕ, zero, suc, ◌+◌, ◌-◌, ◌/◌, ◌≤◌, true, false, List, [], ◌∷◌, ◌++◌, length, take, drop}
use Rattle.char_pack.specs.declared.packing.TheConstants.{BLOCK_FRAMES}
use Rattle.block_scan.specs.Passages.{passage}
use Rattle.block_scan.specs.declared.passages.Passage.{Passage}
use Rattle.block_scan.specs.declared.passages.Passage.TheVariants.{Goes, Ends, Breaks}
use Rattle.block_scan.specs.declared.texts.Stretch.{Stretch}
use Rattle.block_scan.specs.declared.texts.TextPiece.{TextPiece}

-- so many blocks of frames
unfoldable pub blocks_in : ℕ → List ℕ → List (List ℕ)
blocks_in zero frames = []
blocks_in (suc n) frames = take BLOCK_FRAMES frames ∷ blocks_in n (drop BLOCK_FRAMES frames)

-- the text that ends in the block before the next one, where a text may have reached it so
abbrev pub piece_before : Stretch → ℕ → Passage → List TextPiece
piece_before stretch next (Goes seen) = []
piece_before stretch next (Ends true) = record { place = stretch.first; size = next - stretch.first } ∷ []
piece_before stretch next (Ends false) = []
piece_before stretch next Breaks = []

-- how a text may reach the next block
abbrev pub open_after : Stretch → ℕ → Passage → Stretch
open_after stretch next (Goes seen) = record { first = stretch.first; has_graphic = seen }
open_after stretch next (Ends seen) = record { first = next; has_graphic = false }
open_after stretch next Breaks = record { first = next; has_graphic = false }

-- the texts that end in these blocks, the first of which has this number
abbrev pub texts_from : Stretch → ℕ → List (List ℕ) → List TextPiece
texts_from stretch block [] = []
texts_from stretch block (frames ∷ rest) =
    piece_before stretch (suc block) (passage stretch.has_graphic frames) ++ texts_from (open_after stretch (suc block) (passage stretch.has_graphic frames)) (suc block) rest

-- those among the whole blocks of some frames
abbrev pub texts_among : List ℕ → List TextPiece
texts_among frames = texts_from (record { first = 0; has_graphic = false }) 0 (blocks_in (length frames / BLOCK_FRAMES) frames)

-- each piece lies among so many blocks
abbrev pub AreInside : ℕ → List TextPiece → Type 0
AreInside count [] = Unit {0}
AreInside count (piece ∷ pieces) = (piece.place + piece.size ≤ count) × AreInside count pieces
