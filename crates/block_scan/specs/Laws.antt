-- What holds of the texts, of the programs and of the segments of directories that are found.
use Rattle.std.specs.Prelude.{◌≡◌, ◌⊎◌, ℕ, ◌+◌, ◌/◌, ◌<◌, ◌≤◌, Bool, true, false, Some, Ok, slice_get, List, [], ◌∷◌, ◌++◌, length, take, drop}
use Rattle.os8_dir.specs.Entries.{DirectoryState}
use Rattle.os8_dir.specs.Files.{join_blocks}
use Rattle.file_kind.specs.Texts.{is_text}
use Rattle.word12.specs.declared.sizes.TheConstants.{BLOCK}
use Rattle.block_scan.specs.Passages.{passage}
use Rattle.block_scan.specs.Programs.{AreProgramsOf, Heads, frames_from, is_blank, words_from}
use Rattle.block_scan.specs.Pieces.{texts_from}
use Rattle.block_scan.specs.declared.passages.Passage.TheVariants.{Goes, Ends}
use Rattle.block_scan.specs.Segments.{first_file, may_be_segment, segment_alone, segments_among}
use Rattle.block_scan.specs.declared.kinds.ProgramKind.{ProgramKind}
use Rattle.block_scan.specs.declared.programs.Program.{Program}
use Rattle.block_scan.specs.declared.segments.Segment.{Segment}
use Rattle.block_scan.specs.declared.texts.TextPiece.{TextPiece}

-- frames among which a text ends are a text
abbrev pub PassageIsText : Type 0
PassageIsText = (frames : List ℕ) → passage false frames ≡ Ends true → is_text frames ≡ true

-- a piece lies in these blocks, and is a text
pub record IsPiece (blocks : List (List ℕ)) (piece : TextPiece) : Type 0 where
  pub inside : piece.place + piece.size ≤ length blocks
  pub text : is_text (join_blocks (take piece.size (drop piece.place blocks))) ≡ true

abbrev pub ArePieces : List (List ℕ) → List TextPiece → Type 0
ArePieces blocks [] = Unit {0}
ArePieces blocks (piece ∷ pieces) = IsPiece blocks piece × ArePieces blocks pieces

abbrev pub EachPieceIsText : Type 0
EachPieceIsText = (blocks : List (List ℕ)) → ArePieces blocks (texts_from (record { first = 0; has_graphic = false }) 0 blocks)

-- after the blocks before it a text ends in the last of these
abbrev pub IsWhole : Bool → List (List ℕ) → Type 0
IsWhole seen [] = ⊥
IsWhole seen (frames ∷ []) = passage seen frames ≡ Ends true
IsWhole seen (frames ∷ more ∷ rest) = (now : Bool) × (passage seen frames ≡ Goes now) × IsWhole now (more ∷ rest)

-- one of the pieces ends there, and begins at a block or before it
abbrev pub Covers : List TextPiece → ℕ → ℕ → Type 0
Covers [] place end = ⊥
Covers (piece ∷ pieces) place end = ((piece.place ≤ place) × (piece.place + piece.size ≡ end)) ⊎ Covers pieces place end

-- each whole text that begins at a block, and whose blocks follow one another, is found
abbrev pub EachTextIsFound : Type 0
EachTextIsFound = (before text following : List (List ℕ)) → IsWhole false text
    → Covers (texts_from (record { first = 0; has_graphic = false }) 0 (before ++ (text ++ following))) (length before) (length before + length text)

-- where so many blocks at the head are a program, any more are one of the same kind
abbrev pub EachProgramGoesOn : Type 0
EachProgramGoesOn = (kind : ProgramKind) (words all : List ℕ) (few many : ℕ) → few ≤ many → Heads kind words all few → Heads kind words all many

-- each program is one at the block that is given for it
abbrev pub ArePrograms : List ℕ → List Program → Type 0
ArePrograms words [] = Unit {0}
ArePrograms words (program ∷ programs) =
    Heads program.kind (words_from words program.place) (frames_from words program.place) program.size × ArePrograms words programs

-- one of the programs has this block
abbrev pub HasBlock : List Program → ℕ → Type 0
HasBlock [] place = ⊥
HasBlock (program ∷ programs) place = ((program.place ≤ place) × (place < program.place + program.size)) ⊎ HasBlock programs place

-- what is listed as the programs of a volume is there: each can be read as one
abbrev pub EachProgramIsOne : Type 0
EachProgramIsOne = (words : List ℕ) (programs : List Program) → AreProgramsOf words programs → ArePrograms words programs

-- each whole program that begins at a block, with more than leader there, and lies in one piece, begins with one that is listed, or inside it
abbrev pub EachProgramIsFound : Type 0
EachProgramIsFound = (words : List ℕ) (programs : List Program) (kind : ProgramKind) (place size : ℕ) → AreProgramsOf words programs
    → place + size ≤ length words / BLOCK → 0 < size → is_blank (frames_from words place) ≡ false
    → Heads kind (words_from words place) (frames_from words place) size → HasBlock programs place

-- a block after those of the directory can be read as a segment of one of this volume, and its first file has this name
pub record IsSegment (blocks : List (List ℕ)) (segment : Segment) : Type 0 where
  pub words : List ℕ
  pub there : slice_get blocks segment.place ≡ Some words
  pub may_be : may_be_segment segment.place words ≡ true
  pub directory : DirectoryState
  pub read : segment_alone (length blocks) words ≡ Ok directory
  pub named : first_file directory.entries ≡ Some segment.name

abbrev pub AreSegments : List (List ℕ) → List Segment → Type 0
AreSegments blocks [] = Unit {0}
AreSegments blocks (segment ∷ segments) = IsSegment blocks segment × AreSegments blocks segments

-- this is one of the segments
abbrev pub HasSegment : List Segment → Segment → Type 0
HasSegment [] segment = ⊥
HasSegment (first ∷ segments) segment = (first ≡ segment) ⊎ HasSegment segments segment

-- what is listed as a segment can be read as one
abbrev pub EachSegmentIsOne : Type 0
EachSegmentIsOne = (blocks : List (List ℕ)) → AreSegments blocks (segments_among blocks)

-- what can be read as a segment is listed
abbrev pub EachSegmentIsFound : Type 0
EachSegmentIsFound = (blocks : List (List ℕ)) (segment : Segment) → IsSegment blocks segment → HasSegment (segments_among blocks) segment
