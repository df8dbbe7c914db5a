-- What the blocks of a volume hold by their content alone (this project's profile).
use Rattle.std.specs.Prelude.{◌≡◌, ℕ, ◌*◌, ◌/◌, ◌%◌, ◌&&◌, nat_le, Bool, if◌then◌else◌, codes, decimal, Result, Ok, Err, List, [], ◌∷◌, ◌++◌, length, map, take, drop}
use Rattle.char_pack.specs.Packing.{frames}
use Rattle.char_pack.specs.declared.packing.TheConstants.{BLOCK_FRAMES}
use Rattle.archive_files.specs.declared.forms.GetForm.{GetForm}
use Rattle.archive_files.specs.declared.forms.GetForm.TheVariants as form
use Rattle.file_kind.specs.Texts.{is_graphic}
use Rattle.block_scan.specs.Pieces.{texts_among}
use Rattle.block_scan.specs.Programs.{AreProgramsOf}
use Rattle.block_scan.specs.Segments.{segments_among}
use Rattle.block_scan.specs.declared.kinds.ProgramKind.{ProgramKind}
use Rattle.block_scan.specs.declared.kinds.ProgramKind.TheVariants as program
use Rattle.block_scan.specs.declared.programs.Program.{Program}
use Rattle.block_scan.specs.declared.segments.Segment.{Segment as Found}
use Rattle.block_scan.specs.declared.texts.TextPiece.{TextPiece}
use Rattle.volume_image.specs.Image.{IsImageOf}
use Rattle.os8_dir.specs.Files.{run}
use Rattle.archive_files.specs.declared.faults.ArchiveFault.{ArchiveFault}
use Rattle.volume_salvage.specs.Salvaging.{IsNoImage}
use Rattle.volume_salvage.specs.declared.pieces.Piece.{Piece}
use Rattle.volume_salvage.specs.declared.pieces.PieceKind.{PieceKind}
use Rattle.volume_salvage.specs.declared.pieces.PieceKind.TheVariants.{Text, Core, Bin, Rim, Segment}
use Rattle.volume_salvage.specs.declared.scans.Scan.{Scan}
use Rattle.volume_salvage.specs.declared.scan_lines.TheConstants.{MOST_SHOWN}

-- a character that is seen, or a blank
abbrev pub is_shown : ℕ → Bool
is_shown character = nat_le 0o40 character && nat_le character 0o176

-- the frames from the first with a graphic character
abbrev pub from_graphic : List ℕ → List ℕ
from_graphic [] = []
from_graphic (frame ∷ others) = if is_graphic (frame % 0o200) then frame ∷ others else from_graphic others

-- the characters up to one that is neither graphic nor a blank
abbrev pub characters_in : List ℕ → List ℕ
characters_in [] = []
characters_in (frame ∷ others) = if is_shown (frame % 0o200) then (frame % 0o200) ∷ characters_in others else []

-- what a line begins with
abbrev pub first_line : List ℕ → List ℕ
first_line all = characters_in (take MOST_SHOWN all)

-- ## Pieces

abbrev pub piece_of_text : TextPiece → Piece
piece_of_text text = record { kind = Text; place = text.place; size = text.size }

abbrev pub piece_kind : ProgramKind → PieceKind
piece_kind program.Core = Core
piece_kind program.Bin = Bin
piece_kind program.Rim = Rim

abbrev pub piece_of_program : Program → Piece
piece_of_program program = record { kind = piece_kind program.kind; place = program.place; size = program.size }

abbrev pub piece_of_segment : Found → Piece
piece_of_segment segment = record { kind = Segment; place = segment.place; size = 1 }

-- the whole texts, then the programs, and then the segments
abbrev pub pieces_of : List TextPiece → List Program → List Found → List Piece
pieces_of texts programs segments = (map piece_of_text texts ++ map piece_of_program programs) ++ map piece_of_segment segments

-- what the blocks of a volume hold: its frames, its whole texts, its programs, and segments of directories
pub record IsScan (blocks : List (List ℕ)) (scan : Scan) : Type 0 where
  pub programs : List Program
  pub are : AreProgramsOf (run blocks 0 (length blocks)) programs
  pub frames_are : scan.frames.items ≡ frames (run blocks 0 (length blocks))
  pub pieces_are : scan.pieces.items ≡ pieces_of (texts_among scan.frames.items) programs (segments_among blocks)

pub record IsScanOf (image : List ℕ) (scan : Scan) : Type 0 where
  pub blocks : List (List ℕ)
  pub is_image : IsImageOf image blocks
  pub is_scan : IsScan blocks scan

-- ## Their lines

abbrev pub kind_text : PieceKind → List ℕ
kind_text Text = codes "TEXT"
kind_text Core = codes "CORE"
kind_text Bin = codes "BIN"
kind_text Rim = codes "RIM"
kind_text Segment = codes "DIR"

-- of a text what its first line begins with, after a blank
abbrev pub detail : List ℕ → Piece → PieceKind → List ℕ
detail all piece Text = 0o40 ∷ first_line (from_graphic (drop (BLOCK_FRAMES * piece.place) all))
detail all piece Core = []
detail all piece Bin = []
detail all piece Rim = []
detail all piece Segment = []

-- what a piece is, its first block, and how many it has
abbrev pub piece_head : Piece → List ℕ
piece_head piece = kind_text piece.kind ++ 0o40 ∷ decimal piece.place ++ 0o40 ∷ decimal piece.size

abbrev pub piece_line : List ℕ → Piece → List ℕ
piece_line all piece = (piece_head piece ++ detail all piece piece.kind) ++ 0o12 ∷ []

abbrev pub piece_lines : List ℕ → List Piece → List ℕ
piece_lines all [] = []
piece_lines all (piece ∷ pieces) = piece_line all piece ++ piece_lines all pieces

abbrev pub scan_text : Scan → List ℕ
scan_text scan = piece_lines scan.frames.items scan.pieces.items

-- ## Their files

abbrev pub extension : PieceKind → List ℕ
extension Text = codes "txt"
extension Core = codes "core"
extension Bin = codes "bin"
extension Rim = codes "rim"
extension Segment = codes "dir"

-- the name of a piece's file of the host: the four digits of its block, and what it is
abbrev pub piece_name : Piece → List ℕ
piece_name piece =
    codes "block-" ++ (decimal (piece.place / 1000 % 10) ++ (decimal (piece.place / 100 % 10) ++ (decimal (piece.place / 10 % 10) ++ (decimal (piece.place % 10) ++ (codes "." ++ extension piece.kind)))))

-- a text is given as it reads, and the rest as its frames
abbrev pub piece_form : PieceKind → GetForm
piece_form Text = form.Text
piece_form Core = form.Frames
piece_form Bin = form.Frames
piece_form Rim = form.Frames
piece_form Segment = form.Frames

-- what is answered where an image is to be scanned: bytes that are none are refused
abbrev pub Scans : List ℕ → Result Scan ArchiveFault → Type 0
Scans image (Ok scan) = IsScanOf image scan
Scans image (Err fault) = IsNoImage image fault
