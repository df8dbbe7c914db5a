-- The line of an index for a file (this project's profile).
use Rattle.std.specs.Prelude.{ℕ, decimal, List, [], ◌∷◌, ◌++◌}
use Rattle.md5.specs.Md5.{md5}
use Rattle.os8_dates.specs.Spelling.{text_of_date}
use Rattle.name_spelling.specs.Spelling.{text_of}
use Rattle.volume_index.specs.declared.lines.IndexEntry.{IndexEntry}
use Rattle.shown_text.specs.Showing.{with_quotes}
use Rattle.volume_index.specs.Columns.{hexadecimal, kind_text, volume_text}

-- the columns of where a file lies, each after a tab
abbrev pub place : IndexEntry → List ℕ
place entry = 0o11 ∷ volume_text entry.volume ++ 0o11 ∷ decimal entry.first ++ 0o11 ∷ decimal entry.length

-- the columns of what it is, each after a tab: its name, its date and its kind
abbrev pub content : IndexEntry → ℕ → List ℕ
content entry last = 0o11 ∷ text_of entry.name ++ 0o11 ∷ text_of_date last entry.date ++ 0o11 ∷ kind_text entry.kind

-- the column of the MD5 digest of bytes (RFC 1321) after a tab, and the end of the line
abbrev pub digest : List ℕ → List ℕ
digest words = 0o11 ∷ hexadecimal (md5 words) ++ 0o12 ∷ []

-- the image, where the file lies, what it is, and the digest of its words' bytes
abbrev pub index_line : List ℕ → IndexEntry → ℕ → List ℕ → List ℕ
index_line image entry last words = with_quotes image ++ place entry ++ content entry last ++ digest words
