-- The line of a transfer's end (this project's profile).
use Rattle.std.specs.Prelude.{ℕ, nat_eq, Bool, if◌then◌else◌, List, [], ◌∷◌, ◌++◌, codes, Option, None, Some}
use Rattle.word12.specs.Octal.{octal5, octal_digit}
use Rattle.rk8e.specs.declared.moves.Moved.{Moved}
use Rattle.rk8e.specs.declared.sizes.TheConstants.{SECTOR}

-- which way a transfer moved its words, and how many
abbrev pub way_text : Bool → List ℕ
way_text is_write = if is_write then codes " write " else codes " read "

abbrev pub words_text : ℕ → List ℕ
words_text words = if nat_eq words SECTOR then codes " 256" else codes " 128"

-- drive, way, sector and first cell, both in octal, and how many words
abbrev pub transfer_line : Moved → List ℕ
transfer_line m = codes "RK " ++ octal_digit m.drive ∷ way_text m.is_write ++ octal5 m.sector ++ 0o40 ∷ octal5 m.cell ++ words_text m.words ++ 10 ∷ []

-- if one ended
abbrev pub moved_text : Option Moved → List ℕ
moved_text None = []
moved_text (Some moved) = transfer_line moved
