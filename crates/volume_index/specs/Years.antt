-- Which eight years the date words of a volume mean (OS/8 Software Support Manual; the choice is this project's profile).
use Rattle.std.specs.Prelude.{ℕ, nat_le, ◌&&◌, if◌then◌else◌, Option, Some, None, List}
use Rattle.os8_dates.specs.Dates.{last_year}
use Rattle.os8_dates.specs.declared.years.TheConstants.{LAST_YEAR, LEAST_LAST}
use Rattle.volume_image.specs.Image.{block_word}

-- the last of them: the year that is given, or else that of the word at 07777, which a system disk has as the last word of its block 0
abbrev pub last_of : Option ℕ → ℕ → ℕ
last_of None word = last_year word
last_of (Some year) word = if nat_le LEAST_LAST year && nat_le year LAST_YEAR then year else last_year word

abbrev pub last_in : Option ℕ → List (List ℕ) → ℕ
last_in year blocks = last_of year (block_word blocks 0 0o377)
