-- The words with which the first segment of a directory begins (OS/8 Software Support Manual).
use Rattle.std.specs.Prelude.{ℕ, ◌+◌, ◌-◌, ◌*◌, ◌%◌, nat_le, Bool, ◌&&◌, List, length, slice_index}

-- the low twelve bits of the word that begins with a byte
abbrev pub twelve_bits : List ℕ → ℕ → ℕ
twelve_bits bytes at = (slice_index bytes at + 0o400 * slice_index bytes (at + 1)) % 0o10000

-- minus a word
abbrev pub minus : ℕ → ℕ
minus word = (0o10000 - word) % 0o10000

-- At most 125 entries, and the first block of files from 7 up to the number of blocks. The next segment in one of the blocks 1 to 6, or
-- none, and at most 10 information words.
abbrev pub is_head : List ℕ → ℕ → ℕ → Bool
is_head bytes at blocks =
    nat_le (at + 10) (length bytes)
    && (nat_le (minus (twelve_bits bytes at)) 125
    && (nat_le 7 (twelve_bits bytes (at + 2))
    && (nat_le (twelve_bits bytes (at + 2)) blocks
    && (nat_le (twelve_bits bytes (at + 4)) 6
    && nat_le (minus (twelve_bits bytes (at + 8))) 10))))
