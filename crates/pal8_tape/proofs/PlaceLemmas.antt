-- The column after a text.
use Rattle.std.proofs.Common.{◌≡◌, ℕ, ◌+◌, ◌≤◌, ◌<◌, nat_eq, Bool, true, false, if◌then◌else◌, length, take, get_or, List, ap, arith}
use Rattle.pal_lex.specs.Text.{text_of}
use Rattle.source_places.proofs.PlaceLemmas.{next_byte}
use Rattle.pal8_tape.specs.Places.{column_after, column_with}

pub column_more : (bytes : List ℕ) (n b : ℕ) → n < length bytes → b ≡ get_or bytes n 0
    → column_after (text_of (take (n + 1) bytes)) ≡ column_with b (column_after (text_of (take n bytes)))
column_more bytes n b inside is = ap column_after (next_byte bytes n b inside is)

bound_by : (line cr : Bool) (column n : ℕ) → column ≤ n + 1 → (if line then 1 else (if cr then column else column + 1)) ≤ n + 1 + 1
bound_by true cr column n bound = omega arith
bound_by false true column n bound = omega (arith, bound)
bound_by false false column n bound = omega (arith, bound)

pub column_bound : (b column n : ℕ) → column ≤ n + 1 → column_with b column ≤ n + 1 + 1
column_bound b column n bound = bound_by (nat_eq b 0o12) (nat_eq b 0o15) column n bound
