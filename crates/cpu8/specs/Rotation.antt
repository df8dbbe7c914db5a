-- L and AC as thirteen bits, and their rotation.
use Rattle.std.specs.Prelude.{ℕ, zero, suc, ◌+◌, ◌*◌, ◌/◌, ◌%◌, ◌^◌, List, [], ◌∷◌, ◌++◌, take, drop}

-- so many last bits of a number, the most significant first
abbrev pub bits : ℕ → ℕ → List ℕ
bits zero n = []
bits (suc k) n = n / 2 ^ k % 2 ∷ bits k n

-- L and AC, 0o10000 times L plus AC, as a list of thirteen bits, L first
unfoldable pub thirteen_bits : ℕ → List ℕ
thirteen_bits n = bits 13 n

-- the number that a list of bits spells after those of a number before them
abbrev pub number_after : ℕ → List ℕ → ℕ
number_after n [] = n
number_after n (b ∷ bs) = number_after (2 * n + b) bs

abbrev pub number_of : List ℕ → ℕ
number_of bs = number_after 0 bs

-- each bit goes one place to the left, the first to the end
abbrev pub rotation_left : List ℕ → List ℕ
rotation_left bs = drop 1 bs ++ take 1 bs

-- each of thirteen bits goes one place to the right, the last to the left end
abbrev pub rotated_right : List ℕ → List ℕ
rotated_right bs = drop 12 bs ++ take 12 bs
