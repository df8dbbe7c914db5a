-- The bits of a word.
use Rattle.std.specs.Prelude.{ℕ, Bool, ◌/◌, ◌%◌, nat_eq}

-- whether the bit that is worth this much (1, 2, 4 and so on) is set in a word
abbrev pub has : ℕ → ℕ → Bool
has word worth = nat_eq (word / worth % 2) 1
