-- What holds of the names that have a meaning of their own.
use Rattle.std.specs.Prelude.{◌≡◌, ℕ, false, Some, List, [], ◌∷◌}
use Rattle.pal_sym.specs.Permanent.{permanent_names}
use Rattle.pal8_grammar.specs.Permanent.{is_reserved, permanent, soft_names, standing_of}
use Rattle.pal8_grammar.specs.declared.permanent_names.Standing.{Standing}
use Rattle.pal8_grammar.specs.declared.permanent_names.Standing.TheVariants.{Soft}

-- each name of a list has its value and this standing, and isn't reserved
abbrev pub StandFor : (ℕ → Standing) → List (ℕ × ℕ) → Type 0
StandFor standing [] = Unit {0}
StandFor standing (entry ∷ others) =
    (permanent entry.0 ≡ Some record { value = entry.1; standing = standing entry.0 }) × (is_reserved entry.0 ≡ false) × StandFor standing others

-- The permanent names of PAL III have their values here too, and none gives way to a definition.
abbrev pub OldNamesStand : Type 0
OldNamesStand = StandFor standing_of permanent_names

-- The soft names have their values: none is one of PAL III's.
abbrev pub SoftNamesStand : Type 0
SoftNamesStand = StandFor (λ name. Soft) soft_names
