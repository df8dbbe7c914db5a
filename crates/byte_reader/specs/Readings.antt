-- What is known of a reader that a command was lent.
use Rattle.std.specs.Prelude.{ℕ, Option, List}

-- the bytes that it had left before, those that it has left after, where they are known, and that it has failed
pub record Reading : Type 1 where
  pub before : Option (List ℕ)
  pub after : Option (List ℕ)
  pub has_failed : Type 0

abbrev pub reading : {R : Type 0} → (R → Option (List ℕ)) → (R → Type 0) → R → R → Reading
reading remaining has_failed old new = record { before = remaining old; after = remaining new; has_failed = has_failed new }
