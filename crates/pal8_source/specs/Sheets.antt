-- What a source shows of a tape.
use Rattle.std.specs.Prelude.{ℕ, Bool, ◌&&◌, not, Option, is_some}
use Rattle.tape_source.specs.Looks.{Look}

-- The words of a tape, and which cells are a pool's. How the others look, which of these are tagged, and whether a start is given.
pub record Sheet : Type 0 where
  pub words : ℕ → Option ℕ
  pub is_pooled : ℕ → Bool
  pub look : Look
  pub is_tagged : ℕ → Bool
  pub has_starts : Bool

-- a word that isn't reached from a start, has no tag and is no pool's
abbrev pub is_datum : Sheet → ℕ → Bool
is_datum s cell = s.has_starts && (is_some (s.words cell) && (not (s.look.is_code cell) && (not (s.is_tagged cell) && not (s.is_pooled cell))))
