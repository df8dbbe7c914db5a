-- A file whose volumes get other bytes, while those before and after them stay (this project's profile).
use Rattle.std.specs.Prelude.{◌≡◌, ◌≢◌, ◌++◌, ℕ, Bool, true, false, List, length, take}
use Rattle.image_kind.specs.Margins.{after_by, body_by}
use Rattle.image_kind.specs.declared.margins.Margins.{Margins}

-- the bytes before the volumes of a file, those of the volumes, and those after them
pub record Parts : Type 0 where
  pub before : List ℕ
  pub body : List ℕ
  pub after : List ℕ

-- those of a file with these margins
abbrev pub parts_by : Margins → List ℕ → Parts
parts_by margins file = record { before = take margins.before file; body = body_by margins file; after = after_by margins file }

-- the whole file
abbrev pub file_of : Parts → List ℕ
file_of parts = parts.before ++ parts.body ++ parts.after

-- the file with other bytes of the volumes, as many as it had
pub record HasBody (old : Parts) (body : List ℕ) (new : Parts) : Type 0 where
  pub size : length body ≡ length old.body
  pub before : new.before ≡ old.before
  pub is : new.body ≡ body
  pub after : new.after ≡ old.after

-- what is answered where bytes are to be those of the volumes: of another number of them the file stays as it is
abbrev pub TakesBody : Parts → List ℕ → Bool → Parts → Type 0
TakesBody old body true new = HasBody old body new
TakesBody old body false new = (length body ≢ length old.body) × (new ≡ old)
