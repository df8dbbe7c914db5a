-- What a file is taken for, and whether new bytes of it are taken for the same (this project's profile).
use Rattle.std.specs.Prelude.{ℕ, Bool, true, false, if◌then◌else◌, Option, Some, None, List}
use Rattle.image_kind.specs.Kinds.{kind_of}
use Rattle.image_kind.specs.declared.kinds.ImageKind.{ImageKind}

-- nothing is judged where a file is taken as one volume from its first byte
abbrev pub judged_kind : Bool → List ℕ → Option ImageKind
judged_kind is_plain file = if is_plain then None else kind_of file
