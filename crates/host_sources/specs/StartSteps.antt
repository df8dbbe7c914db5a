-- What the small steps of the search for a start do, for private clauses.
use Rattle.std.specs.Prelude.{ℕ, nat_eq, Bool, true, false, if◌then◌else◌, Option, Some, None}
use Rattle.std.specs.Option.{option_or}
use Rattle.pal_lex.specs.Text.{is_end}
use Rattle.pal_lex.specs.Cutting.{is_space}

-- the first byte of a statement that is no blank, with one byte more, which is dead or not
abbrev pub start_by : Option ℕ → Bool → ℕ → ℕ → Option ℕ
start_by start dead b place = if dead then start else (if is_end b then None else option_or start (if is_space b then None else Some place))

-- a comment goes on after a byte
abbrev pub comment_by : ℕ → Bool → Bool
comment_by b comment = if nat_eq b 0o15 then false else (if nat_eq b 0o57 then true else comment)
