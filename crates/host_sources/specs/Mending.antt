-- The text whose statement with the fault is made harmless (this project's profile of PAL III).
use Rattle.std.specs.Prelude.{ℕ, nat_eq, nat_lt, nat_le, Bool, false, ◌||◌, if◌then◌else◌, Option, Some, None, is_some, length, List, [], ◌∷◌}
use Rattle.std.specs.Option.{option_or}
use Rattle.pal_lex.specs.Text.{is_dead, is_end, stretch}
use Rattle.pal_lex.specs.Cutting.{pieces}
use Rattle.host_sources.specs.Starts.{start_of}
use Rattle.host_sources.specs.Runs.{first_run, sets_reading}
use Rattle.host_sources.specs.Places.{shortest, is_refused}

-- the statement that the newest byte of a text ends has a word that says how what follows is read
abbrev pub turns : List ℕ → Bool
turns [] = false
turns (b ∷ older) = is_some (first_run sets_reading (pieces (stretch older)))

-- a text up to the first live `,` of the statement that goes on
abbrev pub up_to_comma : List ℕ → Option (List ℕ)
up_to_comma [] = None
up_to_comma (b ∷ older) =
    if is_dead older b then up_to_comma older
    else (if is_end b then None else option_or (up_to_comma older) (if nat_eq b 0o54 then Some (b ∷ older) else None))

-- the place after this beginning of a statement, if it is a tag without fault, else where the statement begins
abbrev pub after_tag : Option (List ℕ) → ℕ → ℕ
after_tag None start = start
after_tag (Some tag) start = if is_refused (0o73 ∷ tag) then start else length tag

-- where the statement that the newest byte of a text ends goes on after its first tag, and where it ends
abbrev pub body_place : List ℕ → ℕ
body_place [] = 0
body_place (b ∷ older) = after_tag (up_to_comma older) (start_of older)

abbrev pub end_place : List ℕ → ℕ
end_place [] = 0
end_place (b ∷ older) = length older

-- a text with `0` and then blanks for the bytes from a place up to another one
abbrev pub with_erasure : ℕ → ℕ → List ℕ → List ℕ
with_erasure from end [] = []
with_erasure from end (b ∷ older) =
    (if nat_lt (length older) from || nat_le end (length older) then b else (if nat_eq (length older) from then 0o60 else 0o40)) ∷ with_erasure from end older

-- A text whose first statement with a fault is read as its first tag, if that has no fault itself, and the word 0. It has as many bytes, and
-- the same lines.
abbrev pub harmless : List ℕ → List ℕ
harmless text = with_erasure (body_place (shortest is_refused text)) (end_place (shortest is_refused text)) text
