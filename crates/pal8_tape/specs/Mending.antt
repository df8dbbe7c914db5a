-- The text in which a statement that has a fault is harmless (this project's profile of PAL8).
use Rattle.std.specs.Prelude.{ℕ, ◌-◌, Bool, false, ◌&&◌, ◌||◌, if◌then◌else◌, Option, Some, None, codes, take, drop, replicate, List, [], ◌∷◌, ◌++◌}
use Rattle.pal_lex.specs.Text.{text_of}
use Rattle.pal8_lex.specs.Kinds.{is_comma}
use Rattle.pal8_lex.specs.declared.tokens.Token.{Token}
use Rattle.pal8_lex.specs.declared.rules.End.{End}
use Rattle.pal8_grammar.specs.Permanent.{is_reserved}
use Rattle.pal8_grammar.specs.Bodies.{body_in, free_name, is_equals, name_of, opens}
use Rattle.pal8_asm.specs.Sources.{Source, statements}
use Rattle.source_places.specs.Spelling.{spelling}
use Rattle.pal8_tape.specs.Marks.{begins}

abbrev pub tag_text : Option ℕ → List ℕ
tag_text None = []
tag_text (Some name) = spelling name ++ codes ","

-- the tags in front that are free names, each by its first six characters
abbrev pub free_tags : List Token → List ℕ
free_tags [] = []
free_tags (t ∷ []) = []
free_tags (t ∷ next ∷ others) = if is_comma next.kind then tag_text (free_name t.kind) ++ free_tags others else []

-- an `=` comes second
abbrev pub is_definition : List Token → Bool
is_definition [] = false
is_definition (t ∷ []) = false
is_definition (t ∷ next ∷ others) = is_equals next.kind

-- The tags that are free names, and the word 0. A definition in a text whose places and names have no fault is its tags alone.
abbrev pub harmless_statement : Bool → List Token → List ℕ
harmless_statement is_passed tokens = free_tags tokens ++ (if is_passed && is_definition (body_in tokens) then [] else codes "0")

-- so many bytes: a text, and then blanks
abbrev pub with_blanks : ℕ → List ℕ → List ℕ
with_blanks count text = take count (text ++ replicate count 0o40)

-- a text with another one, and then blanks, for its bytes from one place up to another
abbrev pub with_part : ℕ → ℕ → List ℕ → List ℕ → List ℕ
with_part start end part text = take start text ++ with_blanks (end - start) part ++ drop end text

abbrev pub is_reserved_name : Option ℕ → Bool
is_reserved_name None = false
is_reserved_name (Some name) = is_reserved name

-- a reserved name comes first
abbrev pub begins_reserved : List Token → Bool
begins_reserved [] = false
begins_reserved (t ∷ others) = is_reserved_name (name_of t.kind)

-- What the statement says may concern those after it: it opens a bracket, or a reserved name begins its body.
abbrev pub is_far_reaching : List Token → End → Bool
is_far_reaching tokens end = opens end || begins_reserved (body_in tokens)

-- A text in which its statement that begins and ends at these places, with these tokens, is harmless. There is none where the statement may concern
-- those after it.
abbrev pub harmless_by : Bool → List ℕ → ℕ → ℕ → List Token → End → Option (List ℕ)
harmless_by is_passed text start at tokens end =
    if is_far_reaching tokens end then None else Some (with_part start at (harmless_statement is_passed tokens) text)

abbrev pub harmless_in : Bool → List ℕ → ℕ → Source → Option (List ℕ)
harmless_in is_passed text start [] = None
harmless_in is_passed text start (s ∷ older) =
    if begins start s.tokens then harmless_by is_passed text start s.at s.tokens s.end else harmless_in is_passed text start older

-- the text in which its statement that begins at a place is harmless
abbrev pub harmless : Bool → ℕ → List ℕ → Option (List ℕ)
harmless is_passed start text = harmless_in is_passed text start (statements (text_of text))
