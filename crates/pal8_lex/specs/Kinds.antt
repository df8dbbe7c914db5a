-- How tokens stand to those beside them (PAL8, in this project's profile).
use Rattle.std.specs.Prelude.{ℕ, nat_eq, Bool, true, false, if◌then◌else◌, codes}
use Rattle.word12.specs.Sixbit.{name_number}
use Rattle.pal8_lex.specs.declared.tokens.Kind.{Kind}
use Rattle.pal8_lex.specs.declared.tokens.Kind.TheVariants.{Name, Number, Character, Here, Operator, Equals, Comma, Star, Opening, Closing, String, Bad}
use Rattle.pal8_lex.specs.declared.rules.Head.{Head}
use Rattle.pal8_lex.specs.declared.rules.Head.TheVariants.{Empty, One, Text, Listing, More}

-- a blank after a sign or an opening means nothing
abbrev pub takes_blank_after : Kind → Bool
takes_blank_after (Name name) = true
takes_blank_after (Number n) = true
takes_blank_after (Character c) = true
takes_blank_after Here = true
takes_blank_after (Operator sign) = false
takes_blank_after Equals = false
takes_blank_after Comma = false
takes_blank_after Star = false
takes_blank_after (Opening pool) = false
takes_blank_after (Closing pool) = true
takes_blank_after String = true
takes_blank_after Bad = true

-- a blank before a sign or a closing means nothing
abbrev pub takes_blank_before : Kind → Bool
takes_blank_before (Name name) = true
takes_blank_before (Number n) = true
takes_blank_before (Character c) = true
takes_blank_before Here = true
takes_blank_before (Operator sign) = false
takes_blank_before Equals = false
takes_blank_before Comma = false
takes_blank_before Star = false
takes_blank_before (Opening pool) = true
takes_blank_before (Closing pool) = false
takes_blank_before String = true
takes_blank_before Bad = true

abbrev pub is_comma : Kind → Bool
is_comma (Name name) = false
is_comma (Number n) = false
is_comma (Character c) = false
is_comma Here = false
is_comma (Operator sign) = false
is_comma Equals = false
is_comma Comma = true
is_comma Star = false
is_comma (Opening pool) = false
is_comma (Closing pool) = false
is_comma String = false
is_comma Bad = false

abbrev pub head_of_name : ℕ → Head
head_of_name name =
    if nat_eq name (name_number (codes "TEXT")) then Text
    else (if nat_eq name (name_number (codes "EJECT")) then Listing
    else (if nat_eq name (name_number (codes "XLIST")) then Listing
    else One))

-- what stands after the tags, where it is this token alone
abbrev pub head_of_one : Kind → Head
head_of_one (Name name) = head_of_name name
head_of_one (Number n) = One
head_of_one (Character c) = One
head_of_one Here = One
head_of_one (Operator sign) = One
head_of_one Equals = One
head_of_one Comma = One
head_of_one Star = One
head_of_one (Opening pool) = One
head_of_one (Closing pool) = One
head_of_one String = One
head_of_one Bad = One

-- A token more: a `,` after a single one makes a tag of it.
abbrev pub head_with : Kind → Head → Head
head_with kind Empty = head_of_one kind
head_with kind One = if is_comma kind then Empty else More
head_with kind Text = if is_comma kind then Empty else More
head_with kind Listing = if is_comma kind then Empty else More
head_with kind More = More
