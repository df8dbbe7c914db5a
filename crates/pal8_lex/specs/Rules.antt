-- What a byte of a statement does, by what it stands after (PAL8, in this project's profile).
use Rattle.std.specs.Prelude.{ℕ, ◌+◌, nat_eq, nat_lt, nat_le, Bool, ◌&&◌, ◌||◌, if◌then◌else◌}
use Rattle.word12.specs.Sixbit.{is_letter, is_digit}
use Rattle.pal8_lex.specs.declared.tokens.Kind.{Kind}
use Rattle.pal8_lex.specs.declared.tokens.Kind.TheVariants as kind
use Rattle.pal8_lex.specs.declared.tokens.Operator.TheVariants as sign
use Rattle.pal8_lex.specs.declared.tokens.Pool.TheVariants as pool
use Rattle.pal8_lex.specs.declared.rules.End.{End}
use Rattle.pal8_lex.specs.declared.rules.End.TheVariants as end
use Rattle.pal8_lex.specs.declared.rules.Open.{Open}
use Rattle.pal8_lex.specs.declared.rules.Open.TheVariants as following
use Rattle.pal8_lex.specs.declared.rules.Head.{Head}
use Rattle.pal8_lex.specs.declared.rules.Head.TheVariants as heads
use Rattle.pal8_lex.specs.declared.rules.Shape.{Shape}
use Rattle.pal8_lex.specs.declared.rules.Shape.TheVariants as shape
use Rattle.pal8_lex.specs.declared.rules.Effect.{Effect}
use Rattle.pal8_lex.specs.declared.rules.Effect.TheVariants as effect

abbrev pub is_letter_or_digit : ℕ → Bool
is_letter_or_digit b = is_letter b || (nat_le 0o141 b && nat_le b 0o172) || is_digit b

-- blank and tab
abbrev pub is_space : ℕ → Bool
is_space b = nat_eq b 0o40 || nat_eq b 0o11

-- `;`, CR, `<`, `>` and `$`
abbrev pub is_end : ℕ → Bool
is_end b = nat_eq b 0o73 || nat_eq b 0o15 || nat_eq b 0o74 || nat_eq b 0o76 || nat_eq b 0o44

-- after TEXT alone each byte but CR is no end
abbrev pub ends_after : Head → ℕ → Bool
ends_after heads.Empty b = is_end b
ends_after heads.One b = is_end b
ends_after heads.Text b = nat_eq b 0o15
ends_after heads.Listing b = is_end b
ends_after heads.More b = is_end b

-- CR ends each statement. In a comment, after `"` and in a string nothing else does; in a title `;` does.
abbrev pub ends_by : Open → Head → ℕ → Bool
ends_by following.Start head b = ends_after head b
ends_by following.Blank head b = ends_after head b
ends_by (following.Run weight) head b = ends_after head b
ends_by following.Term head b = ends_after head b
ends_by following.Quote head b = nat_eq b 0o15
ends_by (following.String delimiter) head b = nat_eq b 0o15
ends_by following.Comment head b = nat_eq b 0o15
ends_by following.Title head b = nat_eq b 0o15 || nat_eq b 0o73

abbrev pub end_of : ℕ → End
end_of b =
    if nat_eq b 0o15 then end.Line
    else (if nat_eq b 0o73 then end.Semicolon
    else (if nat_eq b 0o74 then end.Open
    else (if nat_eq b 0o76 then end.Close
    else end.Dollar)))

-- the token that a byte is by itself
abbrev pub mark_of : ℕ → Kind
mark_of b =
    if nat_eq b 0o56 then kind.Here
    else (if nat_eq b 0o53 then kind.Operator sign.Plus
    else (if nat_eq b 0o55 then kind.Operator sign.Minus
    else (if nat_eq b 0o41 then kind.Operator sign.Or
    else (if nat_eq b 0o46 then kind.Operator sign.And
    else (if nat_eq b 0o136 then kind.Operator sign.Times
    else (if nat_eq b 0o45 then kind.Operator sign.Divide
    else (if nat_eq b 0o75 then kind.Equals
    else (if nat_eq b 0o54 then kind.Comma
    else (if nat_eq b 0o52 then kind.Star
    else (if nat_eq b 0o50 then kind.Opening pool.Own
    else (if nat_eq b 0o133 then kind.Opening pool.Zero
    else (if nat_eq b 0o51 then kind.Closing pool.Own
    else (if nat_eq b 0o135 then kind.Closing pool.Zero
    else kind.Bad)))))))))))))

-- the piece that a byte begins, where it is a delimiter neither of a string nor of a title
abbrev pub shape_of_byte : ℕ → Shape
shape_of_byte b =
    if is_letter_or_digit b then shape.Run
    else (if nat_eq b 0o40 then shape.Blank
    else (if nat_eq b 0o11 then shape.Blank
    else (if nat_eq b 0o57 then shape.Comment
    else (if nat_eq b 0o42 then shape.Quote
    else shape.Mark (mark_of b)))))

-- After TEXT alone what is no blank begins a string, whatever it is; after EJECT and XLIST everything is their title.
abbrev pub shape_of : Head → ℕ → Shape
shape_of heads.Empty b = shape_of_byte b
shape_of heads.One b = shape_of_byte b
shape_of heads.Text b = if is_space b then shape.Blank else shape.OpenString
shape_of heads.Listing b = shape.Title
shape_of heads.More b = shape_of_byte b

-- what a byte does that ends no statement
abbrev pub effect_of : Open → Head → ℕ → Effect
effect_of following.Start head b = effect.Begins (shape_of head b)
effect_of following.Blank head b = effect.Begins (shape_of head b)
effect_of (following.Run weight) head b = if is_letter_or_digit b then effect.Lengthens else effect.Begins (shape_of head b)
effect_of following.Term head b = effect.Begins (shape_of head b)
effect_of following.Quote head b = effect.Completes (if nat_lt b 0o200 then b + 0o200 else b)
effect_of (following.String delimiter) head b = if nat_eq b delimiter then effect.Closes else effect.GoesOn
effect_of following.Comment head b = effect.Begins shape.Comment
effect_of following.Title head b = effect.Begins shape.Title
