-- The grammar of a statement, over its tokens (PAL III Symbolic Assembler manual, and this project's profile of it).
use Rattle.std.specs.Prelude.{ℕ, Bool, true, false, ◌||◌, if◌then◌else◌, Option, Some, None, List, [], ◌∷◌, codes}
use Rattle.pal_lex.specs.Cutting.{is_blank}
use Rattle.pal_lex.specs.Runs.{name_number}
use Rattle.pal_lex.specs.Language.{is_reserved, is_named, free_name, operation_in}
use Rattle.pal_lex.specs.declared.pieces.Term as term
use Rattle.pal_lex.specs.declared.pieces.Term.TheVariants.{Name, Number, Here}
use Rattle.pal_lex.specs.declared.pieces.Kind.{Kind}
use Rattle.pal_lex.specs.declared.pieces.Kind.TheVariants.{Term, BadNumber, Blank, Plus, Minus, Equals, Comma, Star}
use Rattle.pal_lex.specs.declared.pieces.Token.{Token}
use Rattle.pal_lex.specs.declared.phrases.Joint.{Joint}
use Rattle.pal_lex.specs.declared.phrases.Joint.TheVariants.{Add, Subtract, Or}
use Rattle.pal_lex.specs.declared.phrases.Part.{Part}
use Rattle.pal_lex.specs.declared.phrases.Operation.{Operation}
use Rattle.pal_lex.specs.declared.phrases.Body.{Body}
use Rattle.pal_lex.specs.declared.phrases.Body.TheVariants.{Nothing, Origin, Define, Decimal, Octal, Field, Reference, Word}
use Rattle.pal_lex.specs.declared.phrases.Said.{Said}

-- ## Expressions

-- what joins two terms; a blank does so where blanks may stand
abbrev pub joint_of : Bool → Kind → Option Joint
joint_of blanks (Term t) = None
joint_of blanks BadNumber = None
joint_of blanks Blank = if blanks then Some Or else None
joint_of blanks Plus = Some Add
joint_of blanks Minus = Some Subtract
joint_of blanks Equals = None
joint_of blanks Comma = None
joint_of blanks Star = None

-- a reserved name is no term
abbrev pub free_term : term.Term → Option term.Term
free_term (Name n) = if is_reserved n then None else Some (Name n)
free_term (Number w) = Some (Number w)
free_term Here = Some Here

abbrev pub term_of : Kind → Option term.Term
term_of (Term t) = free_term t
term_of BadNumber = None
term_of Blank = None
term_of Plus = None
term_of Minus = None
term_of Equals = None
term_of Comma = None
term_of Star = None

abbrev pub part_of : Option Joint → Option term.Term → Option Part
part_of None t = None
part_of (Some j) None = None
part_of (Some j) (Some t) = Some record { joint = j; term = t }

abbrev pub with_part : Option Part → Option (List Part) → Option (List Part)
with_part None parts = None
with_part (Some part) None = None
with_part (Some part) (Some parts) = Some (part ∷ parts)

-- terms, each with what joins it to those before it
abbrev pub parts : Bool → List Token → Option (List Part)
parts blanks [] = Some []
parts blanks (j ∷ []) = None
parts blanks (j ∷ t ∷ others) = with_part (part_of (joint_of blanks j.kind) (term_of t.kind)) (parts blanks others)

abbrev pub is_sign : Kind → Bool
is_sign (Term t) = false
is_sign BadNumber = false
is_sign Blank = false
is_sign Plus = true
is_sign Minus = true
is_sign Equals = false
is_sign Comma = false
is_sign Star = false

-- a term, and further terms joined by `+` or `-`, or by a blank where blanks may stand
abbrev pub terms : Bool → List Token → Option (List Part)
terms blanks [] = None
terms blanks (t ∷ others) = with_part (part_of (Some Add) (term_of t.kind)) (parts blanks others)

-- a term and further terms joined by `+` or `-`
abbrev pub sum : List Token → Option (List Part)
sum tokens = terms false tokens

-- It may begin with `+` or `-`; then terms, joined by `+`, `-` or a blank.
abbrev pub expression : List Token → Option (List Part)
expression [] = None
expression (t ∷ others) = if is_sign t.kind then parts true (t ∷ others) else terms true (t ∷ others)

-- ## Bodies

abbrev pub map_body : (List Part → Body) → Option (List Part) → Option Body
map_body make None = None
map_body make (Some e) = Some (make e)

abbrev pub is_star : Kind → Bool
is_star (Term t) = false
is_star BadNumber = false
is_star Blank = false
is_star Plus = false
is_star Minus = false
is_star Equals = false
is_star Comma = false
is_star Star = true

abbrev pub is_equals : Kind → Bool
is_equals (Term t) = false
is_equals BadNumber = false
is_equals Blank = false
is_equals Plus = false
is_equals Minus = false
is_equals Equals = true
is_equals Comma = false
is_equals Star = false

abbrev pub is_comma : Kind → Bool
is_comma (Term t) = false
is_comma BadNumber = false
is_comma Blank = false
is_comma Plus = false
is_comma Minus = false
is_comma Equals = false
is_comma Comma = true
is_comma Star = false

-- after an operation: any number of blank and `I` or `Z`, then at most one blank and sum
abbrev pub reference : Operation → Bool → List Token → Option Body
reference op indirect [] = Some (Reference op indirect None)
reference op indirect (t ∷ []) = None
reference op indirect (t ∷ u ∷ others) =
    if is_blank t.kind then
    (if is_named (name_number (codes "I")) u.kind then reference op true others
    else (if is_named (name_number (codes "Z")) u.kind then reference op indirect others
    else map_body (λ e. Reference op indirect (Some e)) (sum (u ∷ others))))
    else None

abbrev pub definition : Option ℕ → Option (List Part) → Option Body
definition None e = None
definition (Some name) e = map_body (Define name) e

-- after `FIELD`: a blank and an expression, or an expression that begins with a sign
abbrev pub field_number : Token → List Token → Option (List Part)
field_number u others =
    if is_blank u.kind then expression others else (if is_sign u.kind then expression (u ∷ others) else None)

-- a name of an operation with a blank after it begins a memory reference
abbrev pub spaced_body : Option Operation → List Token → List Token → Option Body
spaced_body None whole following = map_body Word (expression whole)
spaced_body (Some op) whole following = reference op false following

-- a name of an operation alone is a memory reference
abbrev pub operation_body : Option Operation → Token → Option Body
operation_body None t = map_body Word (expression (t ∷ []))
operation_body (Some op) t = Some (Reference op false None)

-- a body of one token
abbrev pub lone_body : Token → Option Body
lone_body t =
    if is_named (name_number (codes "DECIMA")) t.kind then Some Decimal
    else (if is_named (name_number (codes "OCTAL")) t.kind then Some Octal
    else operation_body (operation_in t.kind) t)

-- a body of two tokens or more
abbrev pub longer_body : Token → Token → List Token → Option Body
longer_body t u others =
    if is_star t.kind then map_body Origin (expression (u ∷ others))
    else (if is_equals u.kind then definition (free_name t.kind) (expression others)
    else (if is_named (name_number (codes "FIELD")) t.kind then map_body Field (field_number u others)
    else (if is_blank u.kind then spaced_body (operation_in t.kind) (t ∷ u ∷ others) (u ∷ others)
    else map_body Word (expression (t ∷ u ∷ others)))))

abbrev pub body : List Token → Option Body
body [] = Some Nothing
body (t ∷ []) = lone_body t
body (t ∷ u ∷ others) = longer_body t u others

-- ## Statements

abbrev pub without_tags : Option Body → Option Said
without_tags None = None
without_tags (Some body) = Some record { tags = []; body = body }

abbrev pub with_tag : Option ℕ → Option Said → Option Said
with_tag None said = None
with_tag (Some name) None = None
with_tag (Some name) (Some said) = Some record { tags = name ∷ said.tags; body = said.body }

-- any number of tags, which are names with a comma, and a body
abbrev pub phrase_of_tokens : List Token → Option Said
phrase_of_tokens [] = without_tags (body [])
phrase_of_tokens (t ∷ []) = without_tags (body (t ∷ []))
phrase_of_tokens (t ∷ u ∷ others) = if is_comma u.kind then with_tag (free_name t.kind) (phrase_of_tokens others) else without_tags (body (t ∷ u ∷ others))

abbrev pub is_bad : Kind → Bool
is_bad (Term t) = false
is_bad BadNumber = true
is_bad Blank = false
is_bad Plus = false
is_bad Minus = false
is_bad Equals = false
is_bad Comma = false
is_bad Star = false

abbrev pub has_bad_number : List Token → Bool
has_bad_number [] = false
has_bad_number (t ∷ others) = is_bad t.kind || has_bad_number others
