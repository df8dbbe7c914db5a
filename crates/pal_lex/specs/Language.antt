-- The words of the language (PAL III Symbolic Assembler manual, and this project's profile of it).
use Rattle.std.specs.Prelude.{ℕ, nat_eq, Bool, false, ◌||◌, if◌then◌else◌, Option, Some, None, codes}
use Rattle.pal_lex.specs.Runs.{name_number}
use Rattle.pal_lex.specs.declared.pieces.Term as term
use Rattle.pal_lex.specs.declared.pieces.Term.TheVariants.{Name, Number, Here}
use Rattle.pal_lex.specs.declared.pieces.Kind.{Kind}
use Rattle.pal_lex.specs.declared.pieces.Kind.TheVariants.{Term, BadNumber, Blank, Plus, Minus, Equals, Comma, Star}
use Rattle.pal_lex.specs.declared.phrases.Operation.{Operation}
use Rattle.pal_lex.specs.declared.phrases.Operation.TheVariants.{And, Tad, Isz, Dca, Jms, Jmp}

-- the word of an operation (Small Computer Handbook)
abbrev pub word_of : Operation → ℕ
word_of And = 0
word_of Tad = 0o1000
word_of Isz = 0o2000
word_of Dca = 0o3000
word_of Jms = 0o4000
word_of Jmp = 0o5000

-- the names that have a meaning of their own, and stand for no value
abbrev pub is_reserved : ℕ → Bool
is_reserved name =
    nat_eq name (name_number (codes "DECIMA")) || nat_eq name (name_number (codes "OCTAL")) || nat_eq name (name_number (codes "FIELD"))
    || nat_eq name (name_number (codes "PAUSE")) || nat_eq name (name_number (codes "I")) || nat_eq name (name_number (codes "Z"))

-- the operation that a name means at the beginning of a memory reference
abbrev pub operation_of : ℕ → Option Operation
operation_of name =
    if nat_eq name (name_number (codes "AND")) then Some And
    else (if nat_eq name (name_number (codes "TAD")) then Some Tad
    else (if nat_eq name (name_number (codes "ISZ")) then Some Isz
    else (if nat_eq name (name_number (codes "DCA")) then Some Dca
    else (if nat_eq name (name_number (codes "JMS")) then Some Jms
    else (if nat_eq name (name_number (codes "JMP")) then Some Jmp
    else None)))))

abbrev pub name_of_term : term.Term → Option ℕ
name_of_term (Name n) = Some n
name_of_term (Number w) = None
name_of_term Here = None

-- the name that a token is
abbrev pub name_of : Kind → Option ℕ
name_of (Term t) = name_of_term t
name_of BadNumber = None
name_of Blank = None
name_of Plus = None
name_of Minus = None
name_of Equals = None
name_of Comma = None
name_of Star = None

abbrev pub is_this : ℕ → Option ℕ → Bool
is_this name None = false
is_this name (Some n) = nat_eq n name

-- a token is this name
abbrev pub is_named : ℕ → Kind → Bool
is_named name kind = is_this name (name_of kind)

abbrev pub not_reserved : Option ℕ → Option ℕ
not_reserved None = None
not_reserved (Some n) = if is_reserved n then None else Some n

-- the name that a token is, where it isn't reserved
abbrev pub free_name : Kind → Option ℕ
free_name kind = not_reserved (name_of kind)

abbrev pub operation_named : Option ℕ → Option Operation
operation_named None = None
operation_named (Some n) = operation_of n

-- the operation that a token is
abbrev pub operation_in : Kind → Option Operation
operation_in kind = operation_named (name_of kind)
