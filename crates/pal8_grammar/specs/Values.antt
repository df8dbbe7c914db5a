-- How a value reads from its tokens, from the left (PAL8, in this project's profile). A value is a memory reference or an expression, and so
-- is what stands in a literal. It reads as steps, which have no blank, no radix and no bracket that is left out.
use Rattle.std.specs.Prelude.{ℕ, nat_eq, nat_lt, Bool, true, false, ◌&&◌, ◌||◌, not, if◌then◌else◌, Option, Some, None, is_some, List, [], ◌∷◌, ◌++◌, codes}
use Rattle.word12.specs.Sixbit.{name_number}
use Rattle.pal8_lex.specs.declared.tokens.Token.{Token}
use Rattle.pal8_lex.specs.declared.tokens.Kind.{Kind}
use Rattle.pal8_lex.specs.declared.tokens.Kind.TheVariants.{Name, Number, Character, Here, Operator, Equals, Comma, Star, Opening, Closing, String, Bad}
use Rattle.pal8_lex.specs.declared.tokens.Number as number
use Rattle.pal8_lex.specs.declared.tokens.Operator as sign
use Rattle.pal8_lex.specs.declared.tokens.Operator.TheVariants.{Plus, Minus, Or, And, Times, Divide}
use Rattle.pal8_lex.specs.declared.tokens.Pool.{Pool}
use Rattle.pal8_lex.specs.declared.tokens.Pool.TheVariants.{Own, Zero}
use Rattle.pal8_lex.specs.declared.judging.Radix.{Radix}
use Rattle.pal8_lex.specs.declared.judging.Radix.TheVariants.{Octal, Decimal}
use Rattle.pal8_grammar.specs.Permanent.{is_reserved}
use Rattle.pal8_grammar.specs.SourceNames.{Vocabulary}
use Rattle.pal8_grammar.specs.declared.steps.Step.{Step}
use Rattle.pal8_grammar.specs.declared.steps.Step.TheVariants as step
use Rattle.pal8_grammar.specs.declared.stands.Stand.{Stand}
use Rattle.pal8_grammar.specs.declared.stands.Stand.TheVariants as stand
use Rattle.pal8_grammar.specs.declared.stands.Outer.{Outer}

-- What is read of a value so far: where it stands, the open literals, the innermost first, and the steps in their order.
pub record Reading : Type 0 where
  pub stand : Stand
  pub literals : List Outer
  pub steps : List Step

-- What a value reads by: the names before it, the radix, and whether literals may stand there.
pub record Setting : Type 0 where
  pub names : Vocabulary
  pub radix : Radix
  pub has_literals : Bool

-- ## Tokens

-- an operation of this name, with its word
abbrev pub operation_of_name : ℕ → Option ℕ → Option (ℕ × ℕ)
operation_of_name name None = None
operation_of_name name (Some word) = Some (name, word)

-- the operation that a token names, with its word
abbrev pub operation_of : Vocabulary → Kind → Option (ℕ × ℕ)
operation_of names (Name name) = operation_of_name name (names.operation name)
operation_of names (Number n) = None
operation_of names (Character c) = None
operation_of names Here = None
operation_of names (Operator op) = None
operation_of names Equals = None
operation_of names Comma = None
operation_of names Star = None
operation_of names (Opening pool) = None
operation_of names (Closing pool) = None
operation_of names String = None
operation_of names Bad = None

-- `I` is true, `Z` is false
abbrev pub modifier_by : ℕ → Option Bool
modifier_by name =
    if nat_eq name (name_number (codes "I")) then Some true else (if nat_eq name (name_number (codes "Z")) then Some false else None)

abbrev pub modifier_of : Kind → Option Bool
modifier_of (Name name) = modifier_by name
modifier_of (Number n) = None
modifier_of (Character c) = None
modifier_of Here = None
modifier_of (Operator op) = None
modifier_of Equals = None
modifier_of Comma = None
modifier_of Star = None
modifier_of (Opening pool) = None
modifier_of (Closing pool) = None
modifier_of String = None
modifier_of Bad = None

abbrev pub operator_of : Kind → Option sign.Operator
operator_of (Name name) = None
operator_of (Number n) = None
operator_of (Character c) = None
operator_of Here = None
operator_of (Operator op) = Some op
operator_of Equals = None
operator_of Comma = None
operator_of Star = None
operator_of (Opening pool) = None
operator_of (Closing pool) = None
operator_of String = None
operator_of Bad = None

abbrev pub is_first_sign : sign.Operator → Bool
is_first_sign Plus = true
is_first_sign Minus = true
is_first_sign Or = false
is_first_sign And = false
is_first_sign Times = false
is_first_sign Divide = false

abbrev pub if_first : Option sign.Operator → Option sign.Operator
if_first None = None
if_first (Some op) = if is_first_sign op then Some op else None

-- an expression may begin with `+` or `-`
abbrev pub sign_of : Kind → Option sign.Operator
sign_of kind = if_first (operator_of kind)

abbrev pub opening_of : Kind → Option Pool
opening_of (Name name) = None
opening_of (Number n) = None
opening_of (Character c) = None
opening_of Here = None
opening_of (Operator op) = None
opening_of Equals = None
opening_of Comma = None
opening_of Star = None
opening_of (Opening pool) = Some pool
opening_of (Closing pool) = None
opening_of String = None
opening_of Bad = None

abbrev pub is_same : Pool → Pool → Bool
is_same Own Own = true
is_same Own Zero = false
is_same Zero Own = false
is_same Zero Zero = true

-- a closing of the other kind isn't a literal's own
abbrev pub is_closing : Pool → Kind → Bool
is_closing pool (Name name) = false
is_closing pool (Number n) = false
is_closing pool (Character c) = false
is_closing pool Here = false
is_closing pool (Operator op) = false
is_closing pool Equals = false
is_closing pool Comma = false
is_closing pool Star = false
is_closing pool (Opening other) = false
is_closing pool (Closing other) = is_same pool other
is_closing pool String = false
is_closing pool Bad = false

abbrev pub number_step : ℕ → Option Step
number_step n = if nat_lt n 0o10000 then Some (step.Number n) else None

abbrev pub number_in : Radix → number.Number → ℕ
number_in Octal n = n.octal
number_in Decimal n = n.decimal

-- a permanent name has its value with it, which EXPUNGE may take away later
abbrev pub step_of_value : ℕ → Option ℕ → Step
step_of_value name None = step.Name name
step_of_value name (Some value) = step.Permanent name value

abbrev pub step_of_name : Vocabulary → ℕ → Step
step_of_name names name = step_of_value name (names.permanent name)

-- a reserved name is no term
abbrev pub name_step : Vocabulary → ℕ → Option Step
name_step names name = if is_reserved name then None else Some (step_of_name names name)

-- the step that a term is, if it is no literal
abbrev pub term_of : Setting → Kind → Option Step
term_of setting (Name name) = name_step setting.names name
term_of setting (Number n) = number_step (number_in setting.radix n)
term_of setting (Character c) = Some (step.Number c)
term_of setting Here = Some step.Here
term_of setting (Operator op) = None
term_of setting Equals = None
term_of setting Comma = None
term_of setting Star = None
term_of setting (Opening pool) = None
term_of setting (Closing pool) = None
term_of setting String = None
term_of setting Bad = None

-- ## Where a term or a value begins

abbrev pub with_step : Option Step → Bool → Reading → Option Reading
with_step None is_address r = None
with_step (Some s) is_address r = Some record { stand = stand.Term is_address; literals = r.literals; steps = r.steps ++ s ∷ [] }

-- what stands in a literal is a value
abbrev pub with_literal : Bool → Pool → Bool → Reading → Option Reading
with_literal false pool is_address r = None
with_literal true pool is_address r = Some record {
  stand = stand.Value;
  literals = record { pool = pool; is_address = is_address } ∷ r.literals;
  steps = r.steps ++ step.Open pool ∷ [];
}

abbrev pub with_term_by : Setting → Bool → Option Pool → Option Step → Reading → Option Reading
with_term_by setting is_address (Some pool) term r = with_literal setting.has_literals pool is_address r
with_term_by setting is_address None term r = with_step term is_address r

-- a term of an address, or of an expression
abbrev pub with_term : Setting → Bool → Kind → Reading → Option Reading
with_term setting is_address kind r = with_term_by setting is_address (opening_of kind) (term_of setting kind) r

abbrev pub with_sign : Bool → sign.Operator → Reading → Reading
with_sign is_address op r = record { stand = stand.Sign is_address; literals = r.literals; steps = r.steps ++ step.Sign op ∷ [] }

abbrev pub with_expression_by : Setting → Option sign.Operator → Kind → Reading → Option Reading
with_expression_by setting None kind r = with_term setting false kind r
with_expression_by setting (Some op) kind r = Some (with_sign false op r)

-- the first token of an expression
abbrev pub with_expression : Setting → Kind → Reading → Option Reading
with_expression setting kind r = with_expression_by setting (sign_of kind) kind r

abbrev pub with_value_by : Setting → Option (ℕ × ℕ) → Kind → Reading → Option Reading
with_value_by setting None kind r = with_expression setting kind r
with_value_by setting (Some (name, word)) kind r =
    Some record { stand = stand.Operation name; literals = r.literals; steps = r.steps ++ step.Operation word ∷ [] }

-- the first token of a value
abbrev pub with_value : Setting → Kind → Reading → Option Reading
with_value setting kind r = with_value_by setting (operation_of setting.names kind) kind r

-- ## What goes on with a value

abbrev pub with_address_by : Setting → Option Bool → Kind → Reading → Option Reading
with_address_by setting None kind r = with_term setting true kind r
with_address_by setting (Some true) kind r =
    Some record { stand = stand.Address; literals = r.literals; steps = r.steps ++ step.Indirect ∷ [] }
with_address_by setting (Some false) kind r = Some record { stand = stand.Address; literals = r.literals; steps = r.steps }

-- After an operation, `I` and `Z`: a blank and `I` or `Z`, or a blank and the address.
abbrev pub with_address : Setting → Kind → Reading → Option Reading
with_address setting kind r = with_address_by setting (modifier_of kind) kind r

-- A token goes on with a value. A blank does so in an expression alone, and after an operation.
abbrev pub goes_on : Stand → Token → Bool
goes_on stand.Value t = false
goes_on stand.Expression t = false
goes_on (stand.Operation name) t = t.is_spaced || is_some (operator_of t.kind)
goes_on stand.Address t = t.is_spaced
goes_on (stand.Sign is_address) t = false
goes_on (stand.Term is_address) t = (t.is_spaced && not is_address) || is_some (operator_of t.kind)

-- an operation that isn't followed by a blank is a term: its name
abbrev pub as_term : Vocabulary → ℕ → Reading → Reading
as_term names name r =
    record { stand = stand.Term false; literals = r.literals; steps = r.steps ++ step.Alone ∷ [] ++ step_of_name names name ∷ [] }

-- a token that goes on with a value: an operator, or what a blank stands before
abbrev pub with_next_by : Setting → Stand → Option sign.Operator → Kind → Reading → Option Reading
with_next_by setting stand.Value op kind r = None
with_next_by setting stand.Expression op kind r = None
with_next_by setting (stand.Operation name) None kind r = with_address setting kind r
with_next_by setting (stand.Operation name) (Some op) kind r = Some (with_sign false op (as_term setting.names name r))
with_next_by setting stand.Address op kind r = with_address setting kind r
with_next_by setting (stand.Sign is_address) op kind r = None
with_next_by setting (stand.Term is_address) None kind r = with_term setting is_address kind (with_sign is_address Or r)
with_next_by setting (stand.Term is_address) (Some op) kind r = Some (with_sign is_address op r)

abbrev pub with_next : Setting → Kind → Reading → Option Reading
with_next setting kind r = with_next_by setting r.stand (operator_of kind) kind r

-- The innermost literal has ended. A literal is a term of what stands around it.
abbrev pub after_literal : Outer → List Outer → List Step → Reading
after_literal outer others steps = record { stand = stand.Term outer.is_address; literals = others; steps = steps ++ step.Close ∷ [] }

-- A token that doesn't go on with a value ends it. Such a token is its literal's own closing, or else one that goes on with what stands around. Where
-- no literal is open, there is no such token.
abbrev pub with_end : Setting → Token → List Outer → List Step → Option Reading
with_end setting t [] steps = None
with_end setting t (outer ∷ others) steps =
    if is_closing outer.pool t.kind then Some (after_literal outer others steps)
    else (if goes_on (stand.Term outer.is_address) t then with_next setting t.kind (after_literal outer others steps)
    else with_end setting t others (steps ++ step.Close ∷ []))

abbrev pub with_more : Bool → Setting → Token → Reading → Option Reading
with_more true setting t r = with_next setting t.kind r
with_more false setting t r = with_end setting t r.literals r.steps

abbrev pub with_token_by : Setting → Stand → Token → Reading → Option Reading
with_token_by setting stand.Value t r = with_value setting t.kind r
with_token_by setting stand.Expression t r = with_expression setting t.kind r
with_token_by setting (stand.Operation name) t r = with_more (goes_on (stand.Operation name) t) setting t r
with_token_by setting stand.Address t r = with_more (goes_on stand.Address t) setting t r
with_token_by setting (stand.Sign is_address) t r = with_term setting is_address t.kind r
with_token_by setting (stand.Term is_address) t r = with_more (goes_on (stand.Term is_address) t) setting t r

-- one token more
abbrev pub with_token : Setting → Token → Reading → Option Reading
with_token setting t r = with_token_by setting r.stand t r

-- ## Whole values

abbrev pub with_token_if : Setting → Token → Option Reading → Option Reading
with_token_if setting t None = None
with_token_if setting t (Some r) = with_token setting t r

-- tokens more
abbrev pub with_tokens : Setting → List Token → Option Reading → Option Reading
with_tokens setting [] r = r
with_tokens setting (t ∷ others) r = with_tokens setting others (with_token_if setting t r)

-- a value may end here
abbrev pub is_whole : Stand → Bool
is_whole stand.Value = false
is_whole stand.Expression = false
is_whole (stand.Operation name) = true
is_whole stand.Address = true
is_whole (stand.Sign is_address) = false
is_whole (stand.Term is_address) = true

-- the end closes all literals
abbrev pub with_literals_closed : List Outer → List Step → List Step
with_literals_closed [] steps = steps
with_literals_closed (outer ∷ others) steps = with_literals_closed others (steps ++ step.Close ∷ [])

abbrev pub steps_in : Option Reading → Option (List Step)
steps_in None = None
steps_in (Some r) = if is_whole r.stand then Some (with_literals_closed r.literals r.steps) else None

-- the steps of a value or, where it begins as one, of an expression
abbrev pub steps_of : Setting → Stand → List Token → Option (List Step)
steps_of setting first tokens = steps_in (with_tokens setting tokens (Some record { stand = first; literals = []; steps = [] }))
