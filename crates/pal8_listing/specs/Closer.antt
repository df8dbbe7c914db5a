-- Where operators bind closer than a blank, for palbart 2.13 (as it was seen to read sources).
use Rattle.std.specs.Prelude.{ℕ, Bool, true, false, ◌&&◌, ◌||◌, if◌then◌else◌, List, [], ◌∷◌}
use Rattle.pal8_lex.specs.declared.tokens.Token.{Token}
use Rattle.pal8_lex.specs.declared.tokens.Kind.{Kind}
use Rattle.pal8_lex.specs.declared.tokens.Kind.TheVariants.{Name, Number, Character, Here, Operator, Equals, Comma, Star, Opening, Closing, String, Bad}
use Rattle.pal8_lex.specs.declared.tokens.Operator as sign
use Rattle.pal8_lex.specs.declared.tokens.Operator.TheVariants.{Plus, Minus, Or, And, Times, Divide}
use Rattle.pal8_grammar.specs.Permanent.{is_reserved}
use Rattle.pal8_listing.specs.declared.levels.Level.{Level}
use Rattle.pal8_listing.specs.declared.levels.Level.TheVariants.{First, Lead, Term, Joined}

-- ## Tokens

abbrev pub is_reserved_kind : Kind → Bool
is_reserved_kind (Name name) = is_reserved name
is_reserved_kind (Number n) = false
is_reserved_kind (Character c) = false
is_reserved_kind Here = false
is_reserved_kind (Operator op) = false
is_reserved_kind Equals = false
is_reserved_kind Comma = false
is_reserved_kind Star = false
is_reserved_kind (Opening pool) = false
is_reserved_kind (Closing pool) = false
is_reserved_kind String = false
is_reserved_kind Bad = false

-- a name of these begins a memory reference, or a reserved name a form
abbrev pub is_leading : (ℕ → Bool) → Kind → Bool
is_leading operates (Name name) = is_reserved name || operates name
is_leading operates (Number n) = false
is_leading operates (Character c) = false
is_leading operates Here = false
is_leading operates (Operator op) = false
is_leading operates Equals = false
is_leading operates Comma = false
is_leading operates Star = false
is_leading operates (Opening pool) = false
is_leading operates (Closing pool) = false
is_leading operates String = false
is_leading operates Bad = false

abbrev pub is_opening : Kind → Bool
is_opening (Name name) = false
is_opening (Number n) = false
is_opening (Character c) = false
is_opening Here = false
is_opening (Operator op) = false
is_opening Equals = false
is_opening Comma = false
is_opening Star = false
is_opening (Opening pool) = true
is_opening (Closing pool) = false
is_opening String = false
is_opening Bad = false

abbrev pub is_closing : Kind → Bool
is_closing (Name name) = false
is_closing (Number n) = false
is_closing (Character c) = false
is_closing Here = false
is_closing (Operator op) = false
is_closing Equals = false
is_closing Comma = false
is_closing Star = false
is_closing (Opening pool) = false
is_closing (Closing pool) = true
is_closing String = false
is_closing Bad = false

-- a value begins after a tag's `,`, after `=` and after `*`
abbrev pub begins_anew : Kind → Bool
begins_anew (Name name) = false
begins_anew (Number n) = false
begins_anew (Character c) = false
begins_anew Here = false
begins_anew (Operator op) = false
begins_anew Equals = true
begins_anew Comma = true
begins_anew Star = true
begins_anew (Opening pool) = false
begins_anew (Closing pool) = false
begins_anew String = false
begins_anew Bad = false

abbrev pub is_no_or : sign.Operator → Bool
is_no_or Plus = true
is_no_or Minus = true
is_no_or Or = false
is_no_or And = true
is_no_or Times = true
is_no_or Divide = true

-- an operator other than `!`, which does what a blank does
abbrev pub is_closer : Kind → Bool
is_closer (Name name) = false
is_closer (Number n) = false
is_closer (Character c) = false
is_closer Here = false
is_closer (Operator op) = is_no_or op
is_closer Equals = false
is_closer Comma = false
is_closer Star = false
is_closer (Opening pool) = false
is_closer (Closing pool) = false
is_closer String = false
is_closer Bad = false

-- ## Expressions

abbrev pub is_joined : Level → Bool
is_joined First = false
is_joined Lead = false
is_joined Term = false
is_joined Joined = true

-- An expression with one token more. A blank joins terms, but for one after the name of an operation or of a form, and `I` and `Z` after that.
abbrev pub level_after : Bool → Token → Level → Level
level_after leads t First = if begins_anew t.kind then First else (if leads then Lead else Term)
level_after leads t Lead = if begins_anew t.kind then First else (if is_reserved_kind t.kind then Lead else Term)
level_after leads t Term = if begins_anew t.kind then First else (if t.is_spaced then Joined else Term)
level_after leads t Joined = if begins_anew t.kind then First else Joined

-- The expressions that go on after one token more, the innermost first: an opening begins one, and a closing ends one.
abbrev pub levels_with : Bool → Token → List Level → List Level
levels_with leads t [] = []
levels_with leads t (level ∷ outer) =
    if is_closing t.kind then outer
    else (if is_opening t.kind then First ∷ level_after leads t level ∷ outer else level_after leads t level ∷ outer)

abbrev pub first_levels : List Level
first_levels = First ∷ []

-- an operator other than `!` stands in an expression in which a blank has joined terms before it
abbrev pub binds_closer : List Level → Token → Bool
binds_closer [] t = false
binds_closer (level ∷ outer) t = is_joined level && is_closer t.kind

-- one of these tokens is such an operator, where these names begin memory references
abbrev pub has_closer : (ℕ → Bool) → List Level → List Token → Bool
has_closer operates levels [] = false
has_closer operates levels (t ∷ others) = binds_closer levels t || has_closer operates (levels_with (is_leading operates t.kind) t levels) others
