-- Where in its statement a fault is: at a token (this project's profile of PAL8).
use Rattle.std.specs.Prelude.{ℕ, nat_eq, Bool, true, false, if◌then◌else◌, Result, Ok, Err, codes, take, List, [], ◌∷◌, ◌++◌}
use Rattle.pal_lex.specs.Text.{text_of}
use Rattle.pal8_lex.specs.Judging.{is_bad, is_bad_number}
use Rattle.pal8_lex.specs.Statements.{Statement, statements}
use Rattle.pal8_lex.specs.declared.tokens.Token.{Token}
use Rattle.pal8_lex.specs.declared.tokens.Kind.{Kind}
use Rattle.pal8_lex.specs.declared.tokens.Kind.TheVariants as kind
use Rattle.pal8_lex.specs.declared.judging.Radix.{Radix}
use Rattle.pal8_lex.specs.declared.judging.Radix.TheVariants.{Octal, Decimal}
use Rattle.pal8_grammar.specs.Bodies.{body_in}
use Rattle.pal8_asm.specs.Assembled.{result_of_text}
use Rattle.pal8_asm.specs.Tapes.{TapeWords}
use Rattle.pal8_asm.specs.declared.faults.Fault.{Fault}
use Rattle.pal8_places.specs.declared.options.Options.{Options}
use Rattle.pal8_places.specs.declared.faults.Code.{Code}
use Rattle.pal8_places.specs.declared.faults.Code.TheVariants.{IC, SY, NU, UA, DT, RD, IR, II, FD, PG, PF, DZ, PE, ZE, PageClash, ZeroClash, RL, PH, NE, NW}

abbrev pub is_name : ℕ → Kind → Bool
is_name name (kind.Name n) = nat_eq n name
is_name name (kind.Number n) = false
is_name name (kind.Character c) = false
is_name name kind.Here = false
is_name name (kind.Operator sign) = false
is_name name kind.Equals = false
is_name name kind.Comma = false
is_name name kind.Star = false
is_name name (kind.Opening pool) = false
is_name name (kind.Closing pool) = false
is_name name kind.String = false
is_name name kind.Bad = false

abbrev pub is_number_fault : Code → Bool
is_number_fault IC = false
is_number_fault SY = false
is_number_fault NU = true
is_number_fault (UA name) = false
is_number_fault (DT name) = false
is_number_fault RD = false
is_number_fault IR = false
is_number_fault II = false
is_number_fault FD = false
is_number_fault PG = false
is_number_fault PF = false
is_number_fault DZ = false
is_number_fault PE = false
is_number_fault ZE = false
is_number_fault (PageClash cell) = false
is_number_fault (ZeroClash cell) = false
is_number_fault RL = false
is_number_fault PH = false
is_number_fault NE = false
is_number_fault NW = false

abbrev pub is_redefinition : Code → Bool
is_redefinition IC = false
is_redefinition SY = false
is_redefinition NU = false
is_redefinition (UA name) = false
is_redefinition (DT name) = false
is_redefinition RD = true
is_redefinition IR = false
is_redefinition II = false
is_redefinition FD = false
is_redefinition PG = false
is_redefinition PF = false
is_redefinition DZ = false
is_redefinition PE = false
is_redefinition ZE = false
is_redefinition (PageClash cell) = false
is_redefinition (ZeroClash cell) = false
is_redefinition RL = false
is_redefinition PH = false
is_redefinition NE = false
is_redefinition NW = false

-- A token is what the fault of its statement is about. Of IC it is a byte that stands in no token, of NU a
-- number that is none by this radix, of UA and DT the name.
abbrev pub is_meant : Code → Radix → Kind → Bool
is_meant IC radix token = is_bad token
is_meant (UA name) radix token = is_name name token
is_meant SY radix token = false
is_meant NU radix token = is_bad_number radix token
is_meant (DT name) radix token = is_name name token
is_meant RD radix token = false
is_meant IR radix token = false
is_meant II radix token = false
is_meant FD radix token = false
is_meant PG radix token = false
is_meant PF radix token = false
is_meant DZ radix token = false
is_meant PE radix token = false
is_meant ZE radix token = false
is_meant (PageClash cell) radix token = false
is_meant (ZeroClash cell) radix token = false
is_meant RL radix token = false
is_meant PH radix token = false
is_meant NE radix token = false
is_meant NW radix token = false

-- where the first token stands that the fault is about, else the start
abbrev pub meant_mark : Code → Radix → ℕ → List Token → ℕ
meant_mark code radix start [] = start
meant_mark code radix start (t ∷ others) = if is_meant code radix t.kind then t.start else meant_mark code radix start others

abbrev pub first_start : ℕ → List Token → ℕ
first_start start [] = start
first_start start (t ∷ others) = t.start

-- of RD where the name stands that `=` comes after, which is the first token after the tags
abbrev pub mark_of : Code → Radix → ℕ → List Token → ℕ
mark_of code radix start tokens = if is_redefinition code then first_start start (body_in tokens) else meant_mark code radix start tokens

-- the first token stands there
abbrev pub begins : ℕ → List Token → Bool
begins start [] = false
begins start (t ∷ others) = nat_eq t.start start

-- where the fault of the statement is that begins there
abbrev pub mark_in : Code → Radix → ℕ → List Statement → ℕ
mark_in code radix start [] = start
mark_in code radix start (s ∷ older) = if begins start s.tokens then mark_of code radix start s.tokens else mark_in code radix start older

-- ## Numbers

abbrev pub radix_by : Result TapeWords Fault → Radix
radix_by (Ok made) = Decimal
radix_by (Err fault) = if is_number_fault fault.code then Octal else Decimal

-- How numbers are read where a statement begins: in octal, if 8 is none there.
abbrev pub radix_at : Options → List ℕ → ℕ → Radix
radix_at options source start = radix_by (result_of_text options (text_of (take start source ++ codes "8;")))

abbrev pub radix_for : Options → Code → List ℕ → ℕ → Radix
radix_for options code source start = if is_number_fault code then radix_at options source start else Octal

-- where the fault of a source is whose statement begins there
abbrev pub fault_mark : Options → List ℕ → Code → ℕ → ℕ
fault_mark options source code start = mark_in code (radix_for options code source start) start (statements (text_of source))
