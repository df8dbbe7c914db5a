-- Worked sources: what the definitions give for them, by computing.
use Rattle.std.proofs.Common.{◌≡◌, ℕ, Bool, true, false, List, [], ◌∷◌, ◌++◌, refl}
use Rattle.std.specs.Prelude.{codes}
use Rattle.pal_lex.specs.Text.{text_of}
use Rattle.word12.specs.Sixbit.{name_number}
use Rattle.pal8_lex.specs.Statements.{Statement, statements}
use Rattle.pal8_lex.specs.declared.tokens.Token.{Token}
use Rattle.pal8_lex.specs.declared.tokens.Kind.{Kind}
use Rattle.pal8_lex.specs.declared.tokens.Kind.TheVariants.{Name, Number, Character, Here, Operator, Equals, Comma, Star, Opening, Closing, String, Bad}
use Rattle.pal8_lex.specs.declared.tokens.Operator.TheVariants.{Plus, Minus, Or, And, Times, Divide}
use Rattle.pal8_lex.specs.declared.tokens.Pool.TheVariants.{Own, Zero}
use Rattle.pal8_lex.specs.declared.rules.End.{End}
use Rattle.pal8_lex.specs.declared.rules.End.TheVariants.{Semicolon, Line, Open, Close, Dollar}

-- a token with a blank before it that means something, or with none
abbrev kinds : List Token → List (Bool × Kind)
kinds [] = []
kinds (t ∷ others) = (t.is_spaced, t.kind) ∷ kinds others

-- the line, the tokens, the string and the end of a statement
abbrev briefs : List Statement → List (ℕ × List (Bool × Kind) × List ℕ × Bool × End)
briefs [] = []
briefs (s ∷ older) = briefs older ++ (s.line, kinds s.tokens, s.string, s.is_cut, s.end) ∷ []

abbrev read : List ℕ → List (ℕ × List (Bool × Kind) × List ℕ × Bool × End)
read bytes = briefs (statements (text_of bytes))

abbrev named : List ℕ → Kind
named text = Name (name_number text)

abbrev number : ℕ → ℕ → List ℕ → Kind
number octal decimal text = Number record { spelling = name_number text; octal = octal; decimal = decimal }

literals : read (codes "tad ( 5 ) [A/ A<" ++ 10 ∷ []) ≡ (
  1,
  (false, named (codes "TAD")) ∷ (true, Opening Own) ∷ (false, number 5 5 (codes "5")) ∷ (false, Closing Own) ∷ (true, Opening Zero) ∷ (false, named (codes "A")) ∷ [],
  [],
  false,
  Line,
) ∷ []
literals = refl

signs : read (codes "A =5 ;B , 7 & 3 !.;*+1%0^-9;DECIMAL>") ≡
    (1, (false, named (codes "A")) ∷ (false, Equals) ∷ (false, number 5 5 (codes "5")) ∷ [], [], false, Semicolon)
    ∷ (
      1,
      (false, named (codes "B")) ∷ (false, Comma) ∷ (false, number 7 7 (codes "7")) ∷ (false, Operator And) ∷ (false, number 3 3 (codes "3")) ∷ (false, Operator Or) ∷ (false, Here) ∷ [],
      [],
      false,
      Semicolon,
    )
    ∷ (
      1,
      (false, Star) ∷ (false, Operator Plus) ∷ (false, number 1 1 (codes "1")) ∷ (false, Operator Divide) ∷ (false, number 0 0 (codes "0")) ∷ (false, Operator Times)
          ∷ (false, Operator Minus) ∷ (false, number 0o10000 9 (codes "9")) ∷ [],
      [],
      false,
      Semicolon,
    )
    ∷ (1, (false, named (codes "DECIMA")) ∷ [], [], false, Close) ∷ []
signs = refl

-- a blank or a tab, however many, is one; 1 2 is two numbers; 4095 and 7777 are the largest
blanks : read (codes " 1  2 " ++ 9 ∷ codes "B;4095 7777 10000 2A;") ≡
    (1, (false, number 1 1 (codes "1")) ∷ (true, number 2 2 (codes "2")) ∷ (true, named (codes "B")) ∷ [], [], false, Semicolon)
    ∷ (
      1,
      (false, number 0o10000 4095 (codes "4095")) ∷ (true, number 0o7777 0o10000 (codes "7777")) ∷ (true, number 0o10000 0o10000 (codes "10000"))
          ∷ (true, number 0o10000 0o10000 (codes "2A")) ∷ [],
      [],
      false,
      Semicolon,
    ) ∷ []
blanks = refl

-- `"` and the next byte, whatever it is; one that CR cuts is bad
characters : read (codes "\"A-\"B;\"$;\";;\"/;\"<;\"a;\"" ++ 10 ∷ codes "#>") ≡
    (1, (false, Character 0o301) ∷ (false, Operator Minus) ∷ (false, Character 0o302) ∷ [], [], false, Semicolon)
    ∷ (1, (false, Character 0o244) ∷ [], [], false, Semicolon) ∷ (1, (false, Character 0o273) ∷ [], [], false, Semicolon)
    ∷ (1, (false, Character 0o257) ∷ [], [], false, Semicolon) ∷ (1, (false, Character 0o274) ∷ [], [], false, Semicolon)
    ∷ (1, (false, Character 0o341) ∷ [], [], false, Semicolon) ∷ (1, (false, Bad) ∷ [], [], false, Line) ∷ (2, (false, Bad) ∷ [], [], false, Close) ∷ []
characters = refl

-- the delimiter of a text may be anything
texts : read (codes "TEXT zAz;TEXT;A/$;" ++ 10 ∷ codes "TEXT <a!_< /C" ++ 10 ∷ codes "text,I," ++ 10 ∷ codes "A, TEXT //5;TEXTS /A;TEXT" ++ 10 ∷ codes "TEXT (AB" ++ 10 ∷ []) ≡
    (1, (false, named (codes "TEXT")) ∷ (true, String) ∷ [], codes "A", false, Semicolon)
    ∷ (1, (false, named (codes "TEXT")) ∷ (false, String) ∷ [], codes "A/$", false, Line)
    ∷ (2, (false, named (codes "TEXT")) ∷ (true, String) ∷ [], codes "a!_", false, Line)
    ∷ (3, (false, named (codes "TEXT")) ∷ (false, String) ∷ [], codes "I", false, Line)
    ∷ (4, (false, named (codes "A")) ∷ (false, Comma) ∷ (false, named (codes "TEXT")) ∷ (true, String) ∷ (false, number 5 5 (codes "5")) ∷ [], [], false, Semicolon)
    ∷ (4, (false, named (codes "TEXTS")) ∷ [], [], false, Line)
    ∷ (5, (false, named (codes "TEXT")) ∷ (true, String) ∷ [], codes "AB", true, Line) ∷ []
texts = refl

titles : read (codes "XLIST" ++ 10 ∷ codes "EJECT ANY < TITLE > $/ ;1" ++ 10 ∷ codes "5,EJECT,<" ++ 10 ∷ codes "EJECTS<XLIST<") ≡
    (1, (false, named (codes "XLIST")) ∷ [], [], false, Line) ∷ (2, (false, named (codes "EJECT")) ∷ [], [], false, Semicolon)
    ∷ (2, (false, number 1 1 (codes "1")) ∷ [], [], false, Line)
    ∷ (3, (false, number 5 5 (codes "5")) ∷ (false, Comma) ∷ (false, named (codes "EJECT")) ∷ [], [], false, Line)
    ∷ (4, (false, named (codes "EJECTS")) ∷ [], [], false, Open) ∷ (4, (false, named (codes "XLIST")) ∷ [], [], false, Open) ∷ []
titles = refl

-- CR, NUL, form feed and rubout are as if they weren't there; what nothing ends is no statement
dropped : read (65 ∷ 0 ∷ 66 ∷ 13 ∷ 10 ∷ 12 ∷ 34 ∷ 127 ∷ 65 ∷ 36 ∷ codes "1 2") ≡
    (1, (false, named (codes "AB")) ∷ [], [], false, Line) ∷ (2, (false, Character 0o301) ∷ [], [], false, Dollar) ∷ []
dropped = refl

-- six characters of a name count
six_characters : read (codes "ABCDEFG;8bcdefgh;") ≡
    (1, (false, named (codes "ABCDEF")) ∷ [], [], false, Semicolon) ∷ (1, (false, number 0o10000 0o10000 (codes "8BCDEF")) ∷ [], [], false, Semicolon) ∷ []
six_characters = refl
