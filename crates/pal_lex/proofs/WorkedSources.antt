-- Worked sources: what the definitions give for them, by computing.
use Rattle.std.proofs.Common.{◌≡◌, ℕ, true, false, Option, Some, None, Result, Ok, Err, List, [], ◌∷◌, ◌++◌, refl}
use Rattle.std.specs.Prelude.{codes}
use Rattle.pal_lex.specs.Text.{text_of}
use Rattle.pal_lex.specs.Runs.{name_number}
use Rattle.pal_lex.specs.Statements.{statements, first_fault}
use Rattle.pal_faults.specs.declared.lexical.LexFault.{LexFault}
use Rattle.pal_faults.specs.declared.lexical.LexFault.TheVariants.{IC, SY, NU}
use Rattle.pal_lex.specs.declared.pieces.Term.TheVariants.{Name, Number, Here}
use Rattle.pal_lex.specs.declared.phrases.Joint.TheVariants.{Add, Subtract, Or}
use Rattle.pal_lex.specs.declared.phrases.Operation.TheVariants.{Tad, Dca, Jmp}
use Rattle.pal_lex.specs.declared.phrases.Body.{Body}
use Rattle.pal_lex.specs.declared.phrases.Body.TheVariants.{Nothing, Origin, Define, Decimal, Octal, Field, Reference, Word}
use Rattle.pal_lex.specs.declared.phrases.Statement.{Statement}

-- the line, the tags and the body of a statement
abbrev brief : Result Statement LexFault → Option (ℕ × List ℕ × Body)
brief (Ok s) = Some (s.line, s.tags, s.body)
brief (Err fault) = None

abbrev briefs : List (Result Statement LexFault) → List (Option (ℕ × List ℕ × Body))
briefs [] = []
briefs (s ∷ older) = briefs older ++ brief s ∷ []

abbrev read : List ℕ → List (Option (ℕ × List ℕ × Body))
read bytes = briefs (statements (text_of bytes))

abbrev fault : List ℕ → Option LexFault
fault bytes = first_fault (statements (text_of bytes))

abbrev named : List ℕ → ℕ
named text = name_number text

radixes : read (codes "DECIMAL;100;OCTAL;100$") ≡ Some (1, [], Decimal) ∷ Some (1, [], Word (record { joint = Add; term = Number 100 } ∷ []))
    ∷ Some (1, [], Octal) ∷ Some (1, [], Word (record { joint = Add; term = Number 64 } ∷ [])) ∷ []
unfolding statements
radixes = refl

references : read (codes "TAD I Z 10; JMP .+1;DCA;TAD I;TAD -1;CLL TAD$") ≡
    Some (1, [], Reference Tad true (Some (record { joint = Add; term = Number 8 } ∷ [])))
    ∷ Some (1, [], Reference Jmp false (Some (record { joint = Add; term = Here } ∷ record { joint = Add; term = Number 1 } ∷ [])))
    ∷ Some (1, [], Reference Dca false None)
    ∷ Some (1, [], Reference Tad true None)
    ∷ Some (1, [], Word (record { joint = Add; term = Name (named (codes "TAD")) } ∷ record { joint = Subtract; term = Number 1 } ∷ []))
    ∷ Some (1, [], Word (record { joint = Add; term = Name (named (codes "CLL")) } ∷ record { joint = Or; term = Name (named (codes "TAD")) } ∷ []))
    ∷ []
unfolding statements
references = refl

tags : read (codes "A, B , C = 7;" ++ 13 ∷ codes "FIELD+1;*200 $") ≡
    Some (1, named (codes "A") ∷ named (codes "B") ∷ [], Define (named (codes "C")) (record { joint = Add; term = Number 7 } ∷ []))
    ∷ Some (1, [], Nothing)
    ∷ Some (2, [], Field (record { joint = Add; term = Number 1 } ∷ []))
    ∷ Some (2, [], Origin (record { joint = Add; term = Number 128 } ∷ []))
    ∷ []
unfolding statements
tags = refl

comments : read (codes "/ $ ; 8" ++ 13 ∷ codes "1/a$" ++ 10 ∷ 13 ∷ codes "$A") ≡ Some (1, [], Nothing) ∷ Some (2, [], Word (record { joint = Add; term = Number 1 } ∷ [])) ∷ Some (3, [], Nothing) ∷ []
unfolding statements
comments = refl

no_number : fault (codes "TAD Q" ++ 13 ∷ codes "8" ++ 13 ∷ codes "$") ≡ Some (NU 2)
unfolding statements
no_number = refl

lower_case : fault (codes "8a" ++ 13 ∷ codes "$") ≡ Some (IC 1)
unfolding statements
lower_case = refl

pause : fault (codes "PAUSE" ++ 13 ∷ codes "$") ≡ Some (SY 1)
unfolding statements
pause = refl

bad_before_form : fault (codes "TAD 1 2;TAD 9 ,$") ≡ Some (SY 1)
unfolding statements
bad_before_form = refl

number_first : fault (codes ", 9 ,$") ≡ Some (NU 1)
unfolding statements
number_first = refl

pub six_characters : read (codes "ABCDEF=1;ABCDEFG$") ≡
    Some (1, [], Define (named (codes "ABCDEF")) (record { joint = Add; term = Number 1 } ∷ []))
    ∷ Some (1, [], Word (record { joint = Add; term = Name (named (codes "ABCDEF")) } ∷ [])) ∷ []
unfolding statements
six_characters = refl
