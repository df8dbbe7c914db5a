-- Worked statements: what the definitions read in them, by computing.
use Rattle.std.proofs.Common.{◌≡◌, ℕ, nat_eq, if◌then◌else◌, Option, Some, None, Result, Ok, Err, List, [], ◌∷◌, ◌++◌, refl}
use Rattle.std.specs.Prelude.{codes}
use Rattle.word12.specs.Sixbit.{name_number}
use Rattle.pal_lex.specs.Text.{text_of}
use Rattle.pal8_lex.specs.Statements.{Statement, statements}
use Rattle.pal8_lex.specs.declared.judging.Radix.TheVariants.{Octal}
use Rattle.pal8_lex.specs.declared.tokens.Operator.TheVariants.{Plus, Or}
use Rattle.pal8_grammar.specs.SourceNames.{Vocabulary}
use Rattle.pal8_grammar.specs.Bodies.{Phrase, phrase_by_names}
use Rattle.pal8_grammar.specs.declared.bodies.Body.TheVariants as body
use Rattle.pal8_grammar.specs.declared.steps.Step.TheVariants as step
use Rattle.pal8_grammar.specs.declared.faults.GrammarFault.{GrammarFault}
use Rattle.pal8_grammar.specs.declared.faults.GrammarFault.TheVariants.{SY}

abbrev first_said : Vocabulary → List Statement → Result Phrase GrammarFault
first_said names [] = Err SY
first_said names (s ∷ older) = phrase_by_names names Octal s.tokens s.is_cut s.end

-- what the last statement of a text says
abbrev read : Vocabulary → List ℕ → Result Phrase GrammarFault
read names bytes = first_said names (statements (text_of (bytes ++ codes ";")))

-- some of the names where a source begins
abbrev known : Vocabulary
known = record {
  operation = λ name. if nat_eq name (name_number (codes "JMS")) then Some 0o4000 else (if nat_eq name (name_number (codes "TAD")) then Some 0o1000 else None);
  permanent = λ name. if nat_eq name (name_number (codes "BSW")) then Some 0o7002 else (if nat_eq name (name_number (codes "TAD")) then Some 0o1000 else None);
}

-- what stands after EXPUNGE
abbrev expunged : Vocabulary
expunged = record { operation = λ name. None; permanent = λ name. None }

expunge : read known (codes "EXPUNGE") ≡ Ok (body.Expunge, [])
expunge = refl

fixtab : read known (codes "A, FIXTAB") ≡ Ok (body.FixTable, [])
fixtab = refl

fixmri : read known (codes "FIXMRI CALL=JMS I 20")
    ≡ Ok (body.FixOperation (name_number (codes "CALL")), step.Operation 0o4000 ∷ step.Indirect ∷ step.Number 0o20 ∷ [])
fixmri = refl

fixmri_wants_a_blank : read known (codes "FIXMRI.=1") ≡ Err SY
fixmri_wants_a_blank = refl

fixmri_wants_a_free_name : read known (codes "FIXMRI PAGE=1") ≡ Err SY
fixmri_wants_a_free_name = refl

fixmri_has_no_literal : read known (codes "FIXMRI A=(5") ≡ Err SY
fixmri_has_no_literal = refl

-- an operation that EXPUNGE took away is a name like others
no_operation : read expunged (codes "TAD 205") ≡ Ok (body.Word, step.Name (name_number (codes "TAD")) ∷ step.Sign Or ∷ step.Number 0o205 ∷ [])
no_operation = refl

-- a permanent name has its value with it
soft : read known (codes "BSW") ≡ Ok (body.Word, step.Permanent (name_number (codes "BSW")) 0o7002 ∷ [])
soft = refl

-- an operation that isn't followed by a blank is its name
alone : read known (codes "TAD+1")
    ≡ Ok (body.Word, step.Operation 0o1000 ∷ step.Alone ∷ step.Permanent (name_number (codes "TAD")) 0o1000 ∷ step.Sign Plus ∷ step.Number 1 ∷ [])
alone = refl
