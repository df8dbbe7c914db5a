-- One byte more of a text.
use Rattle.std.proofs.Common.{◌≡◌, ℕ, true, false, Option, Some, None, Result, Ok, Err, length, List, ◌∷◌, sym, ap, ◌∙◌}
use Rattle.pal_lex.specs.Text.{limit}
use Rattle.pal8_lex.specs.Reading as lex
use Rattle.pal8_lex.specs.Reading.{Answers, statement_at_end}
use Rattle.pal8_lex.specs.Text.{as_read, live}
use Rattle.pal8_lex.specs.Statements as lex_statements
use Rattle.pal8_lex.specs.Statements.{is_string, statement_of}
use Rattle.pal8_lex.specs.declared.rules.End.{End}
use Rattle.pal8_asm.specs.Pushing.{EndsStatement, shown_statement}
use Rattle.pal8_asm.specs.Sources.{Statement, statement_at, pass_over, statements, with_next}
use Rattle.pal8_asm.specs.Steps.{HasTaken, TakesByte}
use Rattle.pal8_asm.specs.Assembling.{Progress, Takes, remainder_of}
use Rattle.pal8_asm.specs.declared.faults.AsmFault.{AsmFault}
use Rattle.pal8_places.specs.declared.options.Options.{Options}
use Rattle.pal8_asm.specs.declared.faults.AsmFault.TheVariants.{At, Memory}
use Rattle.pal8_asm.proofs.SourceLemmas.{byte_ends_none, byte_ends_one}

abbrev some_or : {A : Type 0} → A → Option A → A
some_or other None = other
some_or other (Some a) = a

newest_is : (here : List ℕ) (b : ℕ) (e : End) (l : lex.Progress) → l.end ≡ Some e → Answers here b (Ok true) l
    → statements (b ∷ here) ≡ shown_statement (limit (length here)) e l ∷ statements here
newest_is here b e l ends it =
    let s : lex_statements.Statement = statement_of (as_read b) (live here) in
    let is : Some (record { line = l.line; tokens = l.draft.tokens; string = l.draft.string; is_cut = is_string l.draft.state; end = e }) ≡ Some s =
    ap (λ o. statement_at_end o l) (sym ends) ∙ it.0 in
    byte_ends_one here b s it.1 ∙ ap (λ x. statement_at (limit (length here)) x ∷ statements here) (sym (ap (some_or s) is))

none_some : {A : Type 0} (a : A) → None ≡ Some a → ⊥
none_some a is = cc

-- the byte ends nothing
pub none_shown : (here : List ℕ) (b : ℕ) (l : lex.Progress) → Answers here b (Ok false) l → EndsStatement here b None l
none_shown here b l it = (byte_ends_none here b it.0, it.1)

-- what the lexer shows is the statement that a byte ends
pub statement_shown : (here : List ℕ) (b : ℕ) (e : Option End) (l : lex.Progress) → l.end ≡ e → Answers here b (Ok true) l → EndsStatement here b e l
statement_shown here b None l ends it = absurd (none_some _ (sym (ap (λ o. statement_at_end o l) ends) ∙ it.0))
statement_shown here b (Some e) l ends it = (newest_is here b e l ends it, it.2)

-- the byte ends nothing, and what was taken stays
pub byte_goes_on : (options : Options) (here : List ℕ) (b : ℕ) (l l' : lex.Progress) (a : Progress) → HasTaken options here l a → EndsStatement here b None l' → HasTaken options (b ∷ here) l' a
byte_goes_on options here b l l' a taken it = record { has_read = it.1; leaves = ap (pass_over options) it.0 ∙ taken.leaves }

-- the byte ends a statement
pub statement_taken : (options : Options) (here : List ℕ) (b at : ℕ) (e : End) (l l' : lex.Progress) (a a' : Progress) (s : Statement) → at ≡ limit (length here)
    → s ≡ shown_statement at e l' → EndsStatement here b (Some e) l' → HasTaken options here l a → (result : Result (Unit {0}) AsmFault)
    → Takes (with_next s (Ok (remainder_of a))) result a' → TakesByte options (b ∷ here) result l' a'
statement_taken options here b at e l l' a a' s place is it taken result takes = by_result result takes
  where
    comes : pass_over options (statements (b ∷ here)) ≡ with_next s (Ok (remainder_of a))
    comes =
        ap (pass_over options) (it.0 ∙ ap (λ n. shown_statement n e l' ∷ statements here) (sym place) ∙ ap (λ x. x ∷ statements here) (sym is))
        ∙ ap (with_next s) taken.leaves

    by_result : (result : Result (Unit {0}) AsmFault) → Takes (with_next s (Ok (remainder_of a))) result a' → TakesByte options (b ∷ here) result l' a'
    by_result (Ok nothing) takes = record { has_read = it.1; leaves = comes ∙ takes }
    by_result (Err (At code start)) takes = comes ∙ takes
    by_result (Err Memory) takes = tt
