-- A byte more of a text that is looked through.
use Rattle.std.proofs.Common.{◌≡◌, ◌≤◌, ◌-◌, ℕ, Option, None, Some, Result, Ok, Err, OnOk, length, get_or, take, drop, List, [], ◌∷◌, ◌++◌, sym, ap, subst, ◌∙◌, arith}
use Rattle.std.proofs.lemmas.List.{take_all}
use Rattle.pal_lex.specs.Text.{limit, text_from}
use Rattle.pal8_lex.specs.Reading as lex
use Rattle.pal8_lex.specs.declared.rules.End.{End}
use Rattle.pal8_asm.specs.Pushing.{EndsStatement, shown_statement}
use Rattle.pal8_asm.specs.Sources.{PassResult, Statement, statements}
use Rattle.pal8_tape.specs.declared.join_faults.JoinFault.{JoinFault}
use Rattle.pal8_tape.specs.Joins.{pass_on}
use Rattle.pal8_tape.specs.Passing.{Follows, PassState}
use Rattle.pal8_listing.specs.Items.{items_after}
use Rattle.pal8_listing.specs.ItemSteps.{HasLooked, LooksAtOne}

module _ {A : Type 0} (in_statement : PassResult → Statement → List A) (first : PassResult) (here : List ℕ) (b : ℕ) (old new : lex.Progress) (before : PassState) (found : List A)
    (looked : HasLooked in_statement first here found old before) where
  -- a byte that ends no statement
  pub goes_on : EndsStatement here b None new → HasLooked in_statement first (b ∷ here) found new before
  goes_on it = record {
    has_read = it.1;
    follows = subst (λ l. Follows before (pass_on first l)) (sym it.0) looked.follows;
    are = looked.are ∙ ap (items_after in_statement first) (sym it.0);
  }

  -- a byte that ends one
  pub ends_one : (e : End) → EndsStatement here b (Some e) new → (more : List A) (after : PassState) (result : Result (Unit {0}) JoinFault)
      → OnOk result (LooksAtOne in_statement (pass_on first (statements here)) (shown_statement (limit (length here)) e new) found more after)
      → OnOk result (HasLooked in_statement first (b ∷ here) more new after)
  ends_one e it more after (Ok nothing) met = record {
    has_read = it.1;
    follows = subst (λ l. Follows after (pass_on first l)) (sym it.0) met.1;
    are =
        met.0 ∙ ap (λ l. l ++ in_statement (pass_on first (statements here)) (shown_statement (limit (length here)) e new)) looked.are
        ∙ ap (items_after in_statement first) (sym it.0);
  }
  ends_one e it more after (Err fault) met = tt

-- a text of whose bytes the first is taken
pub next-byte : (here rest : List ℕ) → 1 ≤ length rest → text_from (get_or rest 0 0 ∷ here) (take (length rest - 1) (drop 1 rest)) ≡ text_from here rest
next-byte here [] long = absurd (omega (arith, long))
next-byte here (b ∷ bytes) long = ap (text_from (b ∷ here)) (take_all (length (b ∷ bytes) - 1) bytes (omega arith))
