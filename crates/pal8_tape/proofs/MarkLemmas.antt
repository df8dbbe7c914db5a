-- Where in its statement a fault is.
use Rattle.std.proofs.Common.{◌≡◌, ℕ, true, if◌then◌else◌, Option, Some, None, Ok, List, [], ◌∷◌, sym, ap, ◌∙◌}
use Rattle.pal8_lex.specs.Reading.{Answers, Progress, statement_at_end}
use Rattle.pal8_lex.specs.Statements.{Statement, statements}
use Rattle.pal8_lex.specs.declared.rules.End.{End}
use Rattle.pal8_lex.specs.declared.tokens.Token.{Token}
use Rattle.pal8_lex.specs.declared.judging.Radix.{Radix}
use Rattle.pal8_places.specs.declared.faults.Code.{Code}
use Rattle.pal8_tape.specs.Marks.{begins, mark_in, mark_of}
use Rattle.pal8_lex.specs.Text.{as_read, live}
use Rattle.pal8_lex.specs.Statements.{statement_of}

tokens_or : Option Statement → List Token
tokens_or None = []
tokens_or (Some s) = s.tokens

shown_tokens : (e : Option End) (l : Progress) (s : Statement) → statement_at_end e l ≡ Some s → l.draft.tokens ≡ s.tokens
unfolding tokens_or
shown_tokens None l s is = absurd cc
shown_tokens (Some e) l s is = ap tokens_or is

-- a statement more
pub with_one : (code : Code) (radix : Radix) (start mark : ℕ) (text : List ℕ) (b : ℕ) (new : Progress) → Answers text b (Ok true) new
    → mark ≡ mark_in code radix start (statements text)
    → (if begins start new.draft.tokens then mark_of code radix start new.draft.tokens else mark) ≡ mark_in code radix start (statements (b ∷ text))
with_one code radix start mark text b new answers is =
    let s = statement_of (as_read b) (live text) in
    ap (λ t. if begins start t then mark_of code radix start t else mark) (shown_tokens new.end new s answers.0)
    ∙ ap (λ m. if begins start s.tokens then mark_of code radix start s.tokens else m) is
    ∙ sym (ap (mark_in code radix start) answers.1)
