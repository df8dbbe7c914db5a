-- What further statements leave as it is.
use Rattle.std.proofs.Common.{◌≡◌, ℕ, ◌-◌, ◌≤◌, suc, Bool, true, false, if◌then◌else◌, is_some, Option, Some, None, Result, Ok, Err, length, take, drop, List, [], ◌∷◌, ◌++◌, refl, sym, ap, subst, ◌∙◌, arith}
use Rattle.std.specs.Prelude.{slice_index}
use Rattle.std.proofs.lemmas.List.{append_assoc, take_all}
use Rattle.std.specs.Prelude.{◌+◌}
use Rattle.pal_lex.specs.Text.{limit, text_from, text_of}
use Rattle.pal8_lex.specs.Reading as lex
use Rattle.pal8_lex.specs.Reading.{HasRead}
use Rattle.pal8_lex.specs.Text.{as_read, is_dropped, line_after, live}
use Rattle.pal8_lex.specs.Pieces.{ends, pieces}
use Rattle.pal8_lex.specs.Statements as lex_statements
use Rattle.pal8_lex.specs.Statements.{statement_of}
use Rattle.pal8_asm.specs.Laws.{FaultStays}
use Rattle.pal8_asm.specs.Sources.{Remainder, Source, at_place, end_of_pass, statement_at, first_left, pass_over, place_after, statements, statements_of, with_end, with_next, with_selected, with_skipped}
use Rattle.pal8_places.specs.Brackets.{has_none, is_selected}
use Rattle.pal8_asm.specs.declared.faults.Fault.{Fault}
use Rattle.pal8_asm.specs.declared.faults.Place.{Place}
use Rattle.pal8_asm.specs.Making.{IsMaking, IsMakingIn}
use Rattle.pal8_asm.specs.Steps.{Closes, HasReadAll, HasTaken, IsOnTheWay, MakesIn, ReadsOn, TakesByte}
use Rattle.pal8_asm.specs.Assembling.{IsMade, MakesWords, Progress, ReadsText, remainder_of}
use Rattle.pal8_asm.specs.Tapes.{TapeWords, without_clash, unless_clash, nothing_made}
use Rattle.pal8_pools.specs.Pooled.{Holds, PoolTable}
use Rattle.pal8_pools.specs.Clashes.{AreMarks}
use Rattle.pal8_asm.specs.declared.words.MadeWords.{MadeWords}
use Rattle.pal8_asm.specs.declared.faults.AsmFault.{AsmFault}
use Rattle.pal8_places.specs.declared.options.Options.{Options}
use Rattle.pal8_asm.specs.declared.faults.AsmFault.TheVariants.{At, Memory}
use Rattle.pal8_places.specs.declared.faults.Code.TheVariants as code

-- the statements of a text stay whatever follows it
pub statements_stay : (text later : List ℕ) → (more : Source) × (statements (later ++ text) ≡ more ++ statements text)
statements_stay text [] = ([], refl)
statements_stay text (b ∷ later) = by_drop (is_dropped b) (statements_stay text later)
  where
    by_end : (test : Bool) → (more : Source) × (statements (later ++ text) ≡ more ++ statements text)
        → (more : Source) × ((if test then statement_at (limit (length (later ++ text))) (statement_of (as_read b) (live (later ++ text))) ∷ statements (later ++ text) else statements (later ++ text)) ≡ more ++ statements text)
    by_end true it = (statement_at (limit (length (later ++ text))) (statement_of (as_read b) (live (later ++ text))) ∷ it.0, ap (λ l. statement_at (limit (length (later ++ text))) (statement_of (as_read b) (live (later ++ text))) ∷ l) it.1)
    by_end false it = it

    by_drop : (test : Bool) → (more : Source) × (statements (later ++ text) ≡ more ++ statements text)
        → (more : Source) × (statements_of (if test then live (later ++ text) else (as_read b, length (later ++ text)) ∷ live (later ++ text)) ≡ more ++ statements text)
    by_drop true it = it
    by_drop false it = by_end (ends (pieces (live (later ++ text))) (as_read b)) it

-- ## A byte more

not_longer : {A : Type 0} (a : A) (l : List A) → l ≡ a ∷ l → ⊥
not_longer a l is = omega (arith, ap length is)

abbrev lexed : List (ℕ × ℕ) → List lex_statements.Statement
lexed bytes = lex_statements.statements_of bytes

-- the byte that ends a statement
pub byte_ends_one : (here : List ℕ) (b : ℕ) (s : lex_statements.Statement) → lexed (live (b ∷ here)) ≡ s ∷ lexed (live here)
    → statements (b ∷ here) ≡ statement_at (limit (length here)) (statement_of (as_read b) (live here)) ∷ statements here
byte_ends_one here b s is = by_drop (is_dropped b) is
  where
    by_end : (test : Bool) → (if test then statement_of (as_read b) (live here) ∷ lexed (live here) else lexed (live here)) ≡ s ∷ lexed (live here)
        → (if test then statement_at (limit (length here)) (statement_of (as_read b) (live here)) ∷ statements here else statements here) ≡ statement_at (limit (length here)) (statement_of (as_read b) (live here)) ∷ statements here
    by_end true is = refl
    by_end false is = absurd (not_longer s (lexed (live here)) is)

    by_drop : (test : Bool) → lexed (if test then live here else (as_read b, length here) ∷ live here) ≡ s ∷ lexed (live here)
        → statements_of (if test then live here else (as_read b, length here) ∷ live here) ≡ statement_at (limit (length here)) (statement_of (as_read b) (live here)) ∷ statements here
    by_drop true is = absurd (not_longer s (lexed (live here)) is)
    by_drop false is = by_end (ends (pieces (live here)) (as_read b)) is

-- another byte
pub byte_ends_none : (here : List ℕ) (b : ℕ) → lexed (live (b ∷ here)) ≡ lexed (live here) → statements (b ∷ here) ≡ statements here
byte_ends_none here b is = by_drop (is_dropped b) is
  where
    by_end : (test : Bool) → (if test then statement_of (as_read b) (live here) ∷ lexed (live here) else lexed (live here)) ≡ lexed (live here)
        → (if test then statement_at (limit (length here)) (statement_of (as_read b) (live here)) ∷ statements here else statements here) ≡ statements here
    by_end true is = absurd (not_longer (statement_of (as_read b) (live here)) (lexed (live here)) (sym is))
    by_end false is = refl

    by_drop : (test : Bool) → lexed (if test then live here else (as_read b, length here) ∷ live here) ≡ lexed (live here)
        → statements_of (if test then live here else (as_read b, length here) ∷ live here) ≡ statements here
    by_drop true is = refl
    by_drop false is = by_end (ends (pieces (live here)) (as_read b)) is

-- ## What follows

-- a fault is the fault of what follows, too
fault_stays : (options : Options) (further source : Source) (fault : Fault) → pass_over options source ≡ Err fault → pass_over options (further ++ source) ≡ Err fault
fault_stays options [] source fault is = is
fault_stays options (s ∷ further) source fault is = ap (with_next s) (fault_stays options further source fault is)

-- what follows the `$` that ends a source leaves nothing
end_stays : (options : Options) (further source : Source) (left : Remainder) → is_some left.end ≡ true → pass_over options source ≡ Ok left → pass_over options (further ++ source) ≡ Ok left
end_stays options [] source left ends is = is
end_stays options (s ∷ further) source left ends is =
    ap (with_next s) (end_stays options further source left ends is)
    ∙ ap (λ test. if test then Ok left else (if is_selected left.brackets then with_selected s left else Ok (with_skipped s left))) ends

-- ## Texts

-- what was read stands first in the whole
text_after : (here rest : List ℕ) → (later : List ℕ) × (text_from here rest ≡ later ++ here)
text_after here [] = ([], refl)
text_after here (b ∷ rest) =
    let it = text_after (b ∷ here) rest in
    (it.0 ++ b ∷ [], it.1 ∙ sym (append_assoc it.0 (b ∷ []) here))

statements_after : (here rest whole : List ℕ) → text_from here rest ≡ whole → (more : Source) × (statements whole ≡ more ++ statements here)
statements_after here rest whole same =
    let it = text_after here rest in
    let more = statements_stay here it.0 in
    (more.0, ap statements (sym same ∙ it.1) ∙ more.1)

-- the source is over where a `$` ended it
pub way_ends : (options : Options) (whole rest : List ℕ) (lexer : lex.Progress) (at : ℕ) (a : Progress) → is_some a.end ≡ true → IsOnTheWay options whole rest lexer at a → HasReadAll options whole lexer at a
way_ends options whole rest lexer at a ends way =
    let more = statements_after way.here rest whole way.same in
    record {
      leaves = ap (pass_over options) more.1 ∙ end_stays options more.0 (statements way.here) (remainder_of a) ends way.taken.leaves;
      counts = λ none. absurd (not_both (sym (ap is_some none) ∙ ends));
    }
  where
    not_both : false ≡ true → ⊥
    not_both is = cc

-- the text is over
pub way_is_over : (options : Options) (whole rest : List ℕ) (lexer : lex.Progress) (at : ℕ) (a : Progress) → length rest ≡ 0 → IsOnTheWay options whole rest lexer at a → HasReadAll options whole lexer at a
way_is_over options whole [] lexer at a none way =
    let taken = subst (λ w. HasTaken options w lexer a) way.same way.taken in
    record { leaves = taken.leaves; counts = λ now. (way.counts ∙ ap (λ w. limit (length w)) way.same, taken.has_read) }
way_is_over options whole (b ∷ rest) lexer at a none way = absurd (omega (arith, none))

-- what stands after the first of a list
abbrev pub following_one : {A : Type 0} → List A → List A
following_one l = take (length l - 1) (drop 1 l)

less_one : (n : ℕ) → suc n - 1 ≡ n
less_one n = omega arith

first_one : (l : List ℕ) → 1 ≤ length l → l ≡ slice_index l 0 ∷ following_one l
first_one [] long = absurd (omega (arith, long))
first_one (x ∷ others) long = ap (λ v. x ∷ v) (sym (ap (λ n. take n others) (less_one (length others)) ∙ take_all (length others) others (omega arith)))

limit_more : (n : ℕ) → limit (limit n + 1) ≡ limit (suc n)
limit_more n = omega arith

module _ (options : Options) (whole rest : List ℕ) (lexer lexer' : lex.Progress) (at : ℕ) (a a' : Progress) (long : 1 ≤ length rest)
    (way : IsOnTheWay options whole rest lexer at a) where
  same_again : text_from (slice_index rest 0 ∷ way.here) (following_one rest) ≡ whole
  same_again = sym (ap (text_from way.here) (first_one rest long)) ∙ way.same

  pub way_goes_on : HasTaken options (slice_index rest 0 ∷ way.here) lexer' a' → IsOnTheWay options whole (following_one rest) lexer' (limit (at + 1)) a'
  way_goes_on taken = record {
    here = slice_index rest 0 ∷ way.here;
    counts = ap (λ n. limit (n + 1)) way.counts ∙ limit_more (length way.here);
    same = same_again;
    taken = taken;
  }

  -- a byte with a fault has the fault of the text
  pub way_fails : (fault : AsmFault) → TakesByte options (slice_index rest 0 ∷ way.here) (Err fault) lexer' a' → ReadsOn options whole (Err fault) lexer' at a'
  way_fails (At code place) fails =
      let more = statements_after (slice_index rest 0 ∷ way.here) (following_one rest) whole same_again in
      ap (pass_over options) more.1 ∙ fault_stays options more.0 (statements (slice_index rest 0 ∷ way.here)) (at_place place code) fails
  way_fails Memory fails = tt

-- nothing is read yet
pub starts : (options : Options) (whole : List ℕ) (lexer : lex.Progress) (a : Progress) → HasRead lexer [] → remainder_of a ≡ first_left options → IsOnTheWay options (text_of whole) whole lexer 0 a
starts options whole lexer a read is =
    record { here = []; counts = refl; same = refl; taken = record { has_read = read; leaves = ap Ok (sym is) } }

-- the end of a text without a `$`
pub text_end : (whole : List ℕ) (lexer : lex.Progress) (at line : ℕ) → at ≡ limit (length whole) → HasRead lexer whole → line ≡ (lex.anew lexer).line
    → record { line = line; start = at } ≡ place_after whole
unfolding HasRead
text_end whole lexer at line counts read is =
    ap (λ l. record { line = l; start = at }) (is ∙ ap (λ (p : lex.Progress). p.line) read) ∙ ap (λ n. record { line = line_after (live whole); start = n }) counts

-- what the end of a text comes to
pub text_closes : (options : Options) (whole : List ℕ) (lexer : lex.Progress) (at : ℕ) (a : Progress) → HasReadAll options whole lexer at a → (result : Result Place AsmFault)
    → Closes (with_end whole (remainder_of a) a.brackets a.end) result a → ReadsText options whole result a
text_closes options whole lexer at a read (Ok place) closes = (ap (end_of_pass whole) read.leaves ∙ closes.0, closes.1)
text_closes options whole lexer at a read (Err (At code place)) closes = ap (end_of_pass whole) read.leaves ∙ closes
text_closes options whole lexer at a read (Err Memory) closes = tt

-- what reading further fails for
pub text_fails : (options : Options) (whole : List ℕ) (lexer : lex.Progress) (at : ℕ) (a : Progress) (fault : AsmFault) → ReadsOn options whole (Err fault) lexer at a → ReadsText options whole (Err fault) a
text_fails options whole lexer at a (At code place) fails = ap (end_of_pass whole) fails
text_fails options whole lexer at a Memory fails = tt

-- ## Ends

module _ (text : List ℕ) (left : Remainder) (place : Place) where
  pub ends_closed : (now : List Bool) (end : Option Place) → has_none now ≡ true → end ≡ Some place → with_end text left now end ≡ Ok left
  ends_closed [] end none is = ap (with_end text left []) is
  ends_closed (newest ∷ outer) end none is = absurd cc

  pub ends_open : (now : List Bool) (end : Option Place) → has_none now ≡ false → end ≡ Some place → with_end text left now end ≡ Err (at_place place code.PH)
  ends_open [] end none is = absurd cc
  ends_open (newest ∷ outer) end none is = ap (with_end text left (newest ∷ outer)) is

  pub lacks_dollar : (now : List Bool) (end : Option Place) → has_none now ≡ true → end ≡ None → place ≡ place_after text
      → with_end text left now end ≡ Err (at_place place code.NE)
  lacks_dollar [] end none is at = ap (with_end text left []) is ∙ ap (λ p. Err (at_place p code.NE)) (sym at)
  lacks_dollar (newest ∷ outer) end none is at = absurd cc

  pub lacks_close : (now : List Bool) (end : Option Place) → has_none now ≡ false → end ≡ None → place ≡ place_after text
      → with_end text left now end ≡ Err (at_place place code.PH)
  lacks_close [] end none is at = absurd cc
  lacks_close (newest ∷ outer) end none is at = ap (with_end text left (newest ∷ outer)) is ∙ ap (λ p. Err (at_place p code.PH)) (sym at)

-- nothing is made yet
pub starts_making : (pools : PoolTable) (marks : List Bool) (clash : Option Fault) (pairs : List (ℕ × ℕ)) → Holds pools [] [] → AreMarks marks [] → clash ≡ None → pairs ≡ []
    → IsMaking (Ok nothing_made) pools marks clash pairs
starts_making pools marks clash pairs holds marked none empty = record {
  made = nothing_made;
  is_whole = refl;
  words = empty;
  holds = holds;
  marked = marked;
  clashes = none;
  free = λ is. refl;
}

pub words_fail : (whole : Result TapeWords Fault) (fault : AsmFault) (made : MadeWords) → MakesIn whole (Err fault) made → MakesWords (without_clash whole) (Err fault)
words_fail whole (At code place) made is = ap without_clash is
words_fail whole Memory made is = tt

pub words_clash : (whole : Result TapeWords Fault) (made : MadeWords) (fault : Fault) → IsMakingIn whole made → made.clash ≡ Some fault
    → MakesWords (without_clash whole) (Err (At fault.code fault.place))
words_clash whole made fault making is = ap without_clash making.is_whole ∙ ap (unless_clash making.made) (sym making.clashes ∙ is)

pub words_clear : (whole : Result TapeWords Fault) (made : MadeWords) → IsMakingIn whole made → made.clash ≡ None → IsMade (without_clash whole) made.pools made.pairs.items
words_clear whole made making is = record {
  made = making.made;
  is_whole = ap without_clash making.is_whole ∙ ap (unless_clash making.made) (sym making.clashes ∙ is);
  words = making.words;
  holds = making.holds;
}

pub text_fault_stays : FaultStays
text_fault_stays options later text fault fails =
    let more = statements_stay text later in
    ap (end_of_pass (later ++ text)) (ap (pass_over options) more.1 ∙ fault_stays options more.0 (statements text) fault fails)
