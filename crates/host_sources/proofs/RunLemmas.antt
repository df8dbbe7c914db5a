-- The search for a run of letters and digits.
use Rattle.std.proofs.Common.{◌≡◌, ℕ, ◌+◌, ◌-◌, ◌*◌, ◌<◌, ◌≤◌, nat_eq, nat_lt, Bool, true, false, ◌&&◌, ◌||◌, if◌then◌else◌, Option, Some, None, is_some, length, take, get_or, List, [], ◌∷◌, ◌++◌, refl, ap, sym, subst, ◌∙◌, arith}
use Rattle.std.proofs.lemmas.Bool.Decides.{nat_tests}
use Rattle.std.specs.Option.{option_or}
use Rattle.pal_lex.specs.Text.{is_ignored, in_comment, is_dead, is_end, stretch, text_of}
use Rattle.pal_lex.specs.Cutting.{Piece, Run, Mark as Sign, is_coded, is_space, sign_of, is_legal, is_blank, is_operand, without_end_blank, with_character, with_blank, with_sign, with_byte, pieces}
use Rattle.pal_lex.specs.Runs.{are_digits, number_after}
use Rattle.pal_lex.specs.declared.pieces.Kind.{Kind}
use Rattle.pal_lex.specs.declared.pieces.Kind.TheVariants.{Term, Blank}
use Rattle.pal_lex.specs.declared.pieces.Term.TheVariants.{Here}
use Rattle.source_places.proofs.PlaceLemmas.{next_byte}
use Rattle.host_sources.specs.Runs.{first_illegal, first_run}
use Rattle.host_sources.specs.RunSteps.{base_of, is_wanted}
use Rattle.host_sources.specs.RunSteps.{is_number_by, with_live, illegal_by, start_by, newest_run, newest_start, first_run_before, IsSearch}
use Rattle.host_sources.specs.declared.runs.Wanted.{Wanted}
use Rattle.host_sources.specs.declared.runs.Wanted.TheVariants as wanted
use Rattle.host_sources.specs.declared.runs.Search.{Search}
use Rattle.host_sources.proofs.StartLemmas.{length_taken}

-- ## Live bytes

pub live_more : (bytes : List ℕ) (n b : ℕ) (comment : Bool) → n < length bytes → b ≡ get_or bytes n 0 → comment ≡ in_comment (text_of (take (n + 1) bytes))
    → with_live (is_ignored b || comment) (is_end b) b n (stretch (text_of (take n bytes))) ≡ stretch (text_of (take (n + 1) bytes))
live_more bytes n b comment inside is quiet =
    let older = text_of (take n bytes) in
    let next = next_byte bytes n b inside is in
    ap (λ (c : Bool). with_live (is_ignored b || c) (is_end b) b n (stretch older)) (quiet ∙ ap in_comment next)
    ∙ ap (λ (k : ℕ). with_live (is_dead older b) (is_end b) b k (stretch older)) (sym (length_taken bytes n (omega (arith, inside))))
    ∙ sym (ap stretch next)

pub illegal_more : (dead end : Bool) (b place : ℕ) (live : List (ℕ × ℕ)) → illegal_by (first_illegal live) dead end b place ≡ first_illegal (with_live dead end b place live)
illegal_more true end b place live = refl
illegal_more false true b place live = refl
illegal_more false false b place live = refl

-- ## A byte more

or_none : (o : Option ℕ) → option_or o None ≡ o
or_none None = refl
or_none (Some n) = refl

pub wants_none : (w : Wanted) → is_wanted w [] ≡ false
wants_none (wanted.Name n) = refl
wants_none (wanted.BadNumber d) = refl
wants_none wanted.Reading = refl

not_empty : (holds : List ℕ → Bool) → holds [] ≡ false → (found : Option ℕ) → option_or found (if holds [] then Some 0 else None) ≡ found
not_empty holds none found = ap (λ (t : Bool). option_or found (if t then Some 0 else None)) none ∙ or_none found

-- the newest piece with those before it
pub with_newest : (holds : List ℕ → Bool) → holds [] ≡ false → (p : List Piece)
    → option_or (first_run_before holds p) (if holds (newest_run p) then Some (newest_start p) else None) ≡ first_run holds p
with_newest holds none [] = not_empty holds none None
with_newest holds none (Run first others start end ∷ before) = refl
with_newest holds none (Sign kind place ∷ before) = not_empty holds none (first_run holds before)

-- no run goes on
abbrev IsOver : (List ℕ → Bool) → List Piece → List Piece → Type 0
IsOver holds new old = (newest_run new ≡ []) × (newest_start new ≡ 0) × (first_run_before holds new ≡ first_run holds old)

over_trimmed : (holds : List ℕ → Bool) (p : List Piece) → first_run holds (without_end_blank p) ≡ first_run holds p
over_trimmed holds [] = refl
over_trimmed holds (Run first others start end ∷ before) = refl
over_trimmed holds (Sign kind place ∷ before) = by_blank (is_blank kind)
  where
    by_blank : (t : Bool) → first_run holds (if t then before else Sign kind place ∷ before) ≡ first_run holds before
    by_blank true = refl
    by_blank false = refl

over_blank : (holds : List ℕ → Bool) (place : ℕ) (p : List Piece) → IsOver holds (with_blank place p) p
over_blank holds place [] = (refl, refl, refl)
over_blank holds place (Run first others start end ∷ before) = (refl, refl, refl)
over_blank holds place (Sign kind at ∷ before) = by_operand (is_operand kind)
  where
    by_operand : (t : Bool) → IsOver holds (if t then Sign Blank place ∷ Sign kind at ∷ before else Sign kind at ∷ before) (Sign kind at ∷ before)
    by_operand true = (refl, refl, refl)
    by_operand false = (refl, refl, refl)

by_tests : (holds : List ℕ → Bool) (coded space here : Bool) (sign : Option Kind) (b place : ℕ) (p : List Piece) → coded ≡ false
    → (coded || space || here || is_some sign) ≡ true
    → IsOver holds (if coded then with_character b place p else (if space then with_blank place p else (if here then Sign (Term Here) place ∷ p else with_sign sign place p))) p
by_tests holds true space here sign b place p is legal = absurd cc
by_tests holds false true here sign b place p is legal = over_blank holds place p
by_tests holds false false true sign b place p is legal = (refl, refl, refl)
by_tests holds false false false (Some kind) b place p is legal = (refl, refl, over_trimmed holds p)
by_tests holds false false false None b place p is legal = absurd cc

pub over_byte : (holds : List ℕ → Bool) (b place : ℕ) (p : List Piece) → is_coded b ≡ false → is_legal b ≡ true → IsOver holds (with_byte b place p) p
over_byte holds b place p other legal = by_tests holds (is_coded b) (is_space b) (nat_eq b 0o56) (sign_of b) b place p other legal

none_tests : (coded space here : Bool) (sign : Option Kind) (b place : ℕ) (p : List Piece) → (coded || space || here || is_some sign) ≡ false
    → (if coded then with_character b place p else (if space then with_blank place p else (if here then Sign (Term Here) place ∷ p else with_sign sign place p))) ≡ p
none_tests true space here sign b place p legal = absurd cc
none_tests false true here sign b place p legal = absurd cc
none_tests false false true sign b place p legal = absurd cc
none_tests false false false (Some kind) b place p legal = absurd cc
none_tests false false false None b place p legal = refl

pub illegal_byte : (b place : ℕ) (p : List Piece) → is_legal b ≡ false → with_byte b place p ≡ p
illegal_byte b place p legal = none_tests (is_coded b) (is_space b) (nat_eq b 0o56) (sign_of b) b place p legal

coded_byte : (b place : ℕ) (p : List Piece) → is_coded b ≡ true → with_byte b place p ≡ with_character b place p
coded_byte b place p coded = rw coded refl

grown_run : (b place : ℕ) (p : List Piece) → newest_run (with_character b place p) ≡ newest_run p ++ b ∷ []
grown_run b place [] = refl
grown_run b place (Run first others start end ∷ before) = refl
grown_run b place (Sign kind at ∷ before) = refl

grown_start : (b place : ℕ) (p : List Piece) → newest_start (with_character b place p) ≡ start_by (newest_run p) place (newest_start p)
grown_start b place [] = refl
grown_start b place (Run first others start end ∷ before) = refl
grown_start b place (Sign kind at ∷ before) = refl

grown_found : (holds : List ℕ → Bool) (b place : ℕ) (p : List Piece) → first_run_before holds (with_character b place p) ≡ first_run_before holds p
grown_found holds b place [] = refl
grown_found holds b place (Run first others start end ∷ before) = refl
grown_found holds b place (Sign kind at ∷ before) = refl

-- ## What the search comes to

pub same_dead : (holds : List ℕ → Bool) (dead end : Bool) (b place : ℕ) (live : List (ℕ × ℕ)) (s : Search) → dead ≡ true → IsSearch holds s (pieces live)
    → IsSearch holds s (pieces (with_live dead end b place live))
same_dead holds true end b place live s is stands = stands
same_dead holds false end b place live s is stands = absurd cc

pub with_end : (holds : List ℕ → Bool) (dead end : Bool) (b place : ℕ) (live : List (ℕ × ℕ)) (s : Search) → dead ≡ false → end ≡ true
    → s.run.items ≡ [] → s.start ≡ 0 → s.first ≡ None → IsSearch holds s (pieces (with_live dead end b place live))
with_end holds true end b place live s going is run start found = absurd cc
with_end holds false true b place live s going is run start found = record { run = run; start = start; found = found }
with_end holds false false b place live s going is run start found = absurd cc

-- a byte that lives
pub with_living : (holds : List ℕ → Bool) (dead end : Bool) (b place : ℕ) (live : List (ℕ × ℕ)) (s : Search) → dead ≡ false → end ≡ false
    → IsSearch holds s (with_byte b place (pieces live)) → IsSearch holds s (pieces (with_live dead end b place live))
with_living holds true end b place live s going on stands = absurd cc
with_living holds false true b place live s going on stands = absurd cc
with_living holds false false b place live s going on stands = stands

pub grown_search : (holds : List ℕ → Bool) (b place : ℕ) (p : List Piece) (old new : Search) → is_coded b ≡ true → IsSearch holds old p
    → new.run.items ≡ old.run.items ++ b ∷ [] → new.start ≡ start_by old.run.items place old.start → new.first ≡ old.first
    → IsSearch holds new (with_byte b place p)
grown_search holds b place p old new coded stands run start found =
    let is = sym (coded_byte b place p coded) in
    record {
      run = run ∙ ap (λ l. l ++ b ∷ []) stands.run ∙ sym (grown_run b place p) ∙ ap newest_run is;
      start = start ∙ ap (λ l. start_by l place old.start) stands.run ∙ ap (start_by (newest_run p) place) stands.start ∙ sym (grown_start b place p) ∙ ap newest_start is;
      found = found ∙ stands.found ∙ sym (grown_found holds b place p) ∙ ap (first_run_before holds) is;
    }

abbrev Closes : (List ℕ → Bool) → Search → Search → Type 0
Closes holds old new =
    (new.run.items ≡ []) × (new.start ≡ 0) × (new.first ≡ option_or old.first (if holds old.run.items then Some old.start else None))

pub closed_found : (holds : List ℕ → Bool) (p : List Piece) (old : Search) (found : Option ℕ) → holds [] ≡ false → IsSearch holds old p
    → found ≡ option_or old.first (if holds old.run.items then Some old.start else None) → found ≡ first_run holds p
closed_found holds p old found none stands is =
    is ∙ ap (λ f. option_or f (if holds old.run.items then Some old.start else None)) stands.found
    ∙ ap (λ l. option_or (first_run_before holds p) (if holds l then Some old.start else None)) stands.run
    ∙ ap (λ (n : ℕ). option_or (first_run_before holds p) (if holds (newest_run p) then Some n else None)) stands.start
    ∙ with_newest holds none p

pub closed_search : (holds : List ℕ → Bool) (b place : ℕ) (p : List Piece) (old new : Search) → holds [] ≡ false → is_coded b ≡ false → is_legal b ≡ true
    → IsSearch holds old p → new.run.items ≡ [] → new.start ≡ 0
    → new.first ≡ option_or old.first (if holds old.run.items then Some old.start else None)
    → IsSearch holds new (with_byte b place p)
closed_search holds b place p old new none other legal stands run start found =
    let over = over_byte holds b place p other legal in
    record {
      run = run ∙ sym over.0;
      start = start ∙ sym over.1;
      found = closed_found holds p old new.first none stands found ∙ sym over.2;
    }

pub same_search : (holds : List ℕ → Bool) (b place : ℕ) (p : List Piece) (s : Search) → is_legal b ≡ false → IsSearch holds s p → IsSearch holds s (with_byte b place p)
same_search holds b place p s legal = subst (IsSearch holds s) (sym (illegal_byte b place p legal))

pub no_piece : (holds : List ℕ → Bool) (s : Search) → s.run.items ≡ [] → s.start ≡ 0 → s.first ≡ None → IsSearch holds s []
no_piece holds s run start found = record { run = run; start = start; found = found }

-- ## Numbers

grows_octal : (n : ℕ) (digits : List ℕ) → n ≤ number_after 8 n digits
grows_octal n [] = omega arith
grows_octal n (c ∷ others) = let more = grows_octal (8 * n + (c - 0o60)) others in omega (arith, more)

grows_decimal : (n : ℕ) (digits : List ℕ) → n ≤ number_after 10 n digits
grows_decimal n [] = omega arith
grows_decimal n (c ∷ others) = let more = grows_decimal (10 * n + (c - 0o60)) others in omega (arith, more)

grows : (d : Bool) (n : ℕ) (digits : List ℕ) → n ≤ number_after (base_of d) n digits
grows true n digits = grows_decimal n digits
grows false n digits = grows_octal n digits

and_false : (t : Bool) → (t && false) ≡ false
and_false true = refl
and_false false = refl

not_below : (n : ℕ) → 0o10000 ≤ n → nat_lt n 0o10000 ≡ false
not_below n high = grind (arith, nat_tests, high)

-- a number that is above twelve bits stays so
pub too_high : (d : Bool) (n c : ℕ) (others : List ℕ) → 0o7777 < base_of d * n + (c - 0o60) → is_number_by (base_of d) n (c ∷ others) ≡ false
too_high d n c others high =
    let more = grows d (base_of d * n + (c - 0o60)) others in
    ap (λ (t : Bool). are_digits (base_of d) (c ∷ others) && t) (not_below (number_after (base_of d) (base_of d * n + (c - 0o60)) others) (omega (arith, more, high)))
    ∙ and_false (are_digits (base_of d) (c ∷ others))

pub too_high_by : (d : Bool) (n c base digit : ℕ) (others : List ℕ) → base ≡ base_of d → digit ≡ c → 0o7777 < base * n + (digit - 0o60)
    → is_number_by (base_of d) n (c ∷ others) ≡ false
too_high_by d n c base digit others is same high =
    too_high d n c others (subst (λ b. 0o7777 < b * n + (c - 0o60)) is (subst (λ x. 0o7777 < base * n + (x - 0o60)) same high))
