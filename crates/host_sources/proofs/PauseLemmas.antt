-- Where a text pauses.
use Rattle.std.proofs.Common.{◌≡◌, ℕ, ◌+◌, ◌≤◌, ◌<◌, nat_eq, Bool, true, false, ◌&&◌, ◌||◌, not, if◌then◌else◌, Some, None, Result, Ok, Err, suc, length, take, drop, get_or, List, [], ◌∷◌, ◌++◌, refl, ap, sym, subst, ◌∙◌, arith}
use Rattle.std.proofs.lemmas.Bool.Decides.{nat_tests}
use Rattle.std.proofs.lemmas.List.{take_all, take-append-drop}
use Rattle.pal_lex.specs.Text.{in_comment, is_dead, is_end, is_over, ends_statement, stretch, up_to_end, text_from, text_of, line_after}
use Rattle.pal_lex.specs.Statements.{statements, first_fault, judge_statement, radix_after}
use Rattle.pal_lex.specs.Joins.{is_pause, pauses, IsClear, first_text, before_pause}
use Rattle.pal_lex.specs.Laws.{PauseIsBad}
use Rattle.pal_lex.specs.Reading.{HasRead, Answers, TellsFault, HandsOut, is_pause_body, tokens_after, with_tokens}
use Rattle.pal_lex.specs.Progress.{Progress}
use Rattle.pal_faults.specs.declared.lexical.LexFault.{LexFault}
use Rattle.pal_faults.specs.declared.lexical.LexFault.TheVariants as lex
use Rattle.pal_lex.specs.declared.phrases.Statement.{Statement}
use Rattle.source_places.proofs.PlaceLemmas.{next_byte}
use Rattle.host_sources.specs.Steps.{is_memory, end_by, Meets, is_pause_met, ends_text, Renews, IsPrefix}
use Rattle.host_sources.specs.declared.pauses.Met.{Met}
use Rattle.host_sources.specs.declared.pauses.Met.TheVariants.{Nothing, End, Pause}
use Rattle.pal_lex.proofs.JoinLemmas.{bytes_joined, clear_comment, clear_stretch, dead_joined}
use Rattle.pal_lex.proofs.ShapeLemmas.{same_pause}

-- ## A text after one that ends after a statement

over_joined : (here before : List ℕ) → in_comment before ≡ false → is_over before ≡ false → is_over (here ++ before) ≡ is_over here
over_joined [] before quiet going = going
over_joined (b ∷ here) before quiet going =
    ap (λ (o : Bool). o || (nat_eq b 36 && not (is_dead (here ++ before) b))) (over_joined here before quiet going)
    ∙ ap (λ (d : Bool). is_over here || (nat_eq b 36 && not d)) (dead_joined here before b quiet)

ends_joined : (here before : List ℕ) (b : ℕ) → in_comment before ≡ false → is_over before ≡ false → ends_statement (here ++ before) b ≡ ends_statement here b
ends_joined here before b quiet going =
    ap (λ (d : Bool). is_end b && not d && not (is_over (here ++ before))) (dead_joined here before b quiet)
    ∙ ap (λ (o : Bool). is_end b && not (is_dead here b) && not o) (over_joined here before quiet going)

pauses_joined : (here before : List ℕ) (b : ℕ) → IsClear before → pauses (here ++ before) b ≡ pauses here b
pauses_joined here before b clear =
    ap (λ (t : Bool). t && is_pause (stretch (here ++ before))) (ends_joined here before b (clear_comment before clear.0) clear.1)
    ∙ ap (λ (t : Bool). ends_statement here b && t) (same_pause (stretch (here ++ before)) (stretch here) (bytes_joined here before (clear_comment before clear.0) (clear_stretch before clear.0)))

cut_by : (dead end : Bool) (b : ℕ) (here before long : List ℕ) → long ≡ up_to_end here ++ before
    → (if dead then long else (if end then b ∷ here ++ before else long)) ≡ (if dead then up_to_end here else (if end then b ∷ here else up_to_end here)) ++ before
cut_by true end b here before long e = e
cut_by false true b here before long e = refl
cut_by false false b here before long e = e

cut_joined : (here before : List ℕ) → IsClear before → up_to_end (here ++ before) ≡ up_to_end here ++ before
cut_joined [] before clear = clear.0
cut_joined (b ∷ here) before clear =
    ap (λ (d : Bool). if d then up_to_end (here ++ before) else (if is_end b then b ∷ here ++ before else up_to_end (here ++ before))) (dead_joined here before b (clear_comment before clear.0))
    ∙ cut_by (is_dead here b) (is_end b) b here before (up_to_end (here ++ before)) (cut_joined here before clear)

-- ## A byte to a lexer

-- a byte ends one statement or none
grows_by : (test : Bool) (s : Result Statement LexFault) (older : List (Result Statement LexFault)) → length (if test then s ∷ older else older) ≡ (if test then 1 else 0) + length older
grows_by true s older = omega arith
grows_by false s older = omega arith

grows : (b : ℕ) (text : List ℕ) → length (statements (b ∷ text)) ≡ (if ends_statement text b then 1 else 0) + length (statements text)
unfolding statements
grows b text = grows_by (ends_statement text b) (judge_statement (line_after text) (nat_eq b 36) (stretch text) (radix_after (statements text))) (statements text)

pub none_ends : (b : ℕ) (text : List ℕ) → statements (b ∷ text) ≡ statements text → ends_statement text b ≡ false
none_ends b text same = by_test (ends_statement text b) (sym (grows b text) ∙ ap length same)
  where
    by_test : (test : Bool) → (if test then 1 else 0) + length (statements text) ≡ length (statements text) → test ≡ false
    by_test true e = absurd (omega (arith, e))
    by_test false e = refl

pub one_ends : (b : ℕ) (text : List ℕ) (s : Result Statement LexFault) → statements (b ∷ text) ≡ s ∷ statements text → ends_statement text b ≡ true
one_ends b text s more = by_test (ends_statement text b) (sym (grows b text) ∙ ap length more)
  where
    by_test : (test : Bool) → (if test then 1 else 0) + length (statements text) ≡ suc (length (statements text)) → test ≡ true
    by_test true e = refl
    by_test false e = absurd (omega (arith, e))

pub true_false : {A : Type 0} → true ≡ false → A
true_false e = absurd cc

pub none_some : {A : Type 0} {B : Type 0} {a : A} → None ≡ Some a → B
none_some e = absurd cc

pub same_by : (b : ℕ) (text : List ℕ) → ends_statement text b ≡ false → statements (b ∷ text) ≡ statements text
unfolding statements
same_by b text none = rw none refl

-- where a text without a fault has one with a byte more, this ends a statement
fault_ends : (b : ℕ) (text : List ℕ) (fault : LexFault) → first_fault (statements text) ≡ None → first_fault (statements (b ∷ text)) ≡ Some fault → ends_statement text b ≡ true
fault_ends b text fault none some = by_test (ends_statement text b) refl
  where
    by_test : (test : Bool) → ends_statement text b ≡ test → test ≡ true
    by_test true e = refl
    by_test false e = none_some (sym none ∙ sym (ap first_fault (same_by b text e)) ∙ some)

-- where neither has a fault, it ends no PAUSE
fine_byte : (b : ℕ) (text : List ℕ) → PauseIsBad → first_fault (statements text) ≡ None → first_fault (statements (b ∷ text)) ≡ None → pauses text b ≡ false
fine_byte b text bad none fine = by_test (pauses text b) refl
  where
    by_test : (test : Bool) → pauses text b ≡ test → test ≡ false
    by_test true e = none_some (sym fine ∙ bad text b e none)
    by_test false e = refl

pub met_nothing : (text : List ℕ) (b : ℕ) (old new : Progress) → Answers 0 text b (Ok None) old new → Meets text b Nothing new
met_nothing text b old new answers = (none_ends b text answers.1, answers.0, answers.2)

pub met_statement : (text : List ℕ) (b : ℕ) (s : Statement) (old new : Progress) → PauseIsBad → first_fault (statements text) ≡ None → Answers 0 text b (Ok (Some s)) old new
    → Meets text b (end_by (is_pause_body s.body)) new
met_statement text b s old new bad none answers = by_body (is_pause_body s.body) answers
  where
    by_body : (pausing : Bool) → HandsOut pausing 0 text b s old new → Meets text b (end_by pausing) new
    by_body true out = out.pauses
    by_body false out = (one_ends b text (Ok (with_tokens (tokens_after text) s)) out.newest, fine_byte b text bad none out.no_fault)

-- what a byte is answered that is refused, but for want of memory
pub tells_fault : (text : List ℕ) (b : ℕ) (fault : LexFault) (old new : Progress) → is_memory fault ≡ false → Answers 0 text b (Err fault) old new → TellsFault 0 text b fault old new
tells_fault text b (lex.IC line) old new other answers = answers
tells_fault text b (lex.SY line) old new other answers = answers
tells_fault text b (lex.NU line) old new other answers = answers
tells_fault text b (lex.NE line) old new other answers = absurd answers
tells_fault text b lex.Memory old new other answers = absurd cc

pub met_fault : (text : List ℕ) (b : ℕ) (fault : LexFault) (old new : Progress) → first_fault (statements text) ≡ None → old.may_pause ≡ true
    → is_memory fault ≡ false → Answers 0 text b (Err fault) old new → Meets text b End new
met_fault text b fault old new none may other answers =
    let tells = tells_fault text b fault old new other answers in
    (fault_ends b text fault none tells.0, tells.1 none may)

-- ## The first bytes of a text

-- bytes after others
from_prefix : (bytes text : List ℕ) → text_from text bytes ≡ text_of bytes ++ text
from_prefix bytes text = following bytes [] text
  where
    following : (bytes here before : List ℕ) → text_from (here ++ before) bytes ≡ text_from here bytes ++ before
    following [] here before = refl
    following (b ∷ bytes) here before = following bytes (b ∷ here) before

joined : (a b text : List ℕ) → text_from text (a ++ b) ≡ text_from (text_from text a) b
joined [] b text = refl
joined (x ∷ a) b text = joined a b (x ∷ text)

pub text_joined : (a b : List ℕ) → text_of (a ++ b) ≡ text_of b ++ text_of a
text_joined a b = joined a b [] ∙ from_prefix b (text_of a)

-- a text goes on after its first bytes
pub whole_text : (bytes : List ℕ) (n : ℕ) → text_of bytes ≡ text_of (drop n bytes) ++ text_of (take n bytes)
whole_text bytes n = ap text_of (sym (take-append-drop n bytes)) ∙ text_joined (take n bytes) (drop n bytes)

-- ## What follows

pub ends_parts : (older : List ℕ) (b : ℕ) → ends_statement older b ≡ true → (is_end b ≡ true) × (is_dead older b ≡ false) × (is_over older ≡ false)
ends_parts older b e = by_parts (is_end b) (is_dead older b) (is_over older) e
  where
    by_parts : (end dead over : Bool) → (end && not dead && not over) ≡ true → (end ≡ true) × (dead ≡ false) × (over ≡ false)
    by_parts true false false e = (refl, refl, refl)
    by_parts true false true e = absurd cc
    by_parts true true over e = absurd cc
    by_parts false dead over e = absurd cc

pub over_stays : (text later : List ℕ) → is_over text ≡ true → is_over (later ++ text) ≡ true
over_stays text [] e = e
over_stays text (b ∷ later) e = rw (over_stays text later e) refl

no_end : (end dead over : Bool) → over ≡ true → (end && not dead && not over) ≡ false
no_end true true over e = refl
no_end true false over e = rw e refl
no_end false dead over e = refl

over_quiet : (later text : List ℕ) → is_over text ≡ true → before_pause text ≡ None → before_pause (later ++ text) ≡ None
over_quiet [] text over none = none
over_quiet (b ∷ later) text over none =
    let ends : ends_statement (later ++ text) b ≡ false = no_end (is_end b) (is_dead (later ++ text) b) (is_over (later ++ text)) (over_stays text later over) in
    let quiet : pauses (later ++ text) b ≡ false = ap (λ (t : Bool). t && is_pause (stretch (later ++ text))) ends in
    rw (over_quiet later text over none, quiet) refl

first_stays : (later text prefix : List ℕ) → before_pause text ≡ Some prefix → before_pause (later ++ text) ≡ Some prefix
first_stays [] text prefix e = e
first_stays (b ∷ later) text prefix e = ap (λ f. first_text f (if pauses (later ++ text) b then Some (up_to_end (later ++ text)) else None)) (first_stays later text prefix e)

no_end_no_dollar : (b : ℕ) → is_end b ≡ false → nat_eq b 36 ≡ false
no_end_no_dollar b e = grind (arith, nat_tests)

pub calm_byte : (here : List ℕ) (b : ℕ) → is_over here ≡ false → ends_statement here b ≡ false → (up_to_end (b ∷ here) ≡ up_to_end here) × (is_over (b ∷ here) ≡ false)
calm_byte here b going none = by_parts (is_dead here b) (is_end b) refl refl
  where
    by_parts : (dead end : Bool) → is_dead here b ≡ dead → is_end b ≡ end → (up_to_end (b ∷ here) ≡ up_to_end here) × (is_over (b ∷ here) ≡ false)
    by_parts true end d e = (rw d refl, rw (going, d) (by_dollar (nat_eq b 36)))
      where
        by_dollar : (dollar : Bool) → (false || (dollar && not true)) ≡ false
        by_dollar true = refl
        by_dollar false = refl
    by_parts false true d e = let ends : ends_statement here b ≡ true = rw (e, d, going) refl in true_false (sym ends ∙ none)
    by_parts false false d e = (rw (d, e) refl, rw (going, no_end_no_dollar b e) refl)

-- ## A text so far

-- So many bytes of a text were taken, of which so many stand before the end of the last statement; none of them pauses.
pub record Stands (bytes : List ℕ) (taken end : ℕ) (lexer : Progress) : Type 0 where
  pub here : List ℕ
  pub prefix : List ℕ
  pub split : text_of (take taken bytes) ≡ here ++ prefix
  pub ended : text_of (take end bytes) ≡ prefix
  pub before : end ≤ taken
  pub clear : IsClear prefix
  pub calm : up_to_end here ≡ []
  pub going : is_over here ≡ false
  pub read : HasRead lexer 0 here
  pub fine : first_fault (statements here) ≡ None
  pub none : before_pause (here ++ prefix) ≡ None

nothing_fine : first_fault (statements []) ≡ None
unfolding statements
nothing_fine = refl

pub begins : (bytes : List ℕ) (lexer : Progress) → HasRead lexer 0 [] → Stands bytes 0 0 lexer
begins bytes lexer read = record {
  here = [];
  prefix = [];
  split = refl;
  ended = refl;
  before = omega arith;
  clear = (refl, refl);
  calm = refl;
  going = refl;
  read = read;
  fine = nothing_fine;
  none = refl;
}

quiet_byte : (here prefix : List ℕ) (b : ℕ) → IsClear prefix → pauses here b ≡ false → before_pause (here ++ prefix) ≡ None → before_pause (b ∷ here ++ prefix) ≡ None
quiet_byte here prefix b clear quiet none = rw (none, pauses_joined here prefix b clear ∙ quiet) refl

stands_on : (bytes : List ℕ) (taken end b : ℕ) (lexer new : Progress) → taken < length bytes → b ≡ get_or bytes taken 0 → (s : Stands bytes taken end lexer)
    → Meets s.here b Nothing new → Stands bytes (taken + 1) end new
stands_on bytes taken end b lexer new inside is s meets =
    let calm = calm_byte s.here b s.going meets.0 in
    record {
      here = b ∷ s.here;
      prefix = s.prefix;
      split = next_byte bytes taken b inside is ∙ ap (λ l. b ∷ l) s.split;
      ended = s.ended;
      before = omega (arith, s.before);
      clear = s.clear;
      calm = calm.0 ∙ s.calm;
      going = calm.1;
      read = meets.2;
      fine = meets.1;
      none = quiet_byte s.here s.prefix b s.clear (ap (λ (t : Bool). t && is_pause (stretch s.here)) meets.0) s.none;
    }

ends_following : (here prefix : List ℕ) (b : ℕ) → IsClear prefix → ends_statement here b ≡ true → ends_statement (here ++ prefix) b ≡ true
ends_following here prefix b clear ends = ends_joined here prefix b (clear_comment prefix clear.0) clear.1 ∙ ends

stands_anew : (bytes : List ℕ) (taken end b : ℕ) (lexer old new : Progress) → taken < length bytes → b ≡ get_or bytes taken 0 → (s : Stands bytes taken end lexer)
    → Meets s.here b End old → nat_eq b 36 ≡ false → HasRead new 0 [] → Stands bytes (taken + 1) (taken + 1) new
stands_anew bytes taken end b lexer old new inside is s meets other read =
    let parts = ends_parts (s.here ++ s.prefix) b (ends_following s.here s.prefix b s.clear meets.0) in
    let split = next_byte bytes taken b inside is ∙ ap (λ l. b ∷ l) s.split in
    record {
      here = [];
      prefix = b ∷ s.here ++ s.prefix;
      split = split;
      ended = split;
      before = omega arith;
      clear = (rw (parts.1, parts.0) refl, rw (parts.2, other) refl);
      calm = refl;
      going = refl;
      read = read;
      fine = nothing_fine;
      none = quiet_byte s.here s.prefix b s.clear meets.1 s.none;
    }

pauses_by : (bytes : List ℕ) (taken end b : ℕ) (lexer new : Progress) → taken < length bytes → b ≡ get_or bytes taken 0 → (s : Stands bytes taken end lexer)
    → Meets s.here b Pause new → IsPrefix bytes (Some end)
pauses_by bytes taken end b lexer new inside is s meets =
    let pausing : pauses (s.here ++ s.prefix) b ≡ true = pauses_joined s.here s.prefix b s.clear ∙ meets in
    let cut : up_to_end (s.here ++ s.prefix) ≡ s.prefix = cut_joined s.here s.prefix s.clear ∙ ap (λ l. l ++ s.prefix) s.calm in
    let found : before_pause (b ∷ s.here ++ s.prefix) ≡ Some (up_to_end (s.here ++ s.prefix)) = rw (s.none, pausing) refl in
    let whole : text_of bytes ≡ text_of (drop (taken + 1) bytes) ++ (b ∷ s.here ++ s.prefix) =
    whole_text bytes (taken + 1) ∙ ap (λ l. text_of (drop (taken + 1) bytes) ++ l) (next_byte bytes taken b inside is ∙ ap (λ l. b ∷ l) s.split) in (
      omega (arith, s.before, inside),
      ap before_pause whole ∙ first_stays (text_of (drop (taken + 1) bytes)) (b ∷ s.here ++ s.prefix) (up_to_end (s.here ++ s.prefix)) found
          ∙ ap (λ l. Some l) (cut ∙ sym s.ended),
    )

over_by : (bytes : List ℕ) (taken end b : ℕ) (lexer new : Progress) → taken < length bytes → b ≡ get_or bytes taken 0 → (s : Stands bytes taken end lexer)
    → Meets s.here b End new → nat_eq b 36 ≡ true → IsPrefix bytes None
over_by bytes taken end b lexer new inside is s meets dollar =
    let parts = ends_parts (s.here ++ s.prefix) b (ends_following s.here s.prefix b s.clear meets.0) in
    let over : is_over (b ∷ s.here ++ s.prefix) ≡ true = rw (parts.2, dollar, parts.1) refl in
    let whole : text_of bytes ≡ text_of (drop (taken + 1) bytes) ++ (b ∷ s.here ++ s.prefix) =
    whole_text bytes (taken + 1) ∙ ap (λ l. text_of (drop (taken + 1) bytes) ++ l) (next_byte bytes taken b inside is ∙ ap (λ l. b ∷ l) s.split) in
    ap before_pause whole
    ∙ over_quiet (text_of (drop (taken + 1) bytes)) (b ∷ s.here ++ s.prefix) over (quiet_byte s.here s.prefix b s.clear meets.1 s.none)

pub whole_at : (bytes : List ℕ) (taken end : ℕ) (lexer : Progress) → length bytes ≤ taken → Stands bytes taken end lexer → IsPrefix bytes None
whole_at bytes taken end lexer all s = ap before_pause (ap text_of (sym (take_all taken bytes all)) ∙ s.split) ∙ s.none

-- a byte that ends PAUSE
pub pauses_at : (bytes : List ℕ) (taken end b : ℕ) (met : Met) (lexer new : Progress) → taken < length bytes → b ≡ get_or bytes taken 0 → (s : Stands bytes taken end lexer)
    → Meets s.here b met new → is_pause_met met ≡ true → IsPrefix bytes (Some end)
pauses_at bytes taken end b Nothing lexer new inside is s meets pausing = absurd cc
pauses_at bytes taken end b End lexer new inside is s meets pausing = absurd cc
pauses_at bytes taken end b Pause lexer new inside is s meets pausing = pauses_by bytes taken end b lexer new inside is s meets

-- a byte that ends the text
pub over_at : (bytes : List ℕ) (taken end b : ℕ) (met : Met) (lexer new : Progress) → taken < length bytes → b ≡ get_or bytes taken 0 → (s : Stands bytes taken end lexer)
    → Meets s.here b met new → ends_text met b ≡ true → IsPrefix bytes None
over_at bytes taken end b Nothing lexer new inside is s meets over = absurd cc
over_at bytes taken end b End lexer new inside is s meets over = over_by bytes taken end b lexer new inside is s meets over
over_at bytes taken end b Pause lexer new inside is s meets over = absurd cc

-- a byte after which the text goes on
pub goes_on : (bytes : List ℕ) (taken end b : ℕ) (met : Met) (end_then : ℕ) (lexer old new : Progress) → taken < length bytes → b ≡ get_or bytes taken 0 → (s : Stands bytes taken end lexer)
    → Meets s.here b met old → is_pause_met met ≡ false → ends_text met b ≡ false → Renews met end (taken + 1) end_then old new → Stands bytes (taken + 1) end_then new
goes_on bytes taken end b Nothing end_then lexer old new inside is s meets pausing over renews =
    subst (λ e. Stands bytes (taken + 1) e new) (sym renews.0) (subst (λ l. Stands bytes (taken + 1) end l) (sym renews.1) (stands_on bytes taken end b lexer old inside is s meets))
goes_on bytes taken end b End end_then lexer old new inside is s meets pausing over renews =
    subst (λ e. Stands bytes (taken + 1) e new) (sym renews.0) (stands_anew bytes taken end b lexer old new inside is s meets over renews.1)
goes_on bytes taken end b Pause end_then lexer old new inside is s meets pausing over renews = absurd cc
