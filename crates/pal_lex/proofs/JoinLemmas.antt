-- Several sources, and a text that is cut after its last end.
use Rattle.std.proofs.Common.{◌≡◌, ℕ, ◌+◌, nat_eq, Bool, true, false, ◌&&◌, ◌||◌, not, if◌then◌else◌, Option, Some, None, Result, Err, length, List, [], ◌∷◌, ◌++◌, refl, ap, sym, subst, ◌∙◌, arith, append_assoc}
use Rattle.std.proofs.lemmas.Bool.Decides.{nat_tests}
use Rattle.pal_lex.specs.Text.{is_ignored, in_comment, is_dead, is_end, is_over, ends_statement, stretch, up_to_end, cr_count, limit, line_after}
use Rattle.pal_lex.specs.Cutting.{has_illegal}
use Rattle.pal_lex.specs.Runs.{tokens}
use Rattle.pal_lex.specs.Statements.{radix_after, statements, fault_of, first_of, first_fault}
use Rattle.pal_lex.specs.Joins.{is_lone_pause, is_pause, pauses, IsClear, first_text, before_pause, text_with_next, join_of}
use Rattle.pal_lex.specs.Laws.{has_next, PauseIsBad, PauseJoins, JoinGoesOn, ByteGoesOn, EndsJoin}
use Rattle.pal_faults.specs.declared.lexical.LexFault.{LexFault}
use Rattle.pal_faults.specs.declared.lexical.LexFault.TheVariants.{SY}
use Rattle.pal_lex.specs.declared.phrases.Statement.{Statement}
use Rattle.pal_lex.specs.declared.runs.Radix.TheVariants.{Octal}
use Rattle.pal_lex.proofs.LawLemmas.{one_more, newest, stays, fault_stays}
use Rattle.pal_lex.proofs.RunLemmas.{one_statement, dead_statement}
use Rattle.pal_lex.proofs.ShapeLemmas.{bare_bytes, same_lone_pause, same_pause}
use Rattle.pal_lex.proofs.PauseLemmas.{pause_is_bad, pause_is_no_number}

-- ## A text up to its last end

-- what holds of the empty text, and of each that a live end is the newest byte of
by_end : (P : List ℕ → Type 0) → P [] → ((b : ℕ) (older : List ℕ) → is_dead older b ≡ false → is_end b ≡ true → P (b ∷ older)) → (text : List ℕ) → P (up_to_end text)
by_end P none some [] = none
by_end P none some (b ∷ older) = step b older (is_dead older b) (is_end b) refl refl (by_end P none some older)
  where
    step : (b : ℕ) (older : List ℕ) (dead end : Bool) → is_dead older b ≡ dead → is_end b ≡ end → P (up_to_end older) → P (up_to_end (b ∷ older))
    step b older true end d e before = let same : up_to_end (b ∷ older) ≡ up_to_end older = rw d refl in subst P (sym same) before
    step b older false true d e before = let same : up_to_end (b ∷ older) ≡ b ∷ older = rw (d, e) refl in subst P (sym same) (some b older d e)
    step b older false false d e before = let same : up_to_end (b ∷ older) ≡ up_to_end older = rw (d, e) refl in subst P (sym same) before

or_right : (a b : Bool) → (a || b) ≡ false → b ≡ false
or_right true b e = cc
or_right false b e = e

ended_comment : (text : List ℕ) → in_comment (up_to_end text) ≡ false
ended_comment text = by_end (λ t. in_comment t ≡ false) refl (λ b older d e. or_right (is_ignored b) (in_comment (b ∷ older)) d) text

ended_stretch : (text : List ℕ) → stretch (up_to_end text) ≡ []
ended_stretch text = by_end (λ t. stretch t ≡ []) refl (λ b older d e. rw (d, e) refl) text

ended_twice : (text : List ℕ) → up_to_end (up_to_end text) ≡ up_to_end text
ended_twice text = by_end (λ t. up_to_end t ≡ t) refl (λ b older d e. rw (d, e) refl) text

dead_no_cr : (b : ℕ) (comment : Bool) → (is_ignored b || (if nat_eq b 13 then false else (if nat_eq b 47 then true else comment))) ≡ true → nat_eq b 13 ≡ false
dead_no_cr b comment e = grind (arith, nat_tests)

no_end_no_cr : (b : ℕ) → is_end b ≡ false → nat_eq b 13 ≡ false
no_end_no_cr b e = grind (arith, nat_tests)

no_end_no_dollar : (b : ℕ) → is_end b ≡ false → nat_eq b 36 ≡ false
no_end_no_dollar b e = grind (arith, nat_tests)

-- what a text up to its last end has in common with the text
record Same (cut text : List ℕ) : Type 0 where
  statements_are : statements cut ≡ statements text
  count : cr_count cut ≡ cr_count text
  over : is_over cut ≡ is_over text

still_over : (over dollar dead : Bool) → dead ≡ true → (over || (dollar && not dead)) ≡ over
still_over true dollar dead e = refl
still_over false true dead e = rw e refl
still_over false false dead e = refl

no_dollar : (over dollar dead : Bool) → dollar ≡ false → (over || (dollar && not dead)) ≡ over
no_dollar true dollar dead e = refl
no_dollar false dollar dead e = rw e refl

same_cut : (text : List ℕ) → Same (up_to_end text) text
same_cut [] = record { statements_are = refl; count = refl; over = refl }
same_cut (b ∷ older) = step b older (is_dead older b) (is_end b) refl refl (same_cut older)
  where
    step : (b : ℕ) (older : List ℕ) (dead end : Bool) → is_dead older b ≡ dead → is_end b ≡ end → Same (up_to_end older) older → Same (up_to_end (b ∷ older)) (b ∷ older)
    step b older true end d e same =
        let cut : up_to_end (b ∷ older) ≡ up_to_end older = rw d refl in
        record {
          statements_are = ap statements cut ∙ same.statements_are ∙ sym (dead_statement b older d);
          count = ap cr_count cut ∙ same.count ∙ sym (ap (λ (t : Bool). (if t then 1 else 0) + cr_count older) (dead_no_cr b (in_comment older) d) ∙ omega arith);
          over = ap is_over cut ∙ same.over ∙ sym (still_over (is_over older) (nat_eq b 36) (is_dead older b) d);
        }
    step b older false true d e same =
        let cut : up_to_end (b ∷ older) ≡ b ∷ older = rw (d, e) refl in
        record { statements_are = ap statements cut; count = ap cr_count cut; over = ap is_over cut }
    step b older false false d e same =
        let cut : up_to_end (b ∷ older) ≡ up_to_end older = rw (d, e) refl in
        record {
          statements_are = ap statements cut ∙ same.statements_are ∙ sym (one_statement b older e);
          count = ap cr_count cut ∙ same.count ∙ sym (ap (λ (t : Bool). (if t then 1 else 0) + cr_count older) (no_end_no_cr b e) ∙ omega arith);
          over = ap is_over cut ∙ same.over ∙ sym (no_dollar (is_over older) (nat_eq b 36) (is_dead older b) (no_end_no_dollar b e));
        }

pub cut_statements : (text : List ℕ) → statements (up_to_end text) ≡ statements text
cut_statements text = (same_cut text).statements_are

pub cut_line : (text : List ℕ) → line_after (up_to_end text) ≡ line_after text
cut_line text = ap (λ n. limit (1 + n)) (same_cut text).count

pub cut_over : (text : List ℕ) → is_over (up_to_end text) ≡ is_over text
cut_over text = (same_cut text).over

pub cut_twice : (text : List ℕ) → up_to_end (up_to_end text) ≡ up_to_end text
cut_twice text = ended_twice text

pub clear_comment : (text : List ℕ) → up_to_end text ≡ text → in_comment text ≡ false
clear_comment text e = sym (ap in_comment e) ∙ ended_comment text

pub clear_stretch : (text : List ℕ) → up_to_end text ≡ text → stretch text ≡ []
clear_stretch text e = sym (ap stretch e) ∙ ended_stretch text

-- ## A source after a text that ends after a statement

comment_joined : (here before : List ℕ) → in_comment before ≡ false → in_comment (here ++ before) ≡ in_comment here
comment_joined [] before quiet = quiet
comment_joined (b ∷ here) before quiet = ap (λ (c : Bool). if nat_eq b 13 then false else (if nat_eq b 47 then true else c)) (comment_joined here before quiet)

pub dead_joined : (here before : List ℕ) (b : ℕ) → in_comment before ≡ false → is_dead (here ++ before) b ≡ is_dead here b
dead_joined here before b quiet = ap (λ (c : Bool). is_ignored b || c) (comment_joined (b ∷ here) before quiet)

over_joined : (here before : List ℕ) → in_comment before ≡ false → is_over before ≡ false → is_over (here ++ before) ≡ is_over here
over_joined [] before quiet going = going
over_joined (b ∷ here) before quiet going =
    ap (λ (o : Bool). o || (nat_eq b 36 && not (is_dead (here ++ before) b))) (over_joined here before quiet going)
    ∙ ap (λ (d : Bool). is_over here || (nat_eq b 36 && not d)) (dead_joined here before b quiet)

bytes_by : (dead end : Bool) (b place other : ℕ) (live same : List (ℕ × ℕ)) → bare_bytes live ≡ bare_bytes same
    → bare_bytes (if dead then live else (if end then [] else (b, place) ∷ live)) ≡ bare_bytes (if dead then same else (if end then [] else (b, other) ∷ same))
bytes_by true end b place other live same e = e
bytes_by false true b place other live same e = refl
bytes_by false false b place other live same e = ap (λ l. b ∷ l) e

pub bytes_joined : (here before : List ℕ) → in_comment before ≡ false → stretch before ≡ [] → bare_bytes (stretch (here ++ before)) ≡ bare_bytes (stretch here)
bytes_joined [] before quiet none = ap bare_bytes none
bytes_joined (b ∷ here) before quiet none =
    ap (λ (d : Bool). bare_bytes (if d then stretch (here ++ before) else (if is_end b then [] else (b, length (here ++ before)) ∷ stretch (here ++ before)))) (dead_joined here before b quiet)
    ∙ bytes_by (is_dead here b) (is_end b) b (length (here ++ before)) (length here) (stretch (here ++ before)) (stretch here) (bytes_joined here before quiet none)

ends_joined : (here before : List ℕ) (b : ℕ) → in_comment before ≡ false → is_over before ≡ false → ends_statement (here ++ before) b ≡ ends_statement here b
ends_joined here before b quiet going =
    ap (λ (d : Bool). is_end b && not d && not (is_over (here ++ before))) (dead_joined here before b quiet)
    ∙ ap (λ (o : Bool). is_end b && not (is_dead here b) && not o) (over_joined here before quiet going)

pauses_joined : (here before : List ℕ) (b : ℕ) → IsClear before → pauses (here ++ before) b ≡ pauses here b
pauses_joined here before b clear =
    ap (λ (t : Bool). t && is_pause (stretch (here ++ before))) (ends_joined here before b (clear_comment before clear.0) clear.1)
    ∙ ap (λ (t : Bool). ends_statement here b && t) (same_pause (stretch (here ++ before)) (stretch here) (bytes_joined here before (clear_comment before clear.0) (clear_stretch before clear.0)))

cut_by : (dead end : Bool) (b : ℕ) (here before long : List ℕ) → long ≡ up_to_end here ++ before
    → (if dead then long else (if end then b ∷ here ++ before else long)) ≡ (if dead then up_to_end here else (if end then b ∷ here else up_to_end here)) ++ before
cut_by true end b here before long e = e
cut_by false true b here before long e = refl
cut_by false false b here before long e = e

cut_joined : (here before : List ℕ) → IsClear before → up_to_end (here ++ before) ≡ up_to_end here ++ before
cut_joined [] before clear = clear.0
cut_joined (b ∷ here) before clear =
    ap (λ (d : Bool). if d then up_to_end (here ++ before) else (if is_end b then b ∷ here ++ before else up_to_end (here ++ before))) (dead_joined here before b (clear_comment before clear.0))
    ∙ cut_by (is_dead here b) (is_end b) b here before (up_to_end (here ++ before)) (cut_joined here before clear)

-- ## PAUSE

both : (a b : Bool) → (a && b) ≡ true → (a ≡ true) × (b ≡ true)
both true b e = (refl, e)
both false b e = absurd cc

not_true : (b : Bool) → not b ≡ true → b ≡ false
not_true true e = sym e
not_true false e = refl

pub pause_told : PauseIsBad
pause_told text b pausing none =
    let parts = both (ends_statement text b) (is_pause (stretch text)) pausing in
    let alone = both (not (has_illegal (stretch text))) (is_lone_pause (tokens Octal (stretch text))) parts.1 in
    let radix = radix_after (statements text) in
    let lone : is_lone_pause (tokens radix (stretch text)) ≡ true = same_lone_pause radix Octal (stretch text) (stretch text) refl ∙ alone.1 in
    let bad : newest text b ≡ Err (SY (line_after text)) =
    rw (not_true (has_illegal (stretch text)) alone.0, pause_is_no_number (tokens radix (stretch text)) lone, pause_is_bad (tokens radix (stretch text)) lone) refl in
    ap first_fault (one_more b text) ∙ ap (λ (t : Bool). first_fault (if t then newest text b ∷ statements text else statements text)) parts.0
    ∙ ap (λ f. first_of f (fault_of (newest text b))) none ∙ ap fault_of bad

none_some : {A : Type 0} {B : Type 0} {a : A} → None ≡ Some a → B
none_some e = absurd cc

older_none : (text : List ℕ) (b : ℕ) → first_fault (statements (b ∷ text)) ≡ None → first_fault (statements text) ≡ None
older_none text b none = by_fault (first_fault (statements text)) refl
  where
    by_fault : (f : Option LexFault) → first_fault (statements text) ≡ f → first_fault (statements text) ≡ None
    by_fault None e = e
    by_fault (Some f) e = none_some (sym none ∙ fault_stays text (b ∷ []) f e)

pub no_pause : (here before : List ℕ) → IsClear before → first_fault (statements (here ++ before)) ≡ None → before_pause here ≡ None
no_pause [] before clear none = refl
no_pause (b ∷ here) before clear none = by_test (pauses (here ++ before) b) refl (no_pause here before clear older)
  where
    older : first_fault (statements (here ++ before)) ≡ None
    older = older_none (here ++ before) b none

    by_test : (test : Bool) → pauses (here ++ before) b ≡ test → before_pause here ≡ None → before_pause (b ∷ here) ≡ None
    by_test true e earlier = none_some (sym none ∙ pause_told (here ++ before) b e older)
    by_test false e earlier = rw (earlier, sym (pauses_joined here before b clear) ∙ e) refl

first_stays : (later text prefix : List ℕ) → before_pause text ≡ Some prefix → before_pause (later ++ text) ≡ Some prefix
first_stays [] text prefix e = e
first_stays (b ∷ later) text prefix e = ap (λ f. first_text f (if pauses (later ++ text) b then Some (up_to_end (later ++ text)) else None)) (first_stays later text prefix e)

pub pause_joins : PauseJoins
pause_joins before here later b next others clear none pausing =
    let found : before_pause (b ∷ here) ≡ Some (up_to_end here) = rw (no_pause here before clear none, sym (pauses_joined here before b clear) ∙ pausing) refl in
    ap (λ f. text_with_next (later ++ b ∷ here) f (join_of (next ∷ others)) ++ before) (first_stays later (b ∷ here) (up_to_end here) found)
    ∙ append_assoc (join_of (next ∷ others)) (up_to_end here) before
    ∙ ap (λ l. join_of (next ∷ others) ++ l) (sym (cut_joined here before clear))

-- statements after others
abbrev Beyond : List (Result Statement LexFault) → List (Result Statement LexFault) → Type 0
Beyond whole older = (more : List (Result Statement LexFault)) × (whole ≡ more ++ older)

further : (whole middle older : List (Result Statement LexFault)) → Beyond whole middle → Beyond middle older → Beyond whole older
further whole middle older last first = (last.0 ++ first.0, last.1 ∙ ap (λ s. last.0 ++ s) first.1 ∙ sym (append_assoc last.0 first.0 older))

same_some : {A : Type 0} {a b : A} → Some a ≡ Some b → a ≡ b
same_some e = cc

whole_prefix : (later text before : List ℕ) → Beyond (statements ((later ++ text) ++ before)) (statements (text ++ before))
whole_prefix later text before = let s = stays (text ++ before) later in (s.0, ap statements (append_assoc later text before) ∙ s.1)

prefix_of : (later text before prefix : List ℕ) → IsClear before → before_pause text ≡ None → before_pause (later ++ text) ≡ Some prefix
    → Beyond (statements (prefix ++ before)) (statements (text ++ before))
prefix_of [] text before prefix clear none some = none_some (sym none ∙ some)
prefix_of (b ∷ later) text before prefix clear none some = by_prefix (before_pause (later ++ text)) refl (λ f is. prefix_of later text before f clear none is)
  where
    by_test : (test : Bool) → (if test then Some (up_to_end (later ++ text)) else None) ≡ Some prefix → Beyond (statements (prefix ++ before)) (statements (text ++ before))
    by_test true e =
        let w = whole_prefix later text before in
        (w.0, ap (λ f. statements (f ++ before)) (sym (same_some e)) ∙ ap statements (sym (cut_joined (later ++ text) before clear)) ∙ cut_statements ((later ++ text) ++ before) ∙ w.1)
    by_test false e = none_some e

    by_prefix : (f : Option (List ℕ)) → before_pause (later ++ text) ≡ f
        → ((g : List ℕ) → before_pause (later ++ text) ≡ Some g → Beyond (statements (g ++ before)) (statements (text ++ before)))
        → Beyond (statements (prefix ++ before)) (statements (text ++ before))
    by_prefix (Some g) e earlier =
        let same : Some g ≡ Some prefix = sym (ap (λ f. first_text f (if pauses (later ++ text) b then Some (up_to_end (later ++ text)) else None)) e) ∙ some in
        subst (λ f. Beyond (statements (f ++ before)) (statements (text ++ before))) (same_some same) (earlier g e)
    by_prefix None e earlier =
        by_test (pauses (later ++ text) b) (sym (ap (λ f. first_text f (if pauses (later ++ text) b then Some (up_to_end (later ++ text)) else None)) e) ∙ some)

join_front : (later text before : List ℕ) (others : List (List ℕ)) → IsClear before → (has_next others ≡ true → before_pause text ≡ None)
    → Beyond (statements (join_of ((later ++ text) ∷ others) ++ before)) (statements (text ++ before))
join_front later text before [] clear none = whole_prefix later text before
join_front later text before (next ∷ others) clear none = by_prefix (before_pause (later ++ text)) refl
  where
    by_prefix : (f : Option (List ℕ)) → before_pause (later ++ text) ≡ f
        → Beyond (statements (text_with_next (later ++ text) f (join_of (next ∷ others)) ++ before)) (statements (text ++ before))
    by_prefix None e = whole_prefix later text before
    by_prefix (Some prefix) e =
        further _ _ _ (whole_prefix (join_of (next ∷ others)) prefix before) (prefix_of later text before prefix clear (none refl) e)

pub join_goes_on : JoinGoesOn
join_goes_on before here later others clear none = join_front later here before others clear (λ _. no_pause here before clear none)

test_false : (next pausing : Bool) → (next && pausing) ≡ false → next ≡ true → pausing ≡ false
test_false true pausing e n = e
test_false false pausing e n = absurd cc

pub byte_goes_on : ByteGoesOn
byte_goes_on before here later b others clear none quiet =
    join_front later (b ∷ here) before others clear
    (λ next. rw (no_pause here before clear none, sym (pauses_joined here before b clear) ∙ test_false (has_next others) (pauses (here ++ before) b) quiet next) refl)

pub ends_join : EndsJoin
ends_join before here [] clear none = refl
ends_join before here (next ∷ others) clear none = ap (λ f. text_with_next here f (join_of (next ∷ others))) (no_pause here before clear none)
