-- Letters and digits that are taken together.
use Rattle.std.proofs.Common.{◌≡◌, ℕ, ◌+◌, ◌-◌, ◌/◌, ◌≤◌, ◌<◌, nat_eq, min, Bool, true, false, true≢false, ◌&&◌, ◌||◌, not, if◌then◌else◌, zero, suc, length, get_or, take, drop, Some, List, [], ◌∷◌, ◌++◌, refl, ap, sym, subst, ◌∙◌, arith, append-nil, append_assoc}
use Rattle.std.proofs.lemmas.Bool.Decides.{nat_tests}
use Rattle.pal_lex.specs.Text.{is_ignored, in_comment, is_dead, is_end, is_over, stretch, since, limit, line_after, cr_count, text_from}
use Rattle.pal_lex.specs.Steps.{has_cr, with_characters, pending, PutsRun}
use Rattle.pal_lex.specs.Cutting.{Piece, Run, Mark, is_coded, are_coded, has_illegal, without_end_blank, with_character, pieces}
use Rattle.pal_lex.specs.Runs.{base, run_kind, token, in_order}
use Rattle.pal_lex.specs.GrowthSteps.{IsRun, grown}
use Rattle.pal_lex.specs.Drafting.{Cut, cut_of, cut, tail_of, weight_after}
use Rattle.pal_lex.specs.Statements.{statements, with_stretch, radix_after, first_fault}
use Rattle.pal_lex.specs.Progress.{Progress}
use Rattle.pal_lex.specs.Reading.{HasRead, IsReading, StateIs, ReadsOn}
use Rattle.pal_lex.specs.declared.drafts.Tail.TheVariants as tail
use Rattle.pal_lex.specs.declared.growing.Grown.{Grown}
use Rattle.pal_lex.specs.declared.lexing.State.{State}
use Rattle.pal_lex.specs.declared.lexing.State.TheVariants.{Reading}
use Rattle.pal_lex.specs.declared.pieces.Kind.{Kind}
use Rattle.pal_lex.specs.declared.pieces.Kind.TheVariants.{Term, BadNumber, Blank, Plus, Minus, Equals, Comma, Star}
use Rattle.pal_lex.specs.declared.pieces.Token.{Token}
use Rattle.pal_lex.proofs.GrowthLemmas.{run_grown}

-- ## Fronts of bytes

length_taken : (l : List ℕ) (n : ℕ) → n ≤ length l → length (take n l) ≡ n
length_taken l zero short = refl
length_taken [] (suc n) short = absurd (omega (arith, short))
length_taken (x ∷ l) (suc n) short = ap suc (length_taken l n (omega (arith, short)))

one_more : (l : List ℕ) (n : ℕ) → n < length l → take (suc n) l ≡ take n l ++ get_or l n 0 ∷ []
one_more [] n short = absurd (omega (arith, short))
one_more (x ∷ l) zero short = refl
one_more (x ∷ l) (suc n) short = ap (λ rest. x ∷ rest) (one_more l n (omega (arith, short)))

both : (a b : Bool) → (a && b) ≡ true → (a ≡ true) × (b ≡ true)
both true b e = (refl, e)
both false b e = absurd cc

coded_more : (prefix : List ℕ) (b : ℕ) → are_coded prefix ≡ true → is_coded b ≡ true → are_coded (prefix ++ b ∷ []) ≡ true
coded_more [] b prefix coded = rw coded refl
coded_more (x ∷ others) b prefix coded =
    let parts = both (is_coded x) (are_coded others) prefix in
    rw (parts.0, coded_more others b parts.1 coded) refl

-- ## A run

pub begun_run : (base first : ℕ) (others : List ℕ) (at place end : ℕ) (kind : Kind) → kind ≡ run_kind base first [] → place ≡ limit at → end ≡ min (place + 1) 18446744073709551615
    → IsRun base first others at record { token = record { kind = kind; start = place; end = end }; more = 0; weight = 16777216 }
begun_run base first others at place end kind is there ends = record {
  range = omega arith;
  coded = refl;
  token = ap (λ k. record { kind = k; start = place; end = end }) is
      ∙ ap (λ p. record { kind = run_kind base first []; start = p; end = end }) there
      ∙ ap (λ e. record { kind = run_kind base first []; start = limit at; end = e }) (omega (arith, there, ends));
  weight = refl;
}

pub longer_run : (base first : ℕ) (others : List ℕ) (at : ℕ) (run : Grown) (kind : Kind) (end : ℕ) → 1 ≤ base → IsRun base first others at run → run.more < length others
    → true ≡ is_coded (get_or others run.more 0) → kind ≡ grown base run.weight (get_or others run.more 0) run.token.kind → end ≡ min (run.token.end + 1) 18446744073709551615
    → IsRun base first others at record { token = record { kind = kind; start = run.token.start; end = end }; more = run.more + 1; weight = run.weight / 64 }
longer_run base first others at run kind end least is short coded grows ends =
    let b = get_or others run.more 0 in
    let prefix = take run.more others in
    let longer : take (run.more + 1) others ≡ prefix ++ b ∷ [] = ap (λ n. take n others) (next run.more) ∙ one_more others run.more short in
    let many : length prefix ≡ run.more = length_taken others run.more is.range in
    let kinds : kind ≡ run_kind base first (prefix ++ b ∷ []) =
    grows ∙ ap (λ t. grown base run.weight b t.kind) is.token ∙ ap (λ v. grown base v b (run_kind base first prefix)) (is.weight ∙ ap (λ n. weight_after (suc n)) (sym many))
    ∙ run_grown base first prefix b least in
    let starts : run.token.start ≡ limit at = ap (λ (t : Token). t.start) is.token in
    let ended : run.token.end ≡ limit (at + 1 + run.more) = ap (λ (t : Token). t.end) is.token in
    record {
      range = omega (arith, short);
      coded = ap are_coded longer ∙ coded_more prefix b is.coded (sym coded);
      token = ap (λ k. record { kind = k; start = run.token.start; end = end }) (kinds ∙ ap (run_kind base first) (sym longer))
          ∙ ap (λ p. record { kind = run_kind base first (take (run.more + 1) others); start = p; end = end }) starts
          ∙ ap (λ e. record { kind = run_kind base first (take (run.more + 1) others); start = limit at; end = e }) (omega (arith, ended, ends));
      weight = ap (λ v. v / 64) is.weight ∙ ap (λ n. weight_after (suc n)) (sym (next run.more));
    }
  where
    next : (n : ℕ) → n + 1 ≡ suc n
    next n = omega arith

-- ## A run after other pieces

abbrev NoRun : List Piece → Type 0
NoRun before = (weight : ℕ) → tail_of before ≡ tail.Run weight → ⊥

one_character : (b at : ℕ) (before : List Piece) → NoRun before → with_character b at before ≡ Run b [] at (at + 1) ∷ before
one_character b at [] apart = refl
one_character b at (Run first others start end ∷ before) apart = absurd (apart _ refl)
one_character b at (Mark kind place ∷ before) apart = refl

all_characters : (bytes : List ℕ) (first : ℕ) (others : List ℕ) (start place : ℕ) (before : List Piece)
    → with_characters bytes place (Run first others start place ∷ before) ≡ Run first (others ++ bytes) start (place + length bytes) ∷ before
all_characters [] first others start place before =
    ap (λ o. Run first o start place ∷ before) (sym (append-nil others)) ∙ ap (λ n. Run first (others ++ []) start n ∷ before) (omega arith)
all_characters (b ∷ bytes) first others start place before =
    all_characters bytes first (others ++ b ∷ []) start (place + 1) before
    ∙ ap (λ o. Run first o start (place + 1 + length bytes) ∷ before) (append_assoc others (b ∷ []) bytes)
    ∙ ap (λ n. Run first (others ++ b ∷ bytes) start n ∷ before) (omega arith)

-- the tokens with the blank that is pending
all_tokens : (base : ℕ) (before : List Piece) → NoRun before → in_order base (without_end_blank before) ++ pending (tail_of before) ≡ in_order base before
all_tokens base [] apart = refl
all_tokens base (Run first others start end ∷ before) apart = absurd (apart _ refl)
all_tokens base (Mark (Term t) place ∷ before) apart = append-nil _
all_tokens base (Mark BadNumber place ∷ before) apart = append-nil _
all_tokens base (Mark Blank place ∷ before) apart = ap (λ e. in_order base before ++ record { kind = Blank; start = limit place; end = e } ∷ []) (omega arith)
all_tokens base (Mark Plus place ∷ before) apart = append-nil _
all_tokens base (Mark Minus place ∷ before) apart = append-nil _
all_tokens base (Mark Equals place ∷ before) apart = append-nil _
all_tokens base (Mark Comma place ∷ before) apart = append-nil _
all_tokens base (Mark Star place ∷ before) apart = append-nil _

pub run_put : (base : ℕ) (before : List Piece) (first : ℕ) (others : List ℕ) (at : ℕ) (run : Grown) (old new : Cut)
    → ((weight : ℕ) → old.tail ≡ tail.Run weight → ⊥) → IsRun base first others at run → old ≡ cut_of base false before
    → new ≡ record { illegal = old.illegal; tail = tail.Run run.weight; tokens = old.tokens ++ pending old.tail ++ run.token ∷ [] }
    → PutsRun base false before first others at (Some run.more) old new
run_put base before first others at run old new apart is was put = (is.range, is.coded, put ∙ same ∙ ap (cut_of base false) (sym joined))
  where
    prefix : List ℕ
    prefix = take run.more others

    no_run : NoRun before
    no_run weight e = apart weight (ap (λ (c : Cut). c.tail) was ∙ e)

    joined : with_characters (first ∷ prefix) at before ≡ Run first prefix at (at + 1 + length prefix) ∷ before
    joined = ap (with_characters prefix (at + 1)) (one_character first at before no_run) ∙ all_characters prefix first [] at (at + 1) before

    many : length prefix ≡ run.more
    many = length_taken others run.more is.range

    tokens : old.tokens ++ pending old.tail ++ run.token ∷ [] ≡ in_order base before ++ token base (Run first prefix at (at + 1 + length prefix)) ∷ []
    tokens =
        ap (λ (c : Cut). c.tokens ++ pending c.tail ++ run.token ∷ []) was ∙ ap (λ l. l ++ run.token ∷ []) (all_tokens base before no_run)
        ∙ ap (λ t. in_order base before ++ t ∷ []) is.token
        ∙ ap (λ n. in_order base before ++ record { kind = run_kind base first prefix; start = limit at; end = limit (at + 1 + n) } ∷ []) (sym many)

    same : record { illegal = old.illegal; tail = tail.Run run.weight; tokens = old.tokens ++ pending old.tail ++ run.token ∷ [] } ≡ cut_of base false (Run first prefix at (at + 1 + length prefix) ∷ before)
    same =
        ap (λ b. record { illegal = b; tail = tail.Run run.weight; tokens = old.tokens ++ pending old.tail ++ run.token ∷ [] }) (ap (λ (c : Cut). c.illegal) was)
        ∙ ap (λ v. record { illegal = false; tail = tail.Run v; tokens = old.tokens ++ pending old.tail ++ run.token ∷ [] }) (is.weight ∙ ap (λ n. weight_after (suc n)) (sym many))
        ∙ ap (λ t. record { illegal = false; tail = tail.Run (weight_after (suc (length prefix))); tokens = t }) tokens

-- a run of a stretch with no illegal byte
pub puts_legal : (base : ℕ) (illegal : Bool) (before : List Piece) (first : ℕ) (others : List ℕ) (at more : ℕ) (old new : Cut) → old ≡ cut_of base illegal before → old.illegal ≡ false
    → (old ≡ cut_of base false before → PutsRun base false before first others at (Some more) old new) → PutsRun base illegal before first others at (Some more) old new
puts_legal base false before first others at more old new e legal put = put e
puts_legal base true before first others at more old new e legal put = absurd (true≢false (sym (ap (λ (c : Cut). c.illegal) e) ∙ legal))

-- ## A run in a text

-- what letters and digits after a text change
record Passes (seam : ℕ) (text run : List ℕ) : Type 0 where
  same_statements : statements (text_from text run) ≡ statements text
  no_comment : in_comment (text_from text run) ≡ false
  same_line : line_after (text_from text run) ≡ line_after text
  not_over : is_over (text_from text run) ≡ false
  same_illegal : has_illegal (since seam (stretch (text_from text run))) ≡ has_illegal (since seam (stretch text))
  more_pieces : pieces (since seam (stretch (text_from text run))) ≡ with_characters run (length text - seam) (pieces (since seam (stretch text)))
  many : length (text_from text run) ≡ length text + length run

-- a letter or a digit is no other character
record IsPlain (b : ℕ) : Type 0 where
  not_ignored : is_ignored b ≡ false
  no_cr : nat_eq b 13 ≡ false
  no_slash : nat_eq b 47 ≡ false
  no_dollar : nat_eq b 36 ≡ false
  no_end : is_end b ≡ false

plain : (b : ℕ) → is_coded b ≡ true → IsPlain b
plain b coded = record {
  not_ignored = grind (arith, nat_tests);
  no_cr = grind (arith, nat_tests);
  no_slash = grind (arith, nat_tests);
  no_dollar = grind (arith, nat_tests);
  no_end = grind (arith, nat_tests);
}

pub one_statement : (b : ℕ) (text : List ℕ) → is_end b ≡ false → statements (b ∷ text) ≡ statements text
unfolding statements
one_statement b text apart = rw apart refl

one_passes : (seam b : ℕ) (text : List ℕ) → is_coded b ≡ true → in_comment text ≡ false → is_over text ≡ false → Passes seam text (b ∷ [])
one_passes seam b text coded outside running =
    let is = plain b coded in
    let quiet : in_comment (b ∷ text) ≡ false = rw (is.no_cr, is.no_slash) outside in
    let live : is_dead text b ≡ false = rw (is.not_ignored) quiet in
    let grows : stretch (b ∷ text) ≡ (b, length text) ∷ stretch text = rw (live, is.no_end) refl in
    record {
      same_statements = one_statement b text is.no_end;
      no_comment = quiet;
      same_line = ap (λ n. limit (1 + n)) (ap (λ (t : Bool). (if t then 1 else 0) + cr_count text) is.no_cr ∙ omega arith);
      not_over = ap (λ (t : Bool). is_over text || (t && not (is_dead text b))) is.no_dollar ∙ rw running refl;
      same_illegal = ap (λ l. has_illegal (since seam l)) grows ∙ rw coded refl;
      more_pieces = ap (λ l. pieces (since seam l)) grows ∙ rw coded refl;
      many = omega arith;
    }

all_pass : (seam : ℕ) (run text : List ℕ) → seam ≤ length text → are_coded run ≡ true → in_comment text ≡ false → is_over text ≡ false → Passes seam text run
all_pass seam [] text begun coded outside running = record {
  same_statements = refl;
  no_comment = outside;
  same_line = refl;
  not_over = running;
  same_illegal = refl;
  more_pieces = refl;
  many = omega arith;
}
all_pass seam (b ∷ run) text begun coded outside running =
    let parts = both (is_coded b) (are_coded run) coded in
    let one = one_passes seam b text parts.0 outside running in
    let rest = all_pass seam run (b ∷ text) (omega (arith, begun)) parts.1 one.no_comment one.not_over in
    record {
      same_statements = rest.same_statements ∙ one.same_statements;
      no_comment = rest.no_comment;
      same_line = rest.same_line ∙ one.same_line;
      not_over = rest.not_over;
      same_illegal = rest.same_illegal ∙ one.same_illegal;
      more_pieces = rest.more_pieces ∙ ap (with_characters run (length (b ∷ text) - seam)) one.more_pieces
          ∙ ap (λ n. with_characters run n (with_character b (length text - seam) (pieces (since seam (stretch text))))) (omega (arith, begun));
      many = rest.many ∙ omega arith;
    }

pub reading : (l : Progress) (seam : ℕ) (text : List ℕ) → l.state ≡ Reading → HasRead l seam text → IsReading l seam text
unfolding HasRead
reading l seam text e read = subst (λ (s : State). StateIs s l seam text) e read

has_read : (l : Progress) (seam : ℕ) (text : List ℕ) → l.state ≡ Reading → IsReading l seam text → HasRead l seam text
unfolding HasRead
has_read l seam text e read = subst (λ (s : State). StateIs s l seam text) (sym e) read

-- a lexer with this place and draft
abbrev pub moved : Progress → ℕ → Cut → Progress
moved l place draft = record { state = l.state; source = l.source; may_pause = l.may_pause; comment = l.comment; place = place; line = l.line; radix = l.radix; keeps_tokens = l.keeps_tokens; draft = draft }

-- letters and digits that were put after a stretch
pub run_read : (old : Progress) (seam : ℕ) (text bytes others : List ℕ) (first more count place : ℕ) (draft : Cut) → old.state ≡ Reading → old.comment ≡ false → is_coded first ≡ true
    → bytes ≡ first ∷ others → count ≡ length bytes - (length others - more) → HasRead old seam text
    → ((illegal : Bool) (before : List Piece) (at : ℕ) → old.place ≡ limit at → old.draft ≡ cut_of (base old.radix) illegal before
    → PutsRun (base old.radix) illegal before first others at (Some more) old.draft draft)
    → place ≡ min (old.place + count) 18446744073709551615 → ReadsOn seam text bytes count (moved old place draft)
run_read old seam text bytes others first more count place draft e outside coded whole counted read put there =
    let now = reading old seam text e read in
    let live = since seam (stretch text) in
    let done = put (has_illegal live) (pieces live) (length text - seam) now.place
    (now.draft ∙ ap (λ r. cut r live) (sym now.radix)) in
    let run = first ∷ take more others in
    let passes = all_pass seam run text now.begun (rw (coded, done.1) refl) (sym now.comment ∙ outside) now.not_over in
    let long : length run ≡ suc more = ap suc (length_taken others more done.0) in
    let many : length bytes ≡ suc (length others) = ap (λ l. length l) whole in
    let next : count ≡ suc more = omega (arith, counted, many, done.0) in
    let taken : take count bytes ≡ run = ap (λ n. take n bytes) next ∙ ap (take (suc more)) whole in
    subst (λ prefix. (count ≤ length bytes) × (statements (text_from text prefix) ≡ statements text) × HasRead (moved old place draft) seam (text_from text prefix)) (sym taken) (
      omega (arith, counted),
      passes.same_statements,
      has_read (moved old place draft) seam (text_from text run) e record {
        begun = omega (arith, passes.many, now.begun);
        comment = outside ∙ sym passes.no_comment;
        place = there ∙ omega (arith, now.place, now.begun, passes.many, long, next);
        line = now.line ∙ sym passes.same_line;
        radix = now.radix ∙ ap radix_after (sym passes.same_statements);
        draft = done.2 ∙ ap (λ r. cut_of (base r) (has_illegal live) (with_characters run (length text - seam) (pieces live))) (now.radix ∙ ap radix_after (sym passes.same_statements))
            ∙ ap (λ b. cut_of (base (radix_after (statements (text_from text run)))) b (with_characters run (length text - seam) (pieces live))) (sym passes.same_illegal)
            ∙ ap (cut_of (base (radix_after (statements (text_from text run)))) (has_illegal (since seam (stretch (text_from text run))))) (sym passes.more_pieces);
        no_fault = ap first_fault passes.same_statements ∙ now.no_fault;
        not_over = passes.not_over;
      },
    )

-- ## A comment in a text

neither : (a b : Bool) → (a || b) ≡ false → (a ≡ false) × (b ≡ false)
neither true b e = absurd cc
neither false b e = (refl, e)

cr_more : (l : List ℕ) (n : ℕ) → n < length l → (get_or l n 0 ≡ 13 → ⊥) → has_cr (take n l) ≡ false → has_cr (take (suc n) l) ≡ false
cr_more [] n short other none = absurd (omega (arith, short))
cr_more (x ∷ l) zero short other none = grind (arith, nat_tests)
cr_more (x ∷ l) (suc n) short other none =
    let parts = neither (nat_eq x 13) (has_cr (take n l)) none in
    rw (parts.0, cr_more l n (omega (arith, short)) other parts.1) refl

pub no_cr_more : (l : List ℕ) (n : ℕ) → n < length l → (get_or l n 0 ≡ 13 → ⊥) → has_cr (take n l) ≡ false → has_cr (take (n + 1) l) ≡ false
no_cr_more l n short other none = ap (λ k. has_cr (take k l)) (next n) ∙ cr_more l n short other none
  where
    next : (n : ℕ) → n + 1 ≡ suc n
    next n = omega arith

-- what bytes of a comment after a text change
record Dies (text bytes : List ℕ) : Type 0 where
  same_statements : statements (text_from text bytes) ≡ statements text
  still_comment : in_comment (text_from text bytes) ≡ true
  same_line : line_after (text_from text bytes) ≡ line_after text
  same_over : is_over (text_from text bytes) ≡ is_over text
  same_stretch : stretch (text_from text bytes) ≡ stretch text
  many : length (text_from text bytes) ≡ length text + length bytes

pub dead_statement : (b : ℕ) (text : List ℕ) → is_dead text b ≡ true → statements (b ∷ text) ≡ statements text
unfolding statements
dead_statement b text dead =
    ap (λ (e : Bool). if e then with_stretch (line_after text) (nat_eq b 36) (stretch text) (statements text) else statements text)
    (no_end (is_end b) (is_dead text b) (is_over text) dead)
  where
    no_end : (a d o : Bool) → d ≡ true → (a && not d && not o) ≡ false
    no_end a false o e = absurd cc
    no_end true true o e = refl
    no_end false true o e = refl

one_dies : (b : ℕ) (text : List ℕ) → nat_eq b 13 ≡ false → in_comment text ≡ true → Dies text (b ∷ [])
one_dies b text other inside =
    let still : in_comment (b ∷ text) ≡ true = rw other (slash (nat_eq b 47) (in_comment text) inside) in
    let dead : is_dead text b ≡ true = rw still (or_true (is_ignored b)) in
    record {
      same_statements = dead_statement b text dead;
      still_comment = still;
      same_line = ap (λ n. limit (1 + n)) (ap (λ (t : Bool). (if t then 1 else 0) + cr_count text) other ∙ omega arith);
      same_over = ap (λ (d : Bool). is_over text || (nat_eq b 36 && not d)) dead ∙ over (is_over text) (nat_eq b 36);
      same_stretch = rw dead refl;
      many = omega arith;
    }
  where
    slash : (t c : Bool) → c ≡ true → (if t then true else c) ≡ true
    slash true c e = refl
    slash false c e = e

    or_true : (a : Bool) → (a || true) ≡ true
    or_true true = refl
    or_true false = refl

    over : (o t : Bool) → (o || (t && not true)) ≡ o
    over true t = refl
    over false true = refl
    over false false = refl

all_die : (bytes text : List ℕ) → has_cr bytes ≡ false → in_comment text ≡ true → Dies text bytes
all_die [] text none inside = record {
  same_statements = refl;
  still_comment = inside;
  same_line = refl;
  same_over = refl;
  same_stretch = refl;
  many = omega arith;
}
all_die (b ∷ bytes) text none inside =
    let parts = neither (nat_eq b 13) (has_cr bytes) none in
    let one = one_dies b text parts.0 inside in
    let rest = all_die bytes (b ∷ text) parts.1 one.still_comment in
    record {
      same_statements = rest.same_statements ∙ one.same_statements;
      still_comment = rest.still_comment;
      same_line = rest.same_line ∙ one.same_line;
      same_over = rest.same_over ∙ one.same_over;
      same_stretch = rest.same_stretch ∙ one.same_stretch;
      many = rest.many ∙ omega arith;
    }

-- bytes of a comment
pub comment_read : (old : Progress) (seam : ℕ) (text bytes : List ℕ) (count place : ℕ) → old.state ≡ Reading → old.comment ≡ true → count ≤ length bytes → has_cr (take count bytes) ≡ false
    → HasRead old seam text → place ≡ min (old.place + count) 18446744073709551615 → ReadsOn seam text bytes count (moved old place old.draft)
comment_read old seam text bytes count place e inside short none read there =
    let now = reading old seam text e read in
    let prefix = take count bytes in
    let dies = all_die prefix text none (sym now.comment ∙ inside) in
    let long : length prefix ≡ count = length_taken bytes count short in (
      short,
      dies.same_statements,
      has_read (moved old place old.draft) seam (text_from text prefix) e record {
        begun = omega (arith, dies.many, now.begun);
        comment = inside ∙ sym dies.still_comment;
        place = there ∙ omega (arith, now.place, now.begun, dies.many, long);
        line = now.line ∙ sym dies.same_line;
        radix = now.radix ∙ ap radix_after (sym dies.same_statements);
        draft = now.draft ∙ ap (λ s. cut (radix_after s) (since seam (stretch text))) (sym dies.same_statements)
            ∙ ap (λ l. cut (radix_after (statements (text_from text prefix))) (since seam l)) (sym dies.same_stretch);
        no_fault = ap first_fault dies.same_statements ∙ now.no_fault;
        not_over = dies.same_over ∙ now.not_over;
      },
    )

-- nothing was taken
pub none_read : (old : Progress) (seam : ℕ) (text bytes : List ℕ) → HasRead old seam text → ReadsOn seam text bytes 0 old
none_read old seam text bytes read = (omega arith, refl, read)

-- ## Some bytes, and then others

split : (bytes : List ℕ) (n k : ℕ) → n ≤ length bytes → take (n + k) bytes ≡ take n bytes ++ take k (drop n bytes)
split bytes zero k short = ap (λ n. take n bytes) (omega arith)
split [] (suc n) k short = absurd (omega (arith, short))
split (b ∷ bytes) (suc n) k short = ap (λ m. take m (b ∷ bytes)) (turned n k) ∙ ap (λ rest. b ∷ rest) (split bytes n k (omega (arith, short)))
  where
    turned : (n k : ℕ) → suc n + k ≡ suc (n + k)
    turned n k = omega arith

joined : (a b text : List ℕ) → text_from text (a ++ b) ≡ text_from (text_from text a) b
joined [] b text = refl
joined (x ∷ a) b text = joined a b (x ∷ text)

pub left : (bytes : List ℕ) (n : ℕ) → length (drop n bytes) ≡ length bytes - n
left bytes zero = omega arith
left [] (suc n) = omega arith
left (b ∷ bytes) (suc n) = left bytes n ∙ omega arith

pub read_further : (seam : ℕ) (text bytes : List ℕ) (taken count : ℕ) (middle new : Progress) → ReadsOn seam text bytes taken middle
    → ((t : List ℕ) → HasRead middle seam t → ReadsOn seam t (drop taken bytes) count new) → ReadsOn seam text bytes (taken + count) new
read_further seam text bytes taken count middle new first further =
    let rest = further (text_from text (take taken bytes)) first.2 in
    let whole : text_from text (take (taken + count) bytes) ≡ text_from (text_from text (take taken bytes)) (take count (drop taken bytes)) =
    ap (text_from text) (split bytes taken count first.0) ∙ joined (take taken bytes) (take count (drop taken bytes)) text in
    (omega (arith, first.0, rest.0, left bytes taken), ap statements whole ∙ rest.1 ∙ first.1, subst (HasRead new seam) (sym whole) rest.2)
