-- Lines after a text.
use Rattle.std.proofs.Common.{◌≡◌, ℕ, nat_eq, nat_le, nat_lt, Bool, true, false, ◌&&◌, ◌||◌, not, if◌then◌else◌, suc, length, List, [], ◌∷◌, ◌++◌, refl, ap, ◌∙◌, arith}
use Rattle.std.proofs.lemmas.Bool.Decides.{nat_tests}
use Rattle.pal_lex.specs.Text.{is_ignored, in_comment, is_dead, is_end, is_over, stretch, line_after, text_from}
use Rattle.pal_lex.specs.Steps.{has_cr}
use Rattle.pal_lex.specs.Cutting.{is_legal}
use Rattle.pal_lex.specs.Statements.{statements, judge_statement, radix_after, with_stretch}
use Rattle.source_notes.specs.Laws.{are_graphic}
use Rattle.tape_source.proofs.ByteLemmas.{both, neither, IsPlain, plain, all_legal}

pub text_append : (a b text : List ℕ) → text_from text (a ++ b) ≡ text_from (text_from text a) b
text_append [] b text = refl
text_append (x ∷ a) b text = text_append a b (x ∷ text)

-- live bytes after others, from a place on
abbrev pub laid : List (ℕ × ℕ) → ℕ → List ℕ → List (ℕ × ℕ)
laid live at [] = live
laid live at (b ∷ bytes) = laid ((b, at) ∷ live) (suc at) bytes

-- ## Legal bytes

pub record Lengthens (text bytes : List ℕ) : Type 0 where
  pub no_comment : in_comment (text_from text bytes) ≡ false
  pub not_over : is_over (text_from text bytes) ≡ false
  pub same : statements (text_from text bytes) ≡ statements text
  pub longer : stretch (text_from text bytes) ≡ laid (stretch text) (length text) bytes

one_longer : (text : List ℕ) (b : ℕ) → in_comment text ≡ false → is_over text ≡ false → IsPlain b → Lengthens text (b ∷ [])
unfolding statements
one_longer text b outside going is =
    let no_comment : in_comment (b ∷ text) ≡ false = rw (is.return, is.slash) outside in
    let alive : is_dead text b ≡ false = rw (is.ignored, no_comment) refl in
    record {
      no_comment = no_comment;
      not_over = rw (going, is.dollar) refl;
      same = rw is.end refl;
      longer = rw (alive, is.end) refl;
    }

pub lengthens : (text bytes : List ℕ) → in_comment text ≡ false → is_over text ≡ false → all_legal bytes ≡ true → Lengthens text bytes
lengthens text [] outside going legal = record { no_comment = outside; not_over = going; same = refl; longer = refl }
lengthens text (b ∷ bytes) outside going legal =
    let parts = both (is_legal b) (all_legal bytes) legal in
    let one = one_longer text b outside going (plain b parts.0) in
    let rest = lengthens (b ∷ text) bytes one.no_comment one.not_over parts.1 in
    record {
      no_comment = rest.no_comment;
      not_over = rest.not_over;
      same = rest.same ∙ one.same;
      longer = rest.longer ∙ ap (λ live. laid live (suc (length text)) bytes) one.longer;
    }

-- ## Comments

-- what bytes of a comment change
record Dies (text bytes : List ℕ) : Type 0 where
  same : statements (text_from text bytes) ≡ statements text
  still_comment : in_comment (text_from text bytes) ≡ true
  same_over : is_over (text_from text bytes) ≡ is_over text
  same_stretch : stretch (text_from text bytes) ≡ stretch text

dead_byte : (text : List ℕ) (b : ℕ) → in_comment (b ∷ text) ≡ true → Dies text (b ∷ [])
unfolding statements
dead_byte text b inside =
    let dead : is_dead text b ≡ true = rw inside (or_true (is_ignored b)) in
    record {
      same = ap (λ (e : Bool). if e then with_stretch (line_after text) (nat_eq b 36) (stretch text) (statements text) else statements text)
          (no_end (is_end b) (is_dead text b) (is_over text) dead);
      still_comment = inside;
      same_over = ap (λ (d : Bool). is_over text || (nat_eq b 36 && not d)) dead ∙ over (is_over text) (nat_eq b 36);
      same_stretch = rw dead refl;
    }
  where
    or_true : (a : Bool) → (a || true) ≡ true
    or_true true = refl
    or_true false = refl

    no_end : (a d o : Bool) → d ≡ true → (a && not d && not o) ≡ false
    no_end a false o e = absurd cc
    no_end true true o e = refl
    no_end false true o e = refl

    over : (o t : Bool) → (o || (t && not true)) ≡ o
    over true t = refl
    over false true = refl
    over false false = refl

all_die : (text bytes : List ℕ) → has_cr bytes ≡ false → in_comment text ≡ true → Dies text bytes
all_die text [] none inside = record { same = refl; still_comment = inside; same_over = refl; same_stretch = refl }
all_die text (b ∷ bytes) none inside =
    let parts = neither (nat_eq b 13) (has_cr bytes) none in
    let one = dead_byte text b (rw parts.0 (slash (nat_eq b 47) (in_comment text) inside)) in
    let rest = all_die (b ∷ text) bytes parts.1 one.still_comment in
    record {
      same = rest.same ∙ one.same;
      still_comment = rest.still_comment;
      same_over = rest.same_over ∙ one.same_over;
      same_stretch = rest.same_stretch ∙ one.same_stretch;
    }
  where
    slash : (t c : Bool) → c ≡ true → (if t then true else c) ≡ true
    slash true c e = refl
    slash false c e = e

-- graphic characters are no CR
pub no_return : (bytes : List ℕ) → are_graphic bytes ≡ true → has_cr bytes ≡ false
no_return [] graphic = refl
no_return (b ∷ bytes) graphic =
    let parts = both (nat_le 0o40 b && nat_lt b 0o177) (are_graphic bytes) graphic in
    none (nat_eq b 13) (has_cr bytes) (other b (both (nat_le 0o40 b) (nat_lt b 0o177) parts.0).0) (no_return bytes parts.1)
  where
    other : (b : ℕ) → nat_le 0o40 b ≡ true → nat_eq b 13 ≡ false
    other b high = grind (arith, nat_tests)

    none : (a c : Bool) → a ≡ false → c ≡ false → (a || c) ≡ false
    none a c e f = rw (e, f) refl

pub no_return_more : (a b : List ℕ) → has_cr a ≡ false → has_cr b ≡ false → has_cr (a ++ b) ≡ false
no_return_more [] b e f = f
no_return_more (x ∷ a) b e f =
    let parts = neither (nat_eq x 13) (has_cr a) e in
    rw (parts.0, no_return_more a b parts.1 f) refl

-- ## Whole lines

-- a line with these live bytes after a text ends one statement more, and leaves the beginning of a line
pub record Ends (text code after : List ℕ) : Type 0 where
  pub line : ℕ
  pub statement : statements after ≡ judge_statement line false (laid (stretch text) (length text) code) (radix_after (statements text)) ∷ statements text
  pub no_comment : in_comment after ≡ false
  pub not_over : is_over after ≡ false
  pub begins : stretch after ≡ []

-- CR and LF
returned : (text : List ℕ) → is_over text ≡ false
    → (statements (10 ∷ 13 ∷ text) ≡ judge_statement (line_after text) false (stretch text) (radix_after (statements text)) ∷ statements text) × (is_over (10 ∷ 13 ∷ text) ≡ false)
unfolding statements
returned text going = (rw going refl, rw going refl)

pub ends : (text code : List ℕ) → in_comment text ≡ false → is_over text ≡ false → all_legal code ≡ true → Ends text code (text_from text (code ++ 13 ∷ 10 ∷ []))
ends text code outside going legal =
    let t = text_from text code in
    let longer = lengthens text code outside going legal in
    let end = returned t longer.not_over in
    let whole = text_append code (13 ∷ 10 ∷ []) text in
    record {
      line = line_after t;
      statement =
          ap statements whole ∙ end.0
          ∙ ap (λ live. judge_statement (line_after t) false live (radix_after (statements t)) ∷ statements t) longer.longer
          ∙ ap (λ s. judge_statement (line_after t) false (laid (stretch text) (length text) code) (radix_after s) ∷ s) longer.same;
      no_comment = ap in_comment whole;
      not_over = ap is_over whole ∙ end.1;
      begins = ap stretch whole;
    }

pub ends_commented : (text code comment : List ℕ) → in_comment text ≡ false → is_over text ≡ false → all_legal code ≡ true → has_cr comment ≡ false
    → Ends text code (text_from text (code ++ (47 ∷ (comment ++ 13 ∷ 10 ∷ []))))
ends_commented text code comment outside going legal none =
    let t = text_from text code in
    let longer = lengthens text code outside going legal in
    let slash = dead_byte t 47 refl in
    let dies = all_die (47 ∷ t) comment none refl in
    let u = text_from (47 ∷ t) comment in
    let end = returned u (dies.same_over ∙ slash.same_over ∙ longer.not_over) in
    let whole : text_from text (code ++ (47 ∷ (comment ++ 13 ∷ 10 ∷ []))) ≡ 10 ∷ 13 ∷ u =
    text_append code (47 ∷ (comment ++ 13 ∷ 10 ∷ [])) text ∙ text_append comment (13 ∷ 10 ∷ []) (47 ∷ t) in
    record {
      line = line_after u;
      statement =
          ap statements whole ∙ end.0
          ∙ ap (λ live. judge_statement (line_after u) false live (radix_after (statements u)) ∷ statements u) (dies.same_stretch ∙ slash.same_stretch ∙ longer.longer)
          ∙ ap (λ s. judge_statement (line_after u) false (laid (stretch text) (length text) code) (radix_after s) ∷ s) (dies.same ∙ slash.same ∙ longer.same);
      no_comment = ap in_comment whole;
      not_over = ap is_over whole ∙ end.1;
      begins = ap stretch whole;
    }
