-- The text that sources join to.
use Rattle.std.proofs.Common.{◌≡◌, ℕ, ◌≤◌, ◌+◌, ◌-◌, Bool, true, false, if◌then◌else◌, nat_eq, Option, Some, None, Ok, suc, length, take, drop, get_or, List, [], ◌∷◌, ◌++◌, refl, sym, ap, subst, ◌∙◌, append_assoc, append-nil, length-append, arith}
use Rattle.std.proofs.lemmas.Bool.Decides.{nat_tests}
use Rattle.std.proofs.lemmas.List.{take_all}
use Rattle.std.specs.Borrow.{Bor}
use Rattle.pal_lex.specs.Text.{text_of}
use Rattle.pal8_lex.specs.Text.{live}
use Rattle.pal8_lex.specs.declared.rules.End.{End}
use Rattle.pal8_lex.specs.declared.rules.End.TheVariants as end
use Rattle.pal8_asm.specs.Sources.{PassResult, first_left}
use Rattle.pal8_places.specs.declared.options.Options.{Options}
use Rattle.pal8_tape.specs.Joins.{bytes_in, closing_bytes, counts_from, counts_of, is_line_open, join_from, join_of, joined_bytes, remainder_after, part, texts_of}
use Rattle.pal8_tape.specs.Passing.{Follows, PassState}
use Rattle.pal8_tape.specs.Steps.{Finds, Puts, part_bytes, part_with}
use Rattle.pal8_tape.specs.declared.pauses.Pause.{Pause}
use Rattle.pal8_tape.proofs.JoinTextLemmas.{text_again, text_joined, text_length}

-- These sources are still to be joined, and so much stands in the join.
pub record IsJoining (options : Options) (sources rest : List (Bor (List ℕ))) (join counts : List ℕ) (pass : PassState) : Type 0 where
  pub left : PassResult
  pub follows : (length rest ≡ 0 → ⊥) → Follows pass left
  pub text : join_of options (bytes_in sources) ≡ join_from left (texts_of (bytes_in rest)) ++ text_of join
  pub counts_are : counts_of options (bytes_in sources) ≡ counts ++ counts_from left (texts_of (bytes_in rest))

-- ## A part

closing_text : (e : End) → text_of (closing_bytes e) ≡ closing_bytes e
closing_text end.Semicolon = refl
closing_text end.Line = refl
closing_text end.Open = refl
closing_text end.Close = refl
closing_text end.Dollar = refl

line_end_by : (test : Bool) (bytes : List ℕ) → text_of (bytes ++ (if test then 0o12 ∷ [] else [])) ≡ (if test then 0o12 ∷ text_of bytes else text_of bytes)
line_end_by true bytes = text_joined bytes (0o12 ∷ [])
line_end_by false bytes = ap text_of (append-nil bytes)

part_text : (bytes : List ℕ) (found : Option Pause) → text_of (part_bytes bytes found) ≡ part_with bytes found
part_text bytes None = line_end_by (is_line_open (live (text_of bytes))) bytes
part_text bytes (Some pause) =
    text_joined (take pause.count bytes ++ closing_bytes pause.end) (0o12 ∷ [])
    ∙ ap (λ l. 0o12 ∷ l) (text_joined (take pause.count bytes) (closing_bytes pause.end) ∙ ap (λ l. l ++ text_of (take pause.count bytes)) (closing_text pause.end))

-- a part was put after a join
pub part_put : (left : PassResult) (bytes old new counts counts_then : List ℕ) (found : Option Pause) (pass : PassState) (count : ℕ) → Finds left bytes found pass
    → new ≡ old ++ part_bytes bytes found → count ≡ length new - length old → counts_then ≡ counts ++ count ∷ [] → Puts false left bytes old new counts counts_then pass
part_put left bytes old new counts counts_then found pass count finds put counted added =
    let is : part left (text_of bytes) ≡ text_of (part_bytes bytes found) = finds.0 ∙ sym (part_text bytes found) in
    let long : length new ≡ length old + length (part_bytes bytes found) = ap length put ∙ length-append old (part_bytes bytes found) in (
      ap text_of put ∙ text_joined old (part_bytes bytes found) ∙ ap (λ l. l ++ text_of old) (sym is),
      added ∙ ap (λ n. counts ++ n ∷ []) (counted ∙ omega (arith, long) ∙ sym (text_length (part_bytes bytes found)) ∙ sym (ap length is)),
      finds.1,
    )

-- ## The first of the sources that are left

abbrev pub following_one : {A : Type 0} → List A → List A
following_one l = take (length l - 1) (drop 1 l)

less_one : (n : ℕ) → suc n - 1 ≡ n
less_one n = omega arith

first_of_rest : {A : Type 0} (rest : List A) (none : A) → 1 ≤ length rest → rest ≡ get_or rest 0 none ∷ following_one rest
first_of_rest [] none long = absurd (omega (arith, long))
first_of_rest (x ∷ others) none long = ap (λ l. x ∷ l) (sym (ap (λ n. take n others) (less_one (length others)) ∙ take_all (length others) others (omega arith)))

some_more : (next : Bor (List ℕ)) (later : List (Bor (List ℕ))) → nat_eq (length (next ∷ later)) 0 ≡ false
some_more next later = grind (arith, nat_tests)

module _ (options : Options) (sources : List (Bor (List ℕ))) (source : Bor (List ℕ)) (join join' counts counts' : List ℕ) (pass pass' : PassState) (last : Bool) where
  put_on : (others : List (Bor (List ℕ))) → IsJoining options sources (source ∷ others) join counts pass → last ≡ nat_eq (length others) 0
      → ((left : PassResult) → Follows pass left → Puts last left source.now join join' counts counts' pass') → IsJoining options sources others join' counts' pass'
  put_on [] stands is puts =
      let put = subst (λ l. Puts l stands.left source.now join join' counts counts' pass') is (puts stands.left (stands.follows (λ none. omega (arith, none)))) in
      record {
        left = stands.left;
        follows = λ none. absurd (none refl);
        text = stands.text ∙ sym (ap text_of put.0 ∙ text_joined join source.now);
        counts_are = stands.counts_are ∙ ap (λ l. l ++ []) (sym put.1);
      }
  put_on (next ∷ later) stands is puts =
      let put = subst (λ l. Puts l stands.left source.now join join' counts counts' pass') (is ∙ some_more next later) (puts stands.left (stands.follows (λ none. omega (arith, none)))) in
      let text = text_of source.now in
      let others = texts_of (bytes_in (next ∷ later)) in
      record {
        left = remainder_after stands.left text;
        follows = λ none. put.2;
        text = stands.text ∙ append_assoc (join_from (remainder_after stands.left text) others) (part stands.left text) (text_of join)
            ∙ ap (λ l. join_from (remainder_after stands.left text) others ++ l) (sym put.0);
        counts_are = stands.counts_are ∙ sym (append_assoc counts (length (part stands.left text) ∷ []) (counts_from (remainder_after stands.left text) others))
            ∙ ap (λ l. l ++ counts_from (remainder_after stands.left text) others) (sym put.1);
      }

pub joins_on : (options : Options) (sources rest : List (Bor (List ℕ))) (none : Bor (List ℕ)) (join join' counts counts' : List ℕ) (pass pass' : PassState) (last : Bool) → 1 ≤ length rest
    → IsJoining options sources rest join counts pass → last ≡ nat_eq (length (following_one rest)) 0
    → ((left : PassResult) → Follows pass left → Puts last left (get_or rest 0 none).now join join' counts counts' pass') → IsJoining options sources (following_one rest) join' counts' pass'
joins_on options sources rest none join join' counts counts' pass pass' last long stands is puts =
    put_on options sources (get_or rest 0 none) join join' counts counts' pass pass' last (following_one rest)
    (subst (λ l. IsJoining options sources l join counts pass) (first_of_rest rest none long) stands) is puts

-- nothing is joined yet
pub begins : (options : Options) (sources : List (Bor (List ℕ))) (pass : PassState) → Follows pass (Ok (first_left options)) → IsJoining options sources sources [] [] pass
begins options sources pass follows = record { left = Ok (first_left options); follows = λ none. follows; text = sym (append-nil (join_of options (bytes_in sources))); counts_are = refl }

none_left : (rest : List (Bor (List ℕ))) → length rest ≡ 0 → rest ≡ []
none_left [] none = refl
none_left (source ∷ rest) none = absurd (omega (arith, none))

module _ (options : Options) (sources rest : List (Bor (List ℕ))) (join counts : List ℕ) (pass : PassState) (none : length rest ≡ 0) (stands : IsJoining options sources rest join counts pass) where
  pub joined_text : join ≡ joined_bytes options (bytes_in sources)
  joined_text =
      let is : join_of options (bytes_in sources) ≡ text_of join = stands.text ∙ ap (λ l. join_from stands.left (texts_of (bytes_in l)) ++ text_of join) (none_left rest none) in
      sym (ap text_of is ∙ text_again join)

  pub joined_counts : counts ≡ counts_of options (bytes_in sources)
  joined_counts = sym (stands.counts_are ∙ ap (λ l. counts ++ counts_from stands.left (texts_of (bytes_in l))) (none_left rest none) ∙ append-nil counts)
