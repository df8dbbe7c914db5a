-- A datum that is shown is its word.
use Rattle.std.proofs.Common.{◌≡◌, ℕ, ◌+◌, ◌*◌, ◌/◌, ◌%◌, ◌<◌, nat_eq, Bool, true, false, true≢false, ◌||◌, if◌then◌else◌, inl, inr, cond, Option, Some, None, List, [], ◌∷◌, refl, ap, sym, ◌∙◌, arith}
use Rattle.std.specs.Prelude.{codes}
use Rattle.std.specs.Cmp.{unsigned_tied}
use Rattle.std.specs.FinMap.{find}
use Rattle.std.specs.Ordering.{nat_cmp}
use Rattle.std.proofs.lemmas.Bool.Decides.{eqb_tells}
use Rattle.word12.specs.Octal.{octal4}
use Rattle.pal_lex.specs.Runs.{name_number}
use Rattle.pal_lex.specs.Language.{is_reserved, operation_of}
use Rattle.pal_lex.specs.Grammar.{phrase_of_tokens, has_bad_number}
use Rattle.pal_lex.specs.declared.pieces.Term.TheVariants.{Name}
use Rattle.pal_lex.specs.declared.phrases.Joint.TheVariants.{Add}
use Rattle.pal_lex.specs.declared.phrases.Body.TheVariants.{Word}
use Rattle.pal_sym.specs.Permanent.{permanent, permanent_names}
use Rattle.pal_asm.specs.Expressions.{joined_values}
use Rattle.pal_asm.specs.Faults.{first_of, fault_of_name}
use Rattle.tape_source.specs.Looks.{Look, is_name, name_in, IsNaming}
use Rattle.tape_source.specs.Statements.{datum}
use Rattle.tape_source.specs.Named.{IsByTag}
use Rattle.tape_source.proofs.ByteLemmas.{coded4}
use Rattle.tape_source.proofs.PieceLemmas.{run_token, tokens_at}
use Rattle.tape_source.proofs.GrammarLemmas.{Say, term_parts, number_parts, with_kind, name_run, name_kind, number_says}
use Rattle.tape_source.proofs.StepLemmas.{IsWordOf, number_word}
use Rattle.tape_source.proofs.SourceLemmas.{IsShown}
use Rattle.tape_source.proofs.NameLemmas.{free_name, lone_name}

-- ## A name that is_not permanent is no operation

abbrev lists : List (ℕ × ℕ) → ℕ → Bool
lists [] name = false
lists (entry ∷ others) name = nat_eq entry.0 name || lists others name

not_listed : (n other : ℕ) (entries : List (ℕ × ℕ)) → find nat_cmp n entries ≡ None → lists entries other ≡ true → nat_eq n other ≡ false
not_listed n other [] none there = absurd (cc there)
not_listed n other (entry ∷ others) none there =
    let parts =
    either (nat_eq n entry.0) entry.1 (find nat_cmp n others) (ap (λ (b : Bool). cond b (Some entry.1) (find nat_cmp n others)) (sym (unsigned_tied n entry.0)) ∙ none) in
    elim (eqb_tells entry.0 other) [
      | inl same ↦ ap (nat_eq n) (sym same.1) ∙ parts.0
      | inr apart ↦ not_listed n other others parts.1 (ap (λ (b : Bool). b || lists others other) (sym apart.0) ∙ there)
    ]
  where
    either : (b : Bool) (value : ℕ) (rest : Option ℕ) → cond b (Some value) rest ≡ None → (b ≡ false) × (rest ≡ None)
    either true value rest e = absurd (cc e)
    either false value rest e = (refl, e)

no_operation : (n : ℕ) → permanent n ≡ None → operation_of n ≡ None
unfolding permanent
no_operation n none =
    let is_not = λ (other : ℕ) (there : lists permanent_names other ≡ true). not_listed n other permanent_names none there in
    let and = is_not (name_number (codes "AND")) refl in
    let tad = is_not (name_number (codes "TAD")) refl in
    let isz = is_not (name_number (codes "ISZ")) refl in
    let dca = is_not (name_number (codes "DCA")) refl in
    let jms = is_not (name_number (codes "JMS")) refl in
    let jmp = is_not (name_number (codes "JMP")) refl in
    rw (and, tad, isz, dca, jms, jmp) refl

-- ## A tag is the word that is its cell's address

name_says : (name : List ℕ) (at : ℕ) → is_name name ≡ true → is_reserved (name_number name) ≡ false → permanent (name_number name) ≡ None
    → Say (tokens_at at (name ∷ [])) [] (Word (term_parts (Name (name_number name))))
name_says name at is free none =
    let t = run_token at name in
    let n = name_number name in
    let kind = name_kind name is in
    record {
      fine = ap (λ k. has_bad_number (with_kind t k ∷ [])) kind;
      said_is = ap (λ k. phrase_of_tokens (with_kind t k ∷ [])) kind ∙ lone_name n t.start t.end (free_name n free) (no_operation n none);
    }

tag_word : (look : Look) (tagged : ℕ → Bool) (target place word : ℕ) → target < 32768 → tagged target ≡ true → target % 4096 ≡ word
    → IsWordOf look tagged (Word (term_parts (Name (name_in look.name target)))) place word
tag_word look tagged target place word small marked is = record {
  is_word = refl;
  value = λ known knows. ap (joined_values Add (Some 0)) (knows.tags_are target small marked) ∙ ap (λ w. Some w) (back target word is);
  no_fault = λ known knows. ap (λ o. first_of (fault_of_name o) None) (knows.tags_are target small marked);
}
  where
    back : (target word : ℕ) → target % 4096 ≡ word → (0 + target % 4096) % 4096 ≡ word
    back target word e = omega (arith, e)

-- ## A datum

pub shown_number : (look : Look) (tagged : ℕ → Bool) (cell word : ℕ) → IsByTag look tagged cell word (Word (number_parts word)) → word < 4096
    → IsShown look tagged cell word (octal4 word ∷ [])
shown_number look tagged cell word names small = record {
  first = octal4 word;
  others = [];
  some = refl;
  runs = rw (coded4 word) refl;
  body = Word (number_parts word);
  says = λ at. number_says word at small;
  means = number_word look tagged (cell % 4096) word small;
  names = names;
}

pub inside_field : (cell word : ℕ) → cell < 32768 → word < 4096 → 4096 * (cell / 4096) + word < 32768
inside_field cell word inside small = omega (arith, inside, small)

pub shown_datum : (look : Look) (tagged : ℕ → Bool) (cell word : ℕ) → IsNaming look.name → cell < 32768 → word < 4096
    → look.is_code cell ≡ false → IsShown look tagged cell word (datum look.name tagged cell word)
shown_datum look tagged cell word naming inside small data_there = by_zero (nat_eq word 0) refl
  where
    is_zero : (w : ℕ) → nat_eq w 0 ≡ true → w ≡ 0
    is_zero w e = elim (eqb_tells w 0) [ inl same ↦ same.1 | inr other ↦ absurd (true≢false (sym e ∙ other.0)) ]

    address : (field word : ℕ) → word < 4096 → (4096 * field + word) % 4096 ≡ word
    address field word small = omega (arith, small)

    either : (b : Bool) → tagged (4096 * (cell / 4096) + word) ≡ b
        → IsShown look tagged cell word ((if b then look.name (4096 * (cell / 4096) + word) else octal4 word) ∷ [])
    either true marked =
        let target = 4096 * (cell / 4096) + word in
        let low = inside_field cell word inside small in
        let is = naming.are_names target low in
        record {
          first = look.name target;
          others = [];
          some = refl;
          runs = rw (name_run (look.name target) is) refl;
          body = Word (term_parts (Name (name_in look.name target)));
          says = λ at. name_says (look.name target) at is (naming.not_reserved target low) (naming.not_permanent target low);
          means = tag_word look tagged target (cell % 4096) word low marked (address (cell / 4096) word small);
          names = record { reference = λ c r g. absurd (true≢false (sym c ∙ data_there)); datum = λ d n g. refl };
        }
    either false none =
        shown_number look tagged cell word
        record { reference = λ c r g. absurd (true≢false (sym c ∙ data_there)); datum = λ d n g. absurd (true≢false (sym g ∙ none)) } small

    by_zero : (z : Bool) → nat_eq word 0 ≡ z
        → IsShown look tagged cell word
        ((if z then octal4 word else if tagged (4096 * (cell / 4096) + word) then look.name (4096 * (cell / 4096) + word) else octal4 word) ∷ [])
    by_zero true zero =
        shown_number look tagged cell word
        record { reference = λ c r g. absurd (true≢false (sym c ∙ data_there)); datum = λ d n g. absurd (n (is_zero word zero)) } small
    by_zero false other = either (tagged (4096 * (cell / 4096) + word)) refl
