-- Memory references that are shown are their words.
use Rattle.std.proofs.Common.{◌≡◌, ℕ, ◌+◌, ◌*◌, ◌/◌, ◌%◌, ◌<◌, ◌≤◌, nat_eq, nat_lt, nat_le, Bool, true, false, true≢false, ◌||◌, if◌then◌else◌, inl, inr, Some, None, zero, suc, length, List, [], ◌∷◌, ◌++◌, refl, ap, sym, subst, ◌∙◌, arith}
use Rattle.std.specs.Prelude.{codes}
use Rattle.std.proofs.lemmas.Bool.Decides.{eqb_tells, nat_tests}
use Rattle.word12.specs.Octal.{octal4}
use Rattle.pal_lex.specs.Runs.{name_number}
use Rattle.pal_lex.specs.Language.{word_of, is_reserved, is_named}
use Rattle.pal_lex.specs.Grammar.{phrase_of_tokens, has_bad_number, free_term}
use Rattle.pal_lex.specs.declared.pieces.Term as term
use Rattle.pal_lex.specs.declared.pieces.Term.TheVariants.{Name, Number}
use Rattle.pal_lex.specs.declared.phrases.Joint.TheVariants.{Add}
use Rattle.pal_lex.specs.declared.pieces.Kind.TheVariants.{Term}
use Rattle.pal_lex.specs.declared.pieces.Token.{Token}
use Rattle.pal_lex.specs.declared.phrases.Operation.{Operation}
use Rattle.pal_lex.specs.declared.phrases.Operation.TheVariants.{And, Tad, Isz, Dca, Jms, Jmp}
use Rattle.pal_lex.specs.declared.phrases.Body.TheVariants.{Reference}
use Rattle.pal_asm.specs.Expressions.{Meanings, term_value, joined_values, value_of}
use Rattle.pal_asm.specs.Words.{offset_of, offset_to, with_offset}
use Rattle.pal_asm.specs.Faults.{first_of, fault_of_name, term_fault, no_offset, out_of_reach}
use Rattle.flow8.specs.Exits.{address_of_reference, referred_cell}
use Rattle.tape_source.specs.Looks.{Look, name_in, IsNaming}
use Rattle.tape_source.specs.References.{operation_name, is_reference}
use Rattle.tape_source.specs.Statements.{address, reference}
use Rattle.tape_source.proofs.ByteLemmas.{both, coded4}
use Rattle.tape_source.proofs.PieceLemmas.{kind_of, run_token, blank_token, tokens_at, is_run, are_runs}
use Rattle.tape_source.proofs.GrammarLemmas.{Say, term_parts, name_run, name_kind, octal_kind, with_kind}
use Rattle.tape_source.proofs.StepLemmas.{Knows, IsWordOf}
use Rattle.tape_source.proofs.SourceLemmas.{IsShown}

-- ## Operations

abbrev name_of : Operation → List ℕ
name_of And = codes "AND"
name_of Tad = codes "TAD"
name_of Isz = codes "ISZ"
name_of Dca = codes "DCA"
name_of Jms = codes "JMS"
name_of Jmp = codes "JMP"

record IsOperation (n : ℕ) : Type 0 where
  operation : Operation
  name : operation_name n ≡ name_of operation
  value : word_of operation ≡ 512 * n

operation_at : (n : ℕ) → n < 6 → IsOperation n
operation_at zero small = record { operation = And; name = refl; value = refl }
operation_at (suc zero) small = record { operation = Tad; name = refl; value = refl }
operation_at (suc (suc zero)) small = record { operation = Isz; name = refl; value = refl }
operation_at (suc (suc (suc zero))) small = record { operation = Dca; name = refl; value = refl }
operation_at (suc (suc (suc (suc zero)))) small = record { operation = Jms; name = refl; value = refl }
operation_at (suc (suc (suc (suc (suc zero))))) small = record { operation = Jmp; name = refl; value = refl }
operation_at (suc (suc (suc (suc (suc (suc n)))))) small = absurd (omega (arith, small))

-- ## What they say

-- a term that may be the address of a reference
record IsAddressTerm (t : term.Term) : Type 0 where
  free : free_term t ≡ Some t
  no_i : is_named (name_number (codes "I")) (Term t) ≡ false
  no_z : is_named (name_number (codes "Z")) (Term t) ≡ false

-- what is shown for an address is a term that stands for it, the name of a cell's tag where the cell has one
record IsAddress (look : Look) (tagged : ℕ → Bool) (target : ℕ) (shown : List ℕ) (address : ℕ) : Type 0 where
  t : term.Term
  kind_is : kind_of shown ≡ Term t
  run : is_run shown ≡ true
  is_term : IsAddressTerm t
  value : (known : Meanings) → Knows look tagged known → (place : ℕ) → term_value known place t ≡ Some address
  no_fault : (known : Meanings) → Knows look tagged known → (place : ℕ) → term_fault known place t ≡ None
  is_name : tagged target ≡ true → t ≡ Name (name_in look.name target)

number_address : (look : Look) (tagged : ℕ → Bool) (target a : ℕ) → tagged target ≡ false → a < 4096 → IsAddress look tagged target (octal4 a) a
number_address look tagged target a none small = record {
  t = Number a;
  kind_is = octal_kind a small;
  run = coded4 a;
  is_term = record { free = refl; no_i = refl; no_z = refl };
  value = λ known knows place. refl;
  no_fault = λ known knows place. refl;
  is_name = λ is_marked. absurd (true≢false (sym is_marked ∙ none));
}

-- a name that isn't reserved is neither `I` nor `Z`
ordinary : (n : ℕ) → is_reserved n ≡ false → (nat_eq n (name_number (codes "I")) ≡ false) × (nat_eq n (name_number (codes "Z")) ≡ false)
ordinary n e =
    last_two (nat_eq n (name_number (codes "DECIMA"))) (nat_eq n (name_number (codes "OCTAL"))) (nat_eq n (name_number (codes "FIELD")))
    (nat_eq n (name_number (codes "PAUSE"))) (nat_eq n (name_number (codes "I"))) (nat_eq n (name_number (codes "Z"))) e
  where
    last_two : (a b c d e f : Bool) → (a || b || c || d || e || f) ≡ false → (e ≡ false) × (f ≡ false)
    last_two false false false false false false h = (refl, refl)
    last_two true b c d e f h = absurd (cc h)
    last_two false true c d e f h = absurd (cc h)
    last_two false false true d e f h = absurd (cc h)
    last_two false false false true e f h = absurd (cc h)
    last_two false false false false true f h = absurd (cc h)
    last_two false false false false false true h = absurd (cc h)

tag_address : (look : Look) (tagged : ℕ → Bool) (cell : ℕ) → IsNaming look.name → cell < 32768 → tagged cell ≡ true → IsAddress look tagged cell (look.name cell) (cell % 4096)
tag_address look tagged cell naming small is_marked =
    let n = name_in look.name cell in
    let is = naming.are_names cell small in
    let free = naming.not_reserved cell small in
    let plain = ordinary n free in
    record {
      t = Name n;
      kind_is = name_kind (look.name cell) is;
      run = name_run (look.name cell) is;
      is_term = record { free = ap (λ (b : Bool). if b then None else Some (Name n)) free; no_i = plain.0; no_z = plain.1 };
      value = λ known knows place. knows.tags_are cell small is_marked;
      no_fault = λ known knows place. ap fault_of_name (knows.tags_are cell small is_marked);
      is_name = λ is_marked. refl;
    }

-- the tokens of a reference with its address
abbrev direct_tokens : ℕ → List ℕ → Token → List Token
direct_tokens at name t = run_token at name ∷ blank_token (at + 3) ∷ t ∷ []

abbrev indirect_tokens : ℕ → List ℕ → Token → List Token
indirect_tokens at name t = run_token at name ∷ blank_token (at + 3) ∷ run_token (suc (at + 3)) (codes "I") ∷ blank_token (suc (at + 3) + 1) ∷ t ∷ []

direct_fine : (op : Operation) (t : term.Term) (at start end : ℕ) → has_bad_number (direct_tokens at (name_of op) (record { kind = Term t; start = start; end = end })) ≡ false
direct_fine And t at start end = refl
direct_fine Tad t at start end = refl
direct_fine Isz t at start end = refl
direct_fine Dca t at start end = refl
direct_fine Jms t at start end = refl
direct_fine Jmp t at start end = refl

direct_said : (op : Operation) (t : term.Term) (at start end : ℕ) → IsAddressTerm t
    → phrase_of_tokens (direct_tokens at (name_of op) (record { kind = Term t; start = start; end = end })) ≡ Some record { tags = []; body = Reference op false (Some (term_parts t)) }
direct_said And t at start end is = rw (is.no_i, is.no_z, is.free) refl
direct_said Tad t at start end is = rw (is.no_i, is.no_z, is.free) refl
direct_said Isz t at start end is = rw (is.no_i, is.no_z, is.free) refl
direct_said Dca t at start end is = rw (is.no_i, is.no_z, is.free) refl
direct_said Jms t at start end is = rw (is.no_i, is.no_z, is.free) refl
direct_said Jmp t at start end is = rw (is.no_i, is.no_z, is.free) refl

indirect_fine : (op : Operation) (t : term.Term) (at start end : ℕ) → has_bad_number (indirect_tokens at (name_of op) (record { kind = Term t; start = start; end = end })) ≡ false
indirect_fine And t at start end = refl
indirect_fine Tad t at start end = refl
indirect_fine Isz t at start end = refl
indirect_fine Dca t at start end = refl
indirect_fine Jms t at start end = refl
indirect_fine Jmp t at start end = refl

indirect_said : (op : Operation) (t : term.Term) (at start end : ℕ) → IsAddressTerm t
    → phrase_of_tokens (indirect_tokens at (name_of op) (record { kind = Term t; start = start; end = end })) ≡ Some record { tags = []; body = Reference op true (Some (term_parts t)) }
indirect_said And t at start end is = rw (is.no_i, is.no_z, is.free) refl
indirect_said Tad t at start end is = rw (is.no_i, is.no_z, is.free) refl
indirect_said Isz t at start end is = rw (is.no_i, is.no_z, is.free) refl
indirect_said Dca t at start end is = rw (is.no_i, is.no_z, is.free) refl
indirect_said Jms t at start end is = rw (is.no_i, is.no_z, is.free) refl
indirect_said Jmp t at start end is = rw (is.no_i, is.no_z, is.free) refl

three_long : (op : Operation) → length (name_of op) ≡ 3
three_long And = refl
three_long Tad = refl
three_long Isz = refl
three_long Dca = refl
three_long Jms = refl
three_long Jmp = refl

runs_named : (op : Operation) (others : List (List ℕ)) → are_runs others ≡ true → are_runs (name_of op ∷ others) ≡ true
runs_named And others e = e
runs_named Tad others e = e
runs_named Isz others e = e
runs_named Dca others e = e
runs_named Jms others e = e
runs_named Jmp others e = e

abbrev indirection : Bool → List (List ℕ)
indirection true = codes "I" ∷ []
indirection false = []

reference_says : (look : Look) (tagged : ℕ → Bool) (target : ℕ) (op : Operation) (indirect : Bool) (shown : List ℕ) (a at : ℕ) (is : IsAddress look tagged target shown a)
    → Say (tokens_at at (name_of op ∷ (indirection indirect ++ shown ∷ []))) [] (Reference op indirect (Some (term_parts is.t)))
reference_says look tagged target op true shown a at is =
    let t = run_token (suc (suc (at + 3) + 1)) shown in
    let long = three_long op in
    record {
      fine =
          ap (λ n. has_bad_number (run_token at (name_of op) ∷ blank_token (at + n) ∷ run_token (suc (at + n)) (codes "I") ∷ blank_token (suc (at + n) + 1) ∷ run_token (suc (suc (at + n) + 1)) shown ∷ [])) long
          ∙ ap (λ k. has_bad_number (indirect_tokens at (name_of op) (with_kind t k))) is.kind_is
          ∙ indirect_fine op is.t at t.start t.end;
      said_is =
          ap (λ n. phrase_of_tokens (run_token at (name_of op) ∷ blank_token (at + n) ∷ run_token (suc (at + n)) (codes "I") ∷ blank_token (suc (at + n) + 1) ∷ run_token (suc (suc (at + n) + 1)) shown ∷ [])) long
          ∙ ap (λ k. phrase_of_tokens (indirect_tokens at (name_of op) (with_kind t k))) is.kind_is
          ∙ indirect_said op is.t at t.start t.end is.is_term;
    }
reference_says look tagged target op false shown a at is =
    let t = run_token (suc (at + 3)) shown in
    let long = three_long op in
    record {
      fine =
          ap (λ n. has_bad_number (run_token at (name_of op) ∷ blank_token (at + n) ∷ run_token (suc (at + n)) shown ∷ [])) long
          ∙ ap (λ k. has_bad_number (direct_tokens at (name_of op) (with_kind t k))) is.kind_is
          ∙ direct_fine op is.t at t.start t.end;
      said_is =
          ap (λ n. phrase_of_tokens (run_token at (name_of op) ∷ blank_token (at + n) ∷ run_token (suc (at + n)) shown ∷ [])) long
          ∙ ap (λ k. phrase_of_tokens (direct_tokens at (name_of op) (with_kind t k))) is.kind_is
          ∙ direct_said op is.t at t.start t.end is.is_term;
    }

-- ## What their words are

record IsOffset (at address word : ℕ) : Type 0 where
  offset : ℕ
  is : offset_of at address ≡ Some offset
  value : offset ≡ word % 256

offset_there : (at word : ℕ) → at < 4096 → is_reference at word ≡ true → IsOffset at (address_of_reference at word) word
offset_there at word inside shown =
    elim (eqb_tells (word / 128 % 2) 0) [
      | inl zero_page ↦
          let e = zero_page.1 in
          record {
            offset = word % 128;
            is =
                ap (λ (b : Bool). offset_of at (if b then word % 128 else 128 * (at / 128) + word % 128)) zero_page.0
                ∙ ap (λ (b : Bool). if b then Some (word % 128) else (if nat_eq (word % 128 / 128) (at / 128) then Some (word % 128 % 128 + 128) else None)) (low (word % 128) (omega arith));
            value = omega (arith, e);
          }
      | inr own_page ↦
          let e = own_page.1 in
          let a = 128 * (at / 128) + word % 128 in
          let high : 128 ≤ at = reached at word own_page.0 shown in
          record {
            offset = a % 128 + 128;
            is =
                ap (λ (b : Bool). offset_of at (if b then word % 128 else a)) own_page.0
                ∙ ap (λ (b : Bool). if b then Some a else (if nat_eq (a / 128) (at / 128) then Some (a % 128 + 128) else None)) (not_low a (omega (arith, high)))
                ∙ ap (λ (b : Bool). if b then Some (a % 128 + 128) else None) (same (a / 128) (at / 128) (omega arith));
            value = omega (arith, e);
          }
    ]
  where
    low : (n : ℕ) → n < 128 → nat_lt n 128 ≡ true
    low n small = grind (arith, nat_tests)

    not_low : (n : ℕ) → 128 ≤ n → nat_lt n 128 ≡ false
    not_low n high = grind (arith, nat_tests)

    same : (m n : ℕ) → m ≡ n → nat_eq m n ≡ true
    same m n e = grind (arith, nat_tests)

    at_least : (m n : ℕ) → nat_le m n ≡ true → m ≤ n
    at_least m n e = grind (arith, nat_tests)

    reached : (at word : ℕ) → nat_eq (word / 128 % 2) 0 ≡ false → is_reference at word ≡ true → 128 ≤ at
    reached at word own shown =
        let parts = both (nat_lt word 3072) (nat_eq (word / 128 % 2) 0 || nat_le 128 at) shown in
        at_least 128 at (ap (λ (b : Bool). b || nat_le 128 at) (sym own) ∙ parts.1)

address_small : (at word : ℕ) → at < 4096 → address_of_reference at word < 4096
address_small at word inside =
    elim (eqb_tells (word / 128 % 2) 0) [
      | inl zero_page ↦ rw zero_page.0 (omega arith)
      | inr own_page ↦ rw own_page.0 (omega (arith, inside))
    ]

small_mod : (a : ℕ) → a < 4096 → (0 + a) % 4096 ≡ a
small_mod a small = omega arith

reference_word : (look : Look) (tagged : ℕ → Bool) (target : ℕ) (op : Operation) (indirect : Bool) (shown : List ℕ) (at a word offset : ℕ) (is : IsAddress look tagged target shown a) → a < 4096
    → offset_of at a ≡ Some offset → word_of op + (if indirect then 256 else 0) + offset ≡ word
    → IsWordOf look tagged (Reference op indirect (Some (term_parts is.t))) at word
reference_word look tagged target op indirect shown at a word offset is small there comes = record {
  is_word = refl;
  value = λ known knows.
      ap (λ v. with_offset op indirect (offset_to at (joined_values Add (Some 0) v))) (is.value known knows at)
      ∙ ap (λ n. with_offset op indirect (offset_to at (Some n))) (small_mod a small)
      ∙ ap (with_offset op indirect) there
      ∙ ap (λ n. Some n) comes;
  no_fault = λ known knows.
      ap (λ f. first_of (first_of f None) (out_of_reach at (value_of known at (term_parts is.t)))) (is.no_fault known knows at)
      ∙ ap (λ v. out_of_reach at (joined_values Add (Some 0) v)) (is.value known knows at)
      ∙ ap (λ n. out_of_reach at (Some n)) (small_mod a small)
      ∙ ap no_offset there;
}

operation_small : (word : ℕ) → nat_lt word 3072 ≡ true → word / 512 < 6
operation_small word e = let small = below word e in omega (arith, small)
  where
    below : (n : ℕ) → nat_lt n 3072 ≡ true → n < 3072
    below n e = grind (arith, nat_tests)

indirection_is : (n : ℕ) → (if nat_eq n 1 then codes "I" ∷ [] else []) ≡ indirection (nat_eq n 1)
indirection_is n = same (nat_eq n 1)
  where
    same : (b : Bool) → (if b then codes "I" ∷ [] else []) ≡ indirection b
    same true = refl
    same false = refl

bit_value : (n : ℕ) → n < 2 → (if nat_eq n 1 then 256 else 0) ≡ 256 * n
bit_value zero small = refl
bit_value (suc zero) small = refl
bit_value (suc (suc n)) small = absurd (omega (arith, small))

runs_are : (indirect : Bool) (shown : List ℕ) → is_run shown ≡ true → are_runs (indirection indirect ++ shown ∷ []) ≡ true
runs_are true shown run = rw run refl
runs_are false shown run = rw run refl

-- the cell that a reference names is a cell of core
pub referred_inside : (cell word : ℕ) → cell < 32768 → referred_cell cell word < 32768
referred_inside cell word small = inside (cell / 4096) (address_of_reference (cell % 4096) word) (omega (arith, small)) (address_small (cell % 4096) word (omega arith))
  where
    inside : (field at : ℕ) → field < 8 → at < 4096 → 4096 * field + at < 32768
    inside field at low small = omega (arith, low, small)

-- the address that is shown
address_shown : (look : Look) (tagged : ℕ → Bool) (cell word : ℕ) → IsNaming look.name → cell < 32768
    → IsAddress look tagged (referred_cell cell word) (address look.name tagged cell word) (address_of_reference (cell % 4096) word)
address_shown look tagged cell word naming small = either (tagged (referred_cell cell word)) refl
  where
    back : (field at : ℕ) → at < 4096 → (4096 * field + at) % 4096 ≡ at
    back field at small = omega (arith, small)

    either : (b : Bool) → tagged (referred_cell cell word) ≡ b
        → IsAddress look tagged (referred_cell cell word) (if b then look.name (referred_cell cell word) else octal4 (address_of_reference (cell % 4096) word)) (address_of_reference (cell % 4096) word)
    either true e =
        let low = address_small (cell % 4096) word (omega arith) in
        subst (IsAddress look tagged (referred_cell cell word) (look.name (referred_cell cell word))) (back (cell / 4096) (address_of_reference (cell % 4096) word) low)
        (tag_address look tagged (referred_cell cell word) naming (referred_inside cell word small) e)
    either false e = number_address look tagged (referred_cell cell word) (address_of_reference (cell % 4096) word) e (address_small (cell % 4096) word (omega arith))

pub shown_reference : (look : Look) (tagged : ℕ → Bool) (cell word : ℕ) → IsNaming look.name → cell < 32768 → look.is_code cell ≡ true → is_reference (cell % 4096) word ≡ true
    → IsShown look tagged cell word (reference look.name tagged cell word)
shown_reference look tagged cell word naming inside code shown =
    let at = cell % 4096 in
    let parts = both (nat_lt word 3072) (nat_eq (word / 128 % 2) 0 || nat_le 128 at) shown in
    let op = operation_at (word / 512) (operation_small word parts.0) in
    let indirect = nat_eq (word / 256 % 2) 1 in
    let a = address_of_reference at word in
    let named = address look.name tagged cell word in
    let is = address_shown look tagged cell word naming inside in
    let small = address_small at word (omega arith) in
    let there = offset_there at word (omega arith) shown in
    let bit = bit_value (word / 256 % 2) (omega arith) in
    let v = op.value in
    let o = there.value in
    record {
      first = name_of op.operation;
      others = indirection indirect ++ named ∷ [];
      some =
          ap (λ n. n ∷ (if indirect then codes "I" ∷ [] else []) ++ named ∷ []) op.name
          ∙ ap (λ l. name_of op.operation ∷ l ++ named ∷ []) (indirection_is (word / 256 % 2));
      runs = runs_named op.operation (indirection indirect ++ named ∷ []) (runs_are indirect named is.run);
      body = Reference op.operation indirect (Some (term_parts is.t));
      says = λ place. reference_says look tagged (referred_cell cell word) op.operation indirect named a place is;
      means = reference_word look tagged (referred_cell cell word) op.operation indirect named at a word there.offset is small there.is (whole (word_of op.operation) (if indirect then 256 else 0) there.offset word v bit o);
      names = record {
        reference = λ c r is_marked. record {
          operation = op.operation;
          is_operation = v;
          body_is = ap (λ t. Reference op.operation indirect (Some (term_parts t))) (is.is_name is_marked);
        };
        datum = λ d n is_marked. absurd (true≢false (sym code ∙ d));
      };
    }
  where
    whole : (op bit offset word : ℕ) → op ≡ 512 * (word / 512) → bit ≡ 256 * (word / 256 % 2) → offset ≡ word % 256 → op + bit + offset ≡ word
    whole op bit offset word e f g = omega (arith, e, f, g)
