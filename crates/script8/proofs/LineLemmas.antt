-- Lines without the CR at their end, and the parts of texts.
use Rattle.std.proofs.Common.{◌≡◌, ◌<◌, ◌≤◌, ◌-◌, ◌+◌, suc, arith, ℕ, refl, sym, ◌∙◌, ap, inl, inr, Bool, true, false, if◌then◌else◌, List, [], ◌∷◌, ◌++◌, ◌≢◌, length, take, drop, take_all, Option, Some, None, Result, Err}
use Rattle.std.specs.Prelude.{codes, cond, nat_lt, ◌&&◌, unwrap_or}
use Rattle.std.specs.List.{list_all, position, position_or_len}
use Rattle.std.proofs.lemmas.List.Recursion.{is_position_or_len}
use Rattle.std.specs.Str.{bytes_eq}
use Rattle.std.proofs.lemmas.Bool.Decides.{eqb_tells, leb_tells}
use Rattle.script8.specs.Lines.{command_of, onto_first, parts_of, words_of, form_of, whole, name_bytes, line_of_name, store_of, is_name, parts_of_list, lists_names, assemble_entry, assemble_of, bare_entry, entry_with_word, at_console, console_with_words, command_says, says}
use Rattle.script8.specs.CutSteps.{part_of, is_mark}
use Rattle.script8.specs.declared.entries.Entry.{Entry}
use Rattle.refusals.specs.declared.faults.SessionFault.{SessionFault}
use Rattle.refusals.specs.declared.faults.SessionFault.TheVariants.{BadLine}
use Rattle.script8.specs.declared.lines.Line.{Line}

-- the CR at the end of a line is dropped
pub without_return : (line prefix : List ℕ) → line ≡ prefix ++ 13 ∷ [] → prefix ≡ command_of line
without_return line prefix is = sym (ap command_of is ∙ dropped prefix)
  where
    dropped : (prefix : List ℕ) → command_of (prefix ++ 13 ∷ []) ≡ prefix
    dropped [] = refl
    dropped (b ∷ []) = refl
    dropped (b ∷ c ∷ bs) = ap (λ t. b ∷ t) (dropped (c ∷ bs))

-- a line that does not end in a CR is its own command
pub no_return : (line : List ℕ) → ((prefix : List ℕ) → line ≢ prefix ++ 13 ∷ []) → line ≡ command_of line
no_return [] other = refl
no_return (b ∷ []) other = elim (eqb_tells b 13) [ inl h ↦ absurd (other [] (ap (λ t. t ∷ []) h.1)) | inr h ↦ rw h.0 refl ]
no_return (b ∷ c ∷ bs) other = ap (λ t. b ∷ t) (no_return (c ∷ bs) (λ prefix is. other (b ∷ prefix) (ap (λ t. b ∷ t) is)))

-- what stands after the first part of a text
abbrev pub after_part : ℕ → List ℕ → List (List ℕ)
after_part mark [] = []
after_part mark (b ∷ bs) = parts_of mark bs

-- a text is its first part, and the parts after it
cut : (mark : ℕ) (text : List ℕ) → parts_of mark text ≡ take (length (part_of mark text)) text ∷ after_part mark (drop (length (part_of mark text)) text)
cut mark [] = refl
cut mark (b ∷ bs) = elim (eqb_tells b mark) [ inl is ↦ rw is.0 refl | inr other ↦ rw other.0 (ap (onto_first b) (cut mark bs)) ]

cut_at : (mark : ℕ) (text part rest : List ℕ) (size : ℕ) → size ≡ length (part_of mark text) → part ≡ take size text → rest ≡ drop size text → parts_of mark text ≡ part ∷ after_part mark rest
cut_at mark text part rest size is part_is rest_is =
    cut mark text
    ∙ ap (λ w. w ∷ after_part mark (drop (length (part_of mark text)) text)) (sym (part_is ∙ ap (λ n. take n text) is))
    ∙ ap (λ r. part ∷ after_part mark r) (sym (rest_is ∙ ap (λ n. drop n text) is))

-- the first part is as long as the place of the first mark says
pub before_mark : (mark : ℕ) (text : List ℕ) → unwrap_or (position (is_mark mark) text) (length text) ≡ length (part_of mark text)
before_mark mark text = place (position_or_len (is_mark mark) text) (length text) (omega (arith, part_is text, short text)) ∙ sym (part_is text)
  where
    one_more : (b : ℕ) (bs : List ℕ) → length (part_of mark (b ∷ bs)) ≡ cond (is_mark mark b) 0 (1 + length (part_of mark bs))
    one_more b bs = elim (eqb_tells b mark) [ inl h ↦ rw h.0 refl | inr h ↦ rw h.0 (omega arith) ]

    part_is : (text : List ℕ) → length (part_of mark text) ≡ position_or_len (is_mark mark) text
    part_is text = is_position_or_len (λ text. length (part_of mark text)) (is_mark mark) refl one_more text

    short : (text : List ℕ) → length (part_of mark text) ≤ length text
    short [] = omega arith
    short (b ∷ bs) = elim (eqb_tells b mark) [ inl h ↦ rw h.0 (omega arith) | inr h ↦ rw h.0 (omega (arith, short bs)) ]

    place : (n size : ℕ) → n ≤ size → unwrap_or (cond (nat_lt n size) (Some n) None) size ≡ n
    place n size within = elim (leb_tells (suc n) size) [ inl h ↦ rw h.0 refl | inr h ↦ rw h.0 (omega (arith, within, h.1)) ]

some_length : (n : ℕ) → suc n < 1 → ⊥
some_length n h = omega (arith, h)

none_length : 1 ≤ 0 → ⊥
none_length h = omega (arith, h)

-- the last part of a text
pub last_part : (mark : ℕ) (text part rest : List ℕ) (size : ℕ) → size ≡ length (part_of mark text) → part ≡ take size text → rest ≡ drop size text → length rest < 1 → parts_of mark text ≡ part ∷ []
last_part mark text part rest size is part_is rest_is none = cut_at mark text part rest size is part_is rest_is ∙ ap (λ w. part ∷ w) (nothing rest none)
  where
    nothing : (rest : List ℕ) → length rest < 1 → after_part mark rest ≡ []
    nothing [] none = refl
    nothing (b ∷ bs) none = absurd (some_length (length bs) none)

-- a part that a mark ends
pub ended_part : (mark : ℕ) (text part rest : List ℕ) (size : ℕ) → size ≡ length (part_of mark text) → part ≡ take size text → rest ≡ drop size text → 1 ≤ length rest
    → parts_of mark text ≡ part ∷ parts_of mark (take (length rest - 1) (drop 1 rest))
ended_part mark text part rest size is part_is rest_is some = cut_at mark text part rest size is part_is rest_is ∙ ap (λ w. part ∷ w) (all rest some)
  where
    all : (rest : List ℕ) → 1 ≤ length rest → after_part mark rest ≡ parts_of mark (take (length rest - 1) (drop 1 rest))
    all [] some = absurd (none_length some)
    all (b ∷ bs) some = ap (parts_of mark) (sym (take_all (length (b ∷ bs) - 1) bs (omega arith)))

-- a text has a part
some_part : (mark : ℕ) (text : List ℕ) → 1 ≤ length (parts_of mark text)
some_part mark [] = omega arith
some_part mark (b ∷ bs) = elim (eqb_tells b mark) [ inl h ↦ rw h.0 (omega arith) | inr h ↦ rw h.0 (begun b (parts_of mark bs)) ]
  where
    begun : (b : ℕ) (parts : List (List ℕ)) → 1 ≤ length (onto_first b parts)
    begun b [] = omega arith
    begun b (part ∷ parts) = omega arith

and_false : (b : Bool) → false ≡ (b && false)
and_false true = refl
and_false false = refl

too_many : (most size : ℕ) → most ≡ 0 → 1 ≤ size → size ≤ most → ⊥
too_many most size none some few = omega (arith, none, some, few)

-- a list of no name at most is none
pub no_names : (most : ℕ) (list : List ℕ) → most ≡ 0 → false ≡ lists_names most list
no_names most list none = elim (leb_tells (length (parts_of_list list)) most) [ inl h ↦ absurd (too_many most _ none (some_part 44 list) h.1) | inr h ↦ rw h.0 (and_false (list_all is_name (parts_of_list list))) ]

-- an `ASSEMBLE` with two `<` is none
pub many_targets : (word rest following to from : List ℕ) (is_one is_two : Bool) → parts_of 60 word ≡ to ∷ (if is_one then [] else parts_of 60 rest) → is_one ≡ false
    → parts_of 60 rest ≡ from ∷ (if is_two then [] else parts_of 60 following) → is_two ≡ false → Err BadLine ≡ whole (assemble_of word)
many_targets word rest following to from is_one is_two one some two more =
    sym (ap (λ parts. whole (assemble_entry parts)) (one ∙ ap (λ b. to ∷ (if b then [] else parts_of 60 rest)) some
    ∙ ap (λ w. to ∷ w) (two ∙ ap (λ b. from ∷ (if b then [] else parts_of 60 following)) more ∙ ap (λ w. from ∷ w) (cut 60 following))))

-- four words or more are none of the forms
pub many_words : (command second third fourth verb word other : List ℕ) (is_one is_two is_three : Bool) → words_of command ≡ verb ∷ (if is_one then [] else words_of second) → is_one ≡ false
    → words_of second ≡ word ∷ (if is_two then [] else words_of third) → is_two ≡ false → words_of third ≡ other ∷ (if is_three then [] else words_of fourth) → is_three ≡ false
    → Err BadLine ≡ form_of (words_of command)
many_words command second third fourth verb word other is_one is_two is_three one some two more three most =
    sym (ap form_of (one ∙ ap (λ b. verb ∷ (if b then [] else words_of second)) some
    ∙ ap (λ w. verb ∷ w) (two ∙ ap (λ b. word ∷ (if b then [] else words_of third)) more
    ∙ ap (λ w. word ∷ w) (three ∙ ap (λ b. other ∷ (if b then [] else words_of fourth)) most ∙ ap (λ w. other ∷ w) (cut 32 fourth)))))

-- what a line says is refused as a bad line alone
if_err : (b : Bool) (this other : Result Line SessionFault) (why : SessionFault) → (this ≡ Err why → why ≡ BadLine) → (other ≡ Err why → why ≡ BadLine) → (if b then this else other) ≡ Err why → why ≡ BadLine
if_err true this other why one two is = one is
if_err false this other why one two is = two is

whole_err : (said : Option Entry) (why : SessionFault) → whole said ≡ Err why → why ≡ BadLine
whole_err None why is = cc
whole_err (Some said) why is = cc

named_err : (entry : List ℕ → Entry) (word : List ℕ) (why : SessionFault) → line_of_name entry (name_bytes word) ≡ Err why → why ≡ BadLine
named_err entry [] why is = cc
named_err entry (b ∷ bs) why is = cc

store_err : (word : List ℕ) (lines : Option ℕ) (why : SessionFault) → store_of (name_bytes word) lines ≡ Err why → why ≡ BadLine
store_err [] None why is = cc
store_err [] (Some lines) why is = cc
store_err (b ∷ bs) None why is = cc
store_err (b ∷ bs) (Some lines) why is = cc

form_err : (words : List (List ℕ)) (why : SessionFault) → form_of words ≡ Err why → why ≡ BadLine
form_err [] why is = cc
form_err (verb ∷ []) why is = if_err (bytes_eq verb (codes "FINISH")) _ _ why (λ done. cc) (whole_err (bare_entry verb) why) is
form_err (verb ∷ word ∷ []) why is =
    if_err (bytes_eq verb (codes "DELETE")) _ _ why (named_err _ word why)
    (if_err (bytes_eq verb (codes "LOAD")) _ _ why (named_err _ word why)
    (if_err (bytes_eq verb (codes "ASSEMBLE")) _ _ why (whole_err (assemble_of word) why) (whole_err (entry_with_word verb word) why))) is
form_err (verb ∷ first ∷ second ∷ []) why is = if_err (bytes_eq verb (codes "STORE")) _ _ why (store_err first _ why) (whole_err (at_console (console_with_words verb first second)) why) is
form_err (verb ∷ first ∷ second ∷ third ∷ words) why is = cc

command_err : (command : List ℕ) (why : SessionFault) → command_says command ≡ Err why → why ≡ BadLine
command_err [] why is = cc
command_err (b ∷ bs) why is = form_err (words_of (b ∷ bs)) why is

pub says_err : (line : List ℕ) (why : SessionFault) → says line ≡ Err why → why ≡ BadLine
unfolding says
says_err line why is = command_err (command_of line) why is
