-- The marks of words, and the last values of names.
use Rattle.std.proofs.Common.{◌≡◌, ℕ, ◌≤◌, Bool, true, false, if◌then◌else◌, nat_eq, Option, Some, None, length, take, drop, get_or, List, ◌++◌, refl, sym, ap, ◌∙◌, append_assoc, arith}
use Rattle.std.proofs.lemmas.Bool.Decides.{nat_tests}
use Rattle.std.proofs.lemmas.Grind.{common_steps}
use Rattle.std.proofs.Math.Path.{fun_ext}
use Rattle.std.specs.Ordering.{nat_cmp, is_eq}
use Rattle.pal_sym.specs.Values.{if_none}
use Rattle.pal8_grammar.specs.declared.steps.Step.{Step}
use Rattle.pal8_asm.specs.Kept.{cut, entry_of}
use Rattle.pal8_values.specs.Sums.{Meanings}
use Rattle.pal8_asm.specs.Marks.{last_values, mark_in, marks_of}
use Rattle.pal8_asm.specs.Sources.{Entry}
use Rattle.pal8_asm.specs.Tapes.{late_values}
use Rattle.pal8_asm.specs.declared.entries.Head.{Head}
use Rattle.pal8_asm.specs.declared.marks.Mark.{Mark}
use Rattle.pal8_asm.proofs.MakingLemmas.{first_one, following}

-- a mark was put, and the others come after it
pub marks_go_on : (heads : List Head) (h : Head) (steps its rest : List Step) (old new : List Mark) → 1 ≤ length heads → h ≡ get_or heads 0 h → its ≡ take h.count steps
    → rest ≡ drop h.count steps → new ≡ old ++ mark_in (entry_of h its) → new ++ marks_of (cut (following heads) rest) ≡ old ++ marks_of (cut heads steps)
marks_go_on heads h steps its rest old new long first front back puts =
    ap (λ l. l ++ marks_of (cut (following heads) rest)) puts ∙ append_assoc old (mark_in (entry_of h its)) (marks_of (cut (following heads) rest))
    ∙ ap (λ l. old ++ (mark_in (entry_of h l) ++ marks_of (cut (following heads) rest))) front
    ∙ ap (λ l. old ++ (mark_in (entry_of h (take h.count steps)) ++ marks_of (cut (following heads) l))) back
    ∙ ap (λ l. old ++ marks_of (cut l steps)) (sym (first_one heads h long first))

-- ## Names

pub none_left : (v : Option ℕ) → if_none v None ≡ v
none_left None = refl
none_left (Some v) = refl

-- what a name has first stays
pub first_stays : (a b c : Option ℕ) → if_none (if_none a b) c ≡ if_none a (if_none b c)
first_stays None b c = refl
first_stays (Some v) b c = refl

same_at : (q k : ℕ) → is_eq (nat_cmp q k) ≡ nat_eq k q
same_at q k = grind (arith, common_steps, nat_tests)

by_test : (t : Bool) (a : Option ℕ) (v : ℕ) (others : Option ℕ) → if_none (if_none a (if t then Some v else None)) others ≡ if_none a (if t then Some v else others)
by_test true a v others = first_stays a (Some v) others
by_test false a v others = first_stays a None others

-- a name of the table was put, unless it had a value, and the others come after it
pub own_goes_on : (n k v : ℕ) (a b others : Option ℕ) → b ≡ if_none a (if nat_eq k n then Some v else None)
    → if_none b others ≡ if_none a (if is_eq (nat_cmp n k) then Some v else others)
own_goes_on n k v a b others puts =
    ap (λ o. if_none o others) puts ∙ by_test (nat_eq k n) a v others ∙ ap (λ (t : Bool). if_none a (if t then Some v else others)) (sym (same_at n k))

-- names stand at last for what the late definitions that were found give, or else for the table's
pub last_after : (own : Meanings) (is_late : ℕ → Bool) (first found : Meanings) (entries found_in : List Entry) (values : Meanings) → ((n : ℕ) → first n ≡ None)
    → found ≡ late_values own is_late found_in first → found_in ≡ entries → ((n : ℕ) → values n ≡ if_none (found n) (own n)) → (n : ℕ) → values n ≡ last_values own is_late entries n
last_after own is_late first found entries found_in values none is found_is gives n =
    gives n
    ∙ ap (λ (f : Meanings). if_none (f n) (own n))
    (is ∙ ap (late_values own is_late found_in) (fun_ext none) ∙ ap (λ l. late_values own is_late l (λ n. None)) found_is)
