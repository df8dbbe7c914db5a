-- Targets and sources are read as they are written.
use Rattle.std.proofs.Common.{◌≡◌, ◌≤◌, ℕ, arith, refl, ap, ◌∙◌, inl, inr, true, false, if◌then◌else◌, Some, None, List, [], ◌∷◌, ◌++◌, length}
use Rattle.std.specs.Prelude.{codes, ◌==◌, ◌&&◌, nat_le}
use Rattle.std.specs.List.{list_all}
use Rattle.std.proofs.lemmas.Bool.Decides.{eqb_tells, leb_tells}
use Rattle.script8.specs.Lines.{says, command_says, command_of, form_of, parts_of, onto_first, whole, is_name, parts_of_list, lists_names, assemble_entry, target_and_sources}
use Rattle.script8.specs.Written.{IsPlain, ArePlain, with_commas, AssembleAsWritten}
use Rattle.script8.specs.declared.entries.Entry.TheVariants as entry
use Rattle.script8.specs.declared.entries.JobEntry.TheVariants as job

-- no byte is a mark
abbrev HasNo : ℕ → List ℕ → Type 0
HasNo mark [] = Unit {0}
HasNo mark (b ∷ bs) = ((b == mark) ≡ false) × HasNo mark bs

is_itself : (b : ℕ) → (b == b) ≡ true
is_itself b = elim (eqb_tells b b) [ inl h ↦ h.0 | inr h ↦ absurd (h.1 refl) ]

parts_before : (mark : ℕ) (part rest : List ℕ) → HasNo mark part → parts_of mark (part ++ mark ∷ rest) ≡ part ∷ parts_of mark rest
parts_before mark [] rest free = ap (λ b. if b then [] ∷ parts_of mark rest else onto_first mark (parts_of mark rest)) (is_itself mark)
parts_before mark (b ∷ bs) rest (one, free) = rw one (ap (onto_first b) (parts_before mark bs rest free))

parts_alone : (mark : ℕ) (part : List ℕ) → HasNo mark part → parts_of mark part ≡ part ∷ []
parts_alone mark [] free = refl
parts_alone mark (b ∷ bs) (one, free) = rw one (ap (onto_first b) (parts_alone mark bs free))

no_after : (mark : ℕ) (prefix rest : List ℕ) → HasNo mark prefix → HasNo mark rest → HasNo mark (prefix ++ rest)
no_after mark [] rest prefix_free free = free
no_after mark (b ∷ bs) rest (one, prefix_free) free = (one, no_after mark bs rest prefix_free free)

-- plain names have none of the marks
no_return : (name : List ℕ) → IsPlain name → HasNo 13 name
no_return [] plain = tt
no_return (b ∷ bs) (one, two, three, four, plain) = (one, no_return bs plain)

no_blank : (name : List ℕ) → IsPlain name → HasNo 32 name
no_blank [] plain = tt
no_blank (b ∷ bs) (one, two, three, four, plain) = (two, no_blank bs plain)

no_comma : (name : List ℕ) → IsPlain name → HasNo 44 name
no_comma [] plain = tt
no_comma (b ∷ bs) (one, two, three, four, plain) = (three, no_comma bs plain)

no_target : (name : List ℕ) → IsPlain name → HasNo 60 name
no_target [] plain = tt
no_target (b ∷ bs) (one, two, three, four, plain) = (four, no_target bs plain)

-- nor have they, with commas between
none_joined : (mark : ℕ) → (44 == mark) ≡ false → ((name : List ℕ) → IsPlain name → HasNo mark name) → (name : List ℕ) (others : List (List ℕ)) → ArePlain (name ∷ others) → HasNo mark (with_commas name others)
none_joined mark comma none name [] (some, plain, rest) = none name plain
none_joined mark comma none name (other ∷ others) (some, plain, rest) = no_after mark name _ (none name plain) (comma, none_joined mark comma none other others rest)

listed_joined : (name : List ℕ) (others : List (List ℕ)) → ArePlain (name ∷ others) → parts_of_list (with_commas name others) ≡ name ∷ others
listed_joined name [] (some, plain, rest) = parts_alone 44 name (no_comma name plain)
listed_joined name (other ∷ others) (some, plain, rest) = parts_before 44 name _ (no_comma name plain) ∙ ap (λ names. name ∷ names) (listed_joined other others rest)

all_names : (names : List (List ℕ)) → ArePlain names → list_all is_name names ≡ true
all_names [] plain = refl
all_names (name ∷ names) (some, plain, rest) = rw some (all_names names rest)

few_names : (size most : ℕ) → size ≤ most → nat_le size most ≡ true
few_names size most few = elim (leb_tells size most) [ inl h ↦ h.0 | inr h ↦ absurd (omega (arith, few, h.1)) ]

names_listed : (most : ℕ) (name : List ℕ) (others : List (List ℕ)) → ArePlain (name ∷ others) → length (name ∷ others) ≤ most → lists_names most (with_commas name others) ≡ true
names_listed most name others plain few =
    ap (λ names. list_all is_name names && nat_le (length names) most) (listed_joined name others plain)
    ∙ ap (λ b. b && nat_le (length (name ∷ others)) most) (all_names (name ∷ others) plain) ∙ few_names _ most few

command_same : (line : List ℕ) → HasNo 13 line → command_of line ≡ line
command_same [] free = refl
command_same (b ∷ []) (one, free) = rw one refl
command_same (b ∷ c ∷ bs) (one, free) = ap (λ t. b ∷ t) (command_same (c ∷ bs) free)

chosen : (to source : List ℕ) (others : List (List ℕ)) → ArePlain (to ∷ source ∷ others) → length others ≤ 7 → target_and_sources to (with_commas source others) ≡ Some (entry.Jobs (job.Assemble to (source ∷ others)))
chosen to source others (some, plain, rest) few =
    ap (λ b. if b && lists_names 8 (with_commas source others) then Some (entry.Jobs (job.Assemble to (parts_of_list (with_commas source others)))) else None) (names_listed 1 to [] (some, plain, tt) (omega arith))
    ∙ ap (λ b. if b then Some (entry.Jobs (job.Assemble to (parts_of_list (with_commas source others)))) else None) (names_listed 8 source others rest (omega (arith, few)))
    ∙ ap (λ names. Some (entry.Jobs (job.Assemble to names))) (listed_joined source others rest)

pub assemble_as_written : AssembleAsWritten
unfolding says
assemble_as_written to source others (some, plain, rest) few =
    let word = to ++ 60 ∷ with_commas source others in
    let returns = no_after 13 to _ (no_return to plain) (refl, none_joined 13 refl no_return source others rest) in
    let blanks = no_after 32 to _ (no_blank to plain) (refl, none_joined 32 refl no_blank source others rest) in
    ap command_says (command_same (codes "ASSEMBLE " ++ word) (refl, (refl, (refl, (refl, (refl, (refl, (refl, (refl, (refl, returns))))))))))
    ∙ ap (λ words. form_of (codes "ASSEMBLE" ∷ words)) (parts_alone 32 word blanks)
    ∙ ap (λ parts. whole (assemble_entry parts)) (parts_before 60 to _ (no_target to plain) ∙ ap (λ parts. to ∷ parts) (parts_alone 60 (with_commas source others) (none_joined 60 refl no_target source others rest)))
    ∙ ap whole (chosen to source others (some, plain, rest) few)
