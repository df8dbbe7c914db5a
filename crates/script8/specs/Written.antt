-- An `ASSEMBLE` as it is written.
use Rattle.std.specs.Prelude.{◌≡◌, ◌≤◌, ℕ, codes, ◌==◌, true, false, List, [], ◌∷◌, ◌++◌, length, Ok}
use Rattle.script8.specs.Lines.{says, is_name}
use Rattle.script8.specs.declared.entries.Entry.TheVariants as entry
use Rattle.script8.specs.declared.entries.JobEntry.TheVariants as job
use Rattle.script8.specs.declared.lines.Line.TheVariants.{Whole}

-- no byte is a CR, a blank, a comma or a `<`
abbrev pub IsPlain : List ℕ → Type 0
IsPlain [] = Unit {0}
IsPlain (b ∷ bs) =
    ((b == 0o15) ≡ false) × ((b == 0o40) ≡ false) × ((b == 0o54) ≡ false) × ((b == 0o74) ≡ false) × IsPlain bs

-- names of such bytes, one or more in each
abbrev pub ArePlain : List (List ℕ) → Type 0
ArePlain [] = Unit {0}
ArePlain (name ∷ names) = (is_name name ≡ true) × IsPlain name × ArePlain names

-- a name and further ones, with commas between
abbrev pub with_commas : List ℕ → List (List ℕ) → List ℕ
with_commas name [] = name
with_commas name (other ∷ others) = name ++ 0o54 ∷ with_commas other others

-- A target and 1 to 8 sources are read as they are written.
abbrev pub AssembleAsWritten : Type 0
AssembleAsWritten =
    (to source : List ℕ) (others : List (List ℕ)) → ArePlain (to ∷ source ∷ others) → length others ≤ 7
    → says (codes "ASSEMBLE " ++ (to ++ 0o74 ∷ with_commas source others))
    ≡ Ok (Whole (entry.Jobs (job.Assemble to (source ∷ others))))
