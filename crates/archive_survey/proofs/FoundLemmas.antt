-- The files that a survey tells differ, and lie inside the volume.
use Rattle.std.proofs.Common.{◌≡◌, ◌∙◌, ℕ, zero, suc, ◌+◌, ◌<◌, ◌≤◌, Bool, true, false, true≢false, ◌||◌, cond, eqb, nat_lt, if◌then◌else◌, Some, None, List, [], ◌∷◌, ◌++◌, length, refl, sym, ap, arith, inl, inr}
use Rattle.std.proofs.lemmas.Bool.{lt-ltb, cases_lt, eq-eqb, eqb-true}
use Rattle.os8_dir.specs.Entries.{AreDistinct, contains}
use Rattle.os8_dir.specs.declared.names.Name.{Name}
use Rattle.word12.specs.declared.words.Word.{Word}
use Rattle.os8_dir.specs.declared.faults.DirFault.TheVariants.{PastVolume, SameName}
use Rattle.archive_survey.specs.declared.answers.FoundFile.{FoundFile}
use Rattle.archive_survey.specs.declared.parts.Part.{Part}
use Rattle.archive_survey.specs.declared.parts.Part.TheVariants.{Segment, Fault, File, Empty}
use Rattle.archive_survey.specs.Findings.{with_verdict, with_name, findings_of, parts, findings, files_found}
use Rattle.archive_survey.specs.Laws.{names_of_found, AreInside, FilesAreSound}
use Rattle.archive_survey.proofs.JudgingLemmas.{contains_more}

-- files after those with some names: they differ, have none of these names, and lie inside the volume
record AreNew (volume : ℕ) (names : List ℕ) (files : List FoundFile) : Type 0 where
  pub apart : (q : ℕ) → contains names q ≡ true → contains (names_of_found files) q ≡ false
  pub distinct : AreDistinct (names_of_found files)
  pub inside : AreInside volume files

last : (a b : Bool) → b ≡ true → (a || b) ≡ true
last true b is = refl
last false b is = is

first : (a b : Bool) → a ≡ true → (a || b) ≡ true
first true b is = refl
first false b is = absurd (true≢false (sym is))

known-following : (names : List ℕ) (name : ℕ) → contains (names ++ name ∷ []) name ≡ true
known-following names name = contains_more names name name ∙ last (contains names name) (eqb name name) (eq-eqb name name refl)

known-before : (names : List ℕ) (name q : ℕ) → contains names q ≡ true → contains (names ++ name ∷ []) q ≡ true
known-before names name q known = contains_more names name q ∙ first (contains names q) (eqb name q) known

-- a name that is known is none of a file's that isn't, and none of those after it
apart-more : (names others : List ℕ) (name q : ℕ) (same : Bool) → eqb name q ≡ same → contains names name ≡ false → contains names q ≡ true
    → contains others q ≡ false → cond same true (contains others q) ≡ false
apart-more names others name q true is unknown known none =
    absurd (true≢false (sym known ∙ ap (contains names) (sym (eqb-true name q is)) ∙ unknown))
apart-more names others name q false is unknown known none = none

-- one file more, whose name is known after it
new-more : (volume : ℕ) (names : List ℕ) (f : FoundFile) (fs : List FoundFile) → contains names f.name ≡ false → 0 < f.size → f.place + f.size ≤ volume
    → AreNew volume (names ++ f.name ∷ []) fs → AreNew volume names (f ∷ fs)
new-more volume names f fs unknown some within new = record {
  apart = λ q known. apart-more names (names_of_found fs) f.name q (eqb f.name q) refl unknown known (new.apart q (known-before names f.name q known));
  distinct = (new.apart f.name (known-following names f.name), new.distinct);
  inside = (some, within, new.inside);
}

not-past : (volume end : ℕ) → nat_lt volume end ≡ false → end ≤ volume
not-past volume end is = elim (cases_lt volume end) [ inl past ↦ absurd (true≢false (sym (lt-ltb volume end past) ∙ is)) | inr low ↦ low ]

-- what a file's entry adds, by whether it goes past the volume and whether its name is known
file-new : (volume : ℕ) (names : List ℕ) (name : Name) (info : List Word) (place size : ℕ) (rest : List Part) (past known : Bool) → nat_lt volume (place + size) ≡ past
    → contains names name ≡ known → 0 < size → ((ns : List ℕ) → AreNew volume ns (files_found (findings_of volume ns rest)))
    → AreNew volume names (files_found (with_verdict (if past then Some PastVolume else if known then Some SameName else None) (File name info place size)
    ++ findings_of volume (with_name (if past then Some PastVolume else if known then Some SameName else None) names name) rest))
file-new volume names name info place size rest true known is_past is_known some next = next names
file-new volume names name info place size rest false true is_past is_known some next = next names
file-new volume names name info place size rest false false is_past is_known some next =
    new-more volume names (record { name = name; info = info; place = place; size = size }) (files_found (findings_of volume (names ++ name ∷ []) rest)) is_known some
    (not-past volume (place + size) is_past) (next (names ++ name ∷ []))

-- an empty's entry adds no file
empty-new : (volume : ℕ) (names : List ℕ) (place size : ℕ) (rest : List Part) (past : Bool) → AreNew volume names (files_found (findings_of volume names rest))
    → AreNew volume names (files_found (with_verdict (if past then Some PastVolume else None) (Empty place size) ++ findings_of volume names rest))
empty-new volume names place size rest true next = next
empty-new volume names place size rest false next = next

all-new : (volume : ℕ) (names : List ℕ) (parts : List Part) → AreNew volume names (files_found (findings_of volume names parts))
all-new volume names [] = record { apart = λ q known. refl; distinct = tt; inside = tt }
all-new volume names (Segment number count ∷ rest) = all-new volume names rest
all-new volume names (Fault fault ∷ rest) = all-new volume names rest
all-new volume names (File name info place zero ∷ rest) = all-new volume names rest
all-new volume names (File name info place (suc size) ∷ rest) =
    file-new volume names name info place (suc size) rest (nat_lt volume (place + suc size)) (contains names name) refl refl (omega arith) (λ ns. all-new volume ns rest)
all-new volume names (Empty place zero ∷ rest) = all-new volume names rest
all-new volume names (Empty place (suc size) ∷ rest) = empty-new volume names place (suc size) rest (nat_lt volume (place + suc size)) (all-new volume names rest)

pub files-are-sound : (blocks : List (List ℕ)) → FilesAreSound blocks (files_found (findings blocks))
unfolding findings
files-are-sound blocks = let new = all-new (length blocks) [] (parts blocks) in record { distinct = new.distinct; inside = new.inside }
