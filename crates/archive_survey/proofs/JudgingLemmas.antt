-- Names that are known, and what is told of parts.
use Rattle.std.proofs.Common.{◌≡◌, ◌∙◌, ℕ, zero, suc, ◌+◌, ◌-◌, ◌<◌, ◌≤◌, min, length, get_or, take, drop, Bool, true, false, ◌||◌, cond, eqb, if◌then◌else◌, codes, Option, Some, None, List, [], ◌∷◌, ◌++◌, refl, sym, ap, arith, append_assoc}
use Rattle.std.proofs.lemmas.Slice.{first_rest}
use Rattle.std.specs.BTreeSet.{BTreeSet}
use Rattle.os8_dir.specs.Entries.{contains, is_zero}
use Rattle.os8_dir.specs.declared.faults.DirFault.{DirFault}
use Rattle.archive_survey.specs.declared.judging.Verdict.{Verdict}
use Rattle.archive_survey.specs.declared.judging.Verdict.TheVariants as verdict
use Rattle.archive_survey.specs.declared.parts.Part.{Part}
use Rattle.archive_survey.specs.declared.parts.Part.TheVariants.{Segment, Fault, File, Empty}
use Rattle.archive_survey.specs.Findings.{Finding, Clean, Unsound, why_unsound, with_verdict, finding_of, names_after, findings_of, file_of, files_found}
use Rattle.archive_survey.specs.Lines.{part_line, fault_line, finding_lines, loss_line, loss_lines, count_faults, has_block, claims}
use Rattle.archive_survey.specs.Steps.{KnowsNames, has_key, verdict_by, verdict_of, findings_by, count_after}

pub contains_more : (ns : List ℕ) (name q : ℕ) → contains (ns ++ name ∷ []) q ≡ (contains ns q || eqb name q)
contains_more [] name q = elim (eqb name q) as (λ b. cond b true false ≡ (false || b)) [ true ↦ refl | false ↦ refl ]
contains_more (n ∷ ns) name q = elim (eqb n q) as (λ b. cond b true (contains (ns ++ name ∷ []) q) ≡ (cond b true (contains ns q) || eqb name q)) [ true ↦ refl | false ↦ contains_more ns name q ]

-- the set with one more name
pub knows_more : (old new : BTreeSet ℕ) (known : List ℕ) (name : ℕ) → ((q : ℕ) → has_key new q ≡ (has_key old q || eqb name q)) → KnowsNames old known → KnowsNames new (known ++ name ∷ [])
knows_more old new known name more knows = record { known = λ q. more q ∙ ap (λ b. b || eqb name q) (knows.known q) ∙ sym (contains_more known name q) }

-- ## What is told

-- what is told by the verdict on a part is what is found of it
told_if : (zero : Bool) (why : Option DirFault) (part : Part) → findings_by (if zero then verdict.Nothing else verdict_by why) part ≡ (if zero then [] else with_verdict why part)
told_if true why part = refl
told_if false (Some fault) part = refl
told_if false None part = refl

pub told_is : (volume : ℕ) (names : List ℕ) (part : Part) → findings_by (verdict_of volume names part) part ≡ finding_of volume names part
told_is volume names (Segment number count) = refl
told_is volume names (Fault fault) = refl
told_is volume names (File name info place size) = told_if (is_zero size) (why_unsound volume place size (contains names name)) (File name info place size)
told_is volume names (Empty place size) = told_if (is_zero size) (why_unsound volume place size false) (Empty place size)

pub lines-append : (xs ys : List Finding) → finding_lines (xs ++ ys) ≡ finding_lines xs ++ finding_lines ys
lines-append [] ys = refl
lines-append (Clean part ∷ xs) ys = ap (λ l. part_line part ++ l) (lines-append xs ys) ∙ sym (append_assoc (part_line part) (finding_lines xs) (finding_lines ys))
lines-append (Unsound fault part ∷ xs) ys =
    ap (λ l. fault_line fault ++ codes "UNSOUND " ++ part_line part ++ l) (lines-append xs ys)
    ∙ sym (append_assoc (fault_line fault ++ codes "UNSOUND " ++ part_line part) (finding_lines xs) (finding_lines ys))

pub losses-append : (xs ys : List Finding) → loss_lines (xs ++ ys) ≡ loss_lines xs ++ loss_lines ys
losses-append [] ys = refl
losses-append (Clean part ∷ xs) ys = ap (λ l. loss_line part ++ l) (losses-append xs ys) ∙ sym (append_assoc (loss_line part) (loss_lines xs) (loss_lines ys))
losses-append (Unsound fault part ∷ xs) ys =
    ap (λ l. fault_line fault ++ codes "UNSOUND " ++ part_line part ++ l) (losses-append xs ys)
    ∙ sym (append_assoc (fault_line fault ++ codes "UNSOUND " ++ part_line part) (loss_lines xs) (loss_lines ys))

pub files-append : (xs ys : List Finding) → files_found (xs ++ ys) ≡ files_found xs ++ files_found ys
files-append [] ys = refl
files-append (Clean part ∷ xs) ys = ap (λ l. file_of part ++ l) (files-append xs ys) ∙ sym (append_assoc (file_of part) (files_found xs) (files_found ys))
files-append (Unsound fault part ∷ xs) ys = files-append xs ys

pub count-append : (xs ys : List Finding) → count_faults (xs ++ ys) ≡ count_faults xs + count_faults ys
count-append [] ys = omega arith
count-append (Clean part ∷ xs) ys = omega (arith, count-append xs ys)
count-append (Unsound fault part ∷ xs) ys = omega (arith, count-append xs ys)

claims-if : (has : Bool) (n m more : ℕ) → n ≡ m + more → (if has then suc n else n) ≡ (if has then suc m else m) + more
claims-if true n m more is = omega arith
claims-if false n m more is = is

pub claims-append : (xs ys : List Finding) (k : ℕ) → claims (xs ++ ys) k ≡ claims xs k + claims ys k
claims-append [] ys k = omega arith
claims-append (Clean part ∷ xs) ys k = claims-if (has_block part k) (claims (xs ++ ys) k) (claims xs k) (claims ys k) (claims-append xs ys k)
claims-append (Unsound fault part ∷ xs) ys k = claims-append xs ys k

if_one : (has : Bool) → (if has then 1 else 0) ≤ 1
if_one true = omega arith
if_one false = omega arith

-- a part claims a block once at most
claims_one : (v : Verdict) (part : Part) (k : ℕ) → claims (findings_by v part) k ≤ 1
claims_one verdict.Nothing part k = omega arith
claims_one verdict.Sound part k = if_one (has_block part k)
claims_one (verdict.Unsound fault) part k = omega arith

counted_min : (n count rest : ℕ) → n ≤ 1 → min 2 (count_after n count + rest) ≡ min 2 (count + (n + rest))
counted_min zero count rest one = omega arith
counted_min (suc zero) count rest one = omega arith
counted_min (suc (suc n)) count rest one = absurd (omega arith)

-- a list by its first item
pub first_item : (parts : List Part) (part : Part) → 0 < length parts → part ≡ get_or parts 0 part → parts ≡ part ∷ take (length parts - 1) (drop 1 parts)
first_item parts part some is = first_rest parts part some ∙ ap (λ p. p ∷ take (length parts - 1) (drop 1 parts)) (sym is)

-- one part more, by what is told of a list of findings
pub told_more : {A : Type 0} (tells : List Finding → List A) (joins : (xs ys : List Finding) → tells (xs ++ ys) ≡ tells xs ++ tells ys) (volume : ℕ) (known : List ℕ) (v : Verdict) (part : Part)
    (rest parts : List Part) (out new all : List A) → parts ≡ part ∷ rest → v ≡ verdict_of volume known part
    → new ≡ out ++ tells (findings_by v part) → out ++ tells (findings_of volume known parts) ≡ all
    → new ++ tells (findings_of volume (names_after volume known part) rest) ≡ all
told_more tells joins volume known v part rest parts out new all whole is put before =
    let told : findings_by v part ≡ finding_of volume known part = ap (λ w. findings_by w part) is ∙ told_is volume known part in
    rw (put, told)
    (append_assoc out (tells (finding_of volume known part)) (tells (findings_of volume (names_after volume known part) rest))
    ∙ ap (λ l. out ++ l) (sym (joins (finding_of volume known part) (findings_of volume (names_after volume known part) rest))) ∙ (rw whole at before))

pub faults_more : (volume : ℕ) (known : List ℕ) (v : Verdict) (part : Part) (rest parts : List Part) (faults told all : ℕ) → parts ≡ part ∷ rest → v ≡ verdict_of volume known part
    → told ≡ count_faults (findings_by v part) → faults + count_faults (findings_of volume known parts) ≡ all
    → faults + told + count_faults (findings_of volume (names_after volume known part) rest) ≡ all
faults_more volume known v part rest parts faults told all whole is put before =
    let same : findings_by v part ≡ finding_of volume known part = ap (λ w. findings_by w part) is ∙ told_is volume known part in
    let now : faults + count_faults (finding_of volume known part ++ findings_of volume (names_after volume known part) rest) ≡ all = rw whole at before in
    omega (arith, put, ap count_faults same, now, count-append (finding_of volume known part) (findings_of volume (names_after volume known part) rest))

pub claims_more : (volume : ℕ) (known : List ℕ) (v : Verdict) (part : Part) (rest parts : List Part) (k count new all : ℕ) → parts ≡ part ∷ rest → v ≡ verdict_of volume known part
    → new ≡ count_after (claims (findings_by v part) k) count → min 2 (count + claims (findings_of volume known parts) k) ≡ all
    → min 2 (new + claims (findings_of volume (names_after volume known part) rest) k) ≡ all
claims_more volume known v part rest parts k count new all whole is put before =
    let same : findings_by v part ≡ finding_of volume known part = ap (λ w. findings_by w part) is ∙ told_is volume known part in
    let following = findings_of volume (names_after volume known part) rest in
    ap (λ n. min 2 (n + claims following k)) put
    ∙ counted_min (claims (findings_by v part) k) count (claims following k) (claims_one v part k)
    ∙ ap (λ n. min 2 (count + n)) (ap (λ l. claims l k + claims following k) same ∙ sym (claims-append (finding_of volume known part) following k))
    ∙ (rw whole at before)
