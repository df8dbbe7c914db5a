-- What is told of a whole directory, beside what it is read as.
use Rattle.std.proofs.Common.{◌≡◌, ◌∙◌, ℕ, zero, suc, ◌+◌, ◌<◌, ◌≤◌, Bool, true, false, not, ◌&&◌, true≢false, eqb, nat_lt, nat_le, if◌then◌else◌, Some, None, Result, Ok, Err, is_ok, List, [], ◌∷◌, ◌++◌, length, take, drop, refl, sym, ap, subst, arith, append_assoc, append-nil, inl, inr}
use Rattle.std.proofs.lemmas.Bool.{lt-ltb, le-ltb, le-leb, lt-leb, eqb-true, eq-eqb, cases_lt}
use Rattle.os8_dir.specs.declared.entries.DirEntry.{DirEntry}
use Rattle.os8_dir.specs.declared.entries.DirEntry.TheVariants as entry
use Rattle.os8_dir.specs.declared.faults.DirFault.{DirFault}
use Rattle.os8_dir.specs.declared.faults.DirFault.TheVariants.{BadLink, BadCount, EntryPastSegment, PastVolume, SameName, WrongFirstBlock, MixedInfo}
use Rattle.os8_dir.specs.declared.names.Name.{Name}
use Rattle.word12.specs.declared.words.Word.{Word}
use Rattle.os8_dir.specs.Names.{name_of, with_end_zeros}
use Rattle.os8_dir.specs.Entries.{DirectoryState, minus, contains, size_of, total, end_of, names_of, before, tidy}
use Rattle.os8_dir.specs.Found.{FilePlace, files_at}
use Rattle.os8_dir.specs.Reading.{◌>>=◌, needs, word, block, empty_at, file_at, entry_at, is_new, with_entry, with_entries, with_segment, is_unread, with_links, is_first, head_of, directory_of, Sound}
use Rattle.archive_survey.specs.declared.parts.Part.{Part}
use Rattle.archive_survey.specs.declared.parts.Part.TheVariants.{Segment, Fault, File, Empty}
use Rattle.archive_survey.specs.Findings.{Finding, Clean, Unsound, part_of, part_at, blocks_of, blocks_in, with_those, entries_at, info_of, count_of, first_of, segment_entries, segment_end, unless, later_faults, later_segment, later_segments, parts, finding_of, names_after, findings_of, findings, files_found}
use Rattle.archive_survey.specs.Lines.{claims, is_twice, count_faults, count_runs, survey_faults}
use Rattle.archive_survey.specs.declared.answers.FoundFile.{FoundFile}
use Rattle.archive_survey.specs.Laws.{first_fault, fault_of, placed_files}
use Rattle.archive_survey.proofs.JudgingLemmas.{claims-append}
use Rattle.archive_survey.proofs.SoundLemmas.{within, Follows, follow_on, segment_before, body_follows, links_follow}

-- ## The whole

-- what the first segment says of the whole directory
abbrev begun : List ℕ → DirectoryState
begun words = record { first = first_of words; info = info_of words; entries = [] }

head_by : (volume number : ℕ) (words : List ℕ) (few starts : Bool) (rest : List Part) (next : DirectoryState → Result DirectoryState DirFault)
    → (few ≡ true → starts ≡ true → Follows volume (begun words) rest (next (begun words)))
    → Follows volume (begun words) ((Segment number (count_of words) ∷ (unless few (BadCount 1) ++ unless starts WrongFirstBlock)) ++ rest)
    ((needs few (BadCount 1) >>= (λ u. needs starts WrongFirstBlock >>= (λ v. Ok (begun words)))) >>= next)
head_by volume number words true true rest next f = segment_before volume (begun words) number (count_of words) rest (next (begun words)) (f refl refl)
head_by volume number words true false rest next f = λ more. refl
head_by volume number words false true rest next f = λ more. refl
head_by volume number words false false rest next f = λ more. refl

-- the first segment is read after its own head
first_follows : (volume number : ℕ) (words : List ℕ) → first_of words ≤ volume → not (nat_lt 10 (info_of words)) ≡ true
    → Follows volume (begun words) (segment_entries words) (with_segment volume (begun words) number words)
unfolding with_segment
first_follows volume number words low few =
    rw (few, eq-eqb (info_of words) (info_of words) refl, eq-eqb (first_of words) (first_of words + 0) (omega arith))
    (body_follows volume (begun words) words (omega arith) few refl (omega arith))

is_first_low : (volume first : ℕ) → is_first volume first ≡ true → first ≤ volume
is_first_low volume first is = elim (cases_lt volume first) [
  | inl high ↦ absurd (true≢false (sym (rw (lt-ltb volume first high) at is) ∙ none (not (nat_lt first 7))))
  | inr low ↦ low
]
  where
    none : (b : Bool) → (b && false) ≡ false
    none true = refl
    none false = refl

pub whole_follows : (blocks : List (List ℕ)) → Follows (length blocks) (begun (block blocks 1)) (parts blocks) (directory_of blocks)
unfolding parts directory_of head_of
whole_follows blocks =
    let words = block blocks 1 in
    let volume = length blocks in
    let later = later_segments 5 blocks (info_of words) (1 ∷ []) 1 (segment_end words) (word words 2) in
    let next = λ (one : DirectoryState). with_links 5 one blocks (1 ∷ []) 1 (word words 2) in
    let few = not (nat_lt 10 (info_of words)) in
    let starts = is_first volume (first_of words) in
    subst (λ (l : List Part). Follows volume (begun words) l (directory_of blocks))
    (sym (append_assoc (Segment 1 (count_of words) ∷ (unless few (BadCount 1) ++ unless starts WrongFirstBlock)) (segment_entries words) later))
    (head_by volume 1 words few starts (segment_entries words ++ later) (λ head. with_segment volume head 1 words >>= next)
    (λ is_few is_begun. follow_on volume (begun words) (segment_entries words) later (with_segment volume (begun words) 1 words) next
    (first_follows volume 1 words (is_first_low volume (first_of words) is_begun) is_few)
    (λ one is g.
    let end : end_of one ≡ segment_end words = omega (arith, g.end_is) in
    subst (λ (i : ℕ). Follows volume one (later_segments 5 blocks i (1 ∷ []) 1 (segment_end words) (word words 2)) (next one)) g.info
    (subst (λ (e : ℕ). Follows volume one (later_segments 5 blocks one.info (1 ∷ []) 1 e (word words 2)) (next one)) end
    (links_follow 5 blocks one (1 ∷ []) 1 (word words 2) g.inside)))))

-- the first fault that is told is that of the reading
fault_told : (volume : ℕ) (d : DirectoryState) (xs : List Part) (r : Result DirectoryState DirFault) → Follows volume d xs r → first_fault (findings_of volume (names_of d.entries) xs) ≡ fault_of r
fault_told volume d xs (Ok more) g = subst (λ (l : List Part). first_fault (findings_of volume (names_of d.entries) l) ≡ None) (append-nil xs) (g.first [])
fault_told volume d xs (Err fault) f = subst (λ (l : List Part). first_fault (findings_of volume (names_of d.entries) l) ≡ Some fault) (append-nil xs) (f [])

pub first_told : (blocks : List (List ℕ)) → first_fault (findings blocks) ≡ fault_of (directory_of blocks)
unfolding findings
first_told blocks = fault_told (length blocks) (begun (block blocks 1)) (parts blocks) (directory_of blocks) (whole_follows blocks)

-- ## No fault

counted_none : (found : List Finding) → first_fault found ≡ None → count_faults found ≡ 0
counted_none [] is = refl
counted_none (Clean (Segment number count) ∷ rest) is = omega (arith, counted_none rest is)
counted_none (Clean (Fault fault) ∷ rest) is = absurd (cc)
counted_none (Clean (File name info place size) ∷ rest) is = omega (arith, counted_none rest is)
counted_none (Clean (Empty place size) ∷ rest) is = omega (arith, counted_none rest is)
counted_none (Unsound fault part ∷ rest) is = absurd (cc)

none_counted : (found : List Finding) → count_faults found ≡ 0 → first_fault found ≡ None
none_counted [] is = refl
none_counted (Clean (Segment number count) ∷ rest) is = none_counted rest (omega (arith, is))
none_counted (Clean (Fault fault) ∷ rest) is = absurd (omega (arith, is))
none_counted (Clean (File name info place size) ∷ rest) is = none_counted rest (omega (arith, is))
none_counted (Clean (Empty place size) ∷ rest) is = none_counted rest (omega (arith, is))
none_counted (Unsound fault part ∷ rest) is = absurd (omega (arith, is))

sound_of : (r : Result DirectoryState DirFault) → fault_of r ≡ None → is_ok r ≡ true
sound_of (Ok d) is = refl
sound_of (Err fault) is = absurd (cc)

none_of : (r : Result DirectoryState DirFault) → is_ok r ≡ true → fault_of r ≡ None
none_of (Ok d) is = refl
none_of (Err fault) is = absurd (true≢false (sym is))

-- no run where no block passes
no_runs : (test : ℕ → Bool) (part_at : Bool) (left from : ℕ) → ((k : ℕ) → test k ≡ false) → count_runs test part_at left from ≡ 0
no_runs test seen zero from none = refl
no_runs test seen (suc left) from none = rw (none from) (omega (arith, no_runs test false left (suc from) none))

within_one : (from end k : ℕ) → within from end k ≤ 1
within_one from end k = elim (nat_le from k && nat_lt k end) as (λ b. (if b then 1 else 0) ≤ 1) [ true ↦ omega arith | false ↦ omega arith ]

-- of a sound directory no block is claimed twice
once : (volume : ℕ) (d : DirectoryState) (xs : List Part) (r : Result DirectoryState DirFault) → Follows volume d xs r → is_ok r ≡ true → (k : ℕ) → is_twice (findings_of volume (names_of d.entries) xs) k ≡ false
once volume d xs (Ok more) g is k =
    let one : claims (findings_of volume (names_of d.entries) xs) k ≡ within (end_of d) (end_of more) k + 0 =
    subst (λ (l : List Part). claims (findings_of volume (names_of d.entries) l) k ≡ within (end_of d) (end_of more) k + 0) (append-nil xs) (g.claimed [] k) in
    le-ltb 1 (claims (findings_of volume (names_of d.entries) xs) k) (omega (arith, one, within_one (end_of d) (end_of more) k))
once volume d xs (Err fault) f is k = absurd (true≢false (sym is))

pub sound_unfaulted : (blocks : List (List ℕ)) → Sound blocks → survey_faults blocks ≡ 0
unfolding survey_faults findings
sound_unfaulted blocks is =
    let found = findings_of (length blocks) [] (parts blocks) in
    let none = counted_none found (fault_told (length blocks) (begun (block blocks 1)) (parts blocks) (directory_of blocks) (whole_follows blocks) ∙ none_of (directory_of blocks) is) in
    let runs = no_runs (is_twice found) false (length blocks) 0 (λ k. once (length blocks) (begun (block blocks 1)) (parts blocks) (directory_of blocks) (whole_follows blocks) is k) in
    omega (arith, none, runs)

pub unfaulted_sound : (blocks : List (List ℕ)) → survey_faults blocks ≡ 0 → Sound blocks
unfolding survey_faults
unfaulted_sound blocks is =
    sound_of (directory_of blocks) (sym (first_told blocks) ∙ none_counted (findings blocks) (omega (arith, is)))

-- ## Files

files_told : (volume : ℕ) (words : List ℕ) (xs : List Part) (r : Result DirectoryState DirFault) (d : DirectoryState) → Follows volume (begun words) xs r → r ≡ Ok d
    → files_found (findings_of volume [] xs) ≡ placed_files (files_at d.first d.entries)
files_told volume words xs (Ok more) d g is =
    let same : more ≡ d = cc in
    let all : placed_files (files_at more.first more.entries) ++ [] ≡ files_found (findings_of volume [] xs) =
    subst (λ (l : List Part). placed_files (files_at more.first more.entries) ++ [] ≡ files_found (findings_of volume [] l)) (append-nil xs) (g.files []) in
    sym all ∙ append-nil (placed_files (files_at more.first more.entries)) ∙ ap (λ (e : DirectoryState). placed_files (files_at e.first e.entries)) same
files_told volume words xs (Err fault) d f is = absurd (cc)

pub sound_files : (blocks : List (List ℕ)) (d : DirectoryState) → directory_of blocks ≡ Ok d → files_found (findings blocks) ≡ placed_files (files_at d.first d.entries)
unfolding findings
sound_files blocks d is = files_told (length blocks) (block blocks 1) (parts blocks) (directory_of blocks) d (whole_follows blocks) is
