-- What is told of parts beside what the directory is read as, up to its first fault.
use Rattle.std.proofs.Common.{◌≡◌, ◌∙◌, ℕ, zero, suc, ◌+◌, ◌<◌, ◌≤◌, Bool, true, false, not, ◌&&◌, true≢false, eqb, nat_lt, nat_le, if◌then◌else◌, Some, None, Result, Ok, Err, is_ok, List, [], ◌∷◌, ◌++◌, length, take, drop, refl, sym, ap, subst, arith, append_assoc, append-nil, inl, inr}
use Rattle.std.proofs.lemmas.Bool.{lt-ltb, le-ltb, le-leb, lt-leb, eqb-true, eq-eqb, cases_lt}
use Rattle.os8_dir.specs.declared.entries.DirEntry.{DirEntry}
use Rattle.os8_dir.specs.declared.entries.DirEntry.TheVariants as entry
use Rattle.os8_dir.specs.declared.faults.DirFault.{DirFault}
use Rattle.os8_dir.specs.declared.faults.DirFault.TheVariants.{BadLink, BadCount, EntryPastSegment, WrongFirstBlock, MixedInfo}
use Rattle.os8_dir.specs.declared.names.Name.{Name}
use Rattle.word12.specs.declared.words.Word.{Word}
use Rattle.os8_dir.specs.Names.{name_of, with_end_zeros}
use Rattle.os8_dir.specs.Entries.{DirectoryState, minus, contains, size_of, total, end_of, names_of, before, tidy}
use Rattle.os8_dir.specs.Found.{FilePlace, files_at}
use Rattle.os8_dir.specs.Reading.{◌>>=◌, needs, word, block, empty_at, file_at, entry_at, is_new, with_entry, with_entries, with_segment, is_unread, with_links, is_first, head_of, directory_of, Sound}
use Rattle.os8_dir.proofs.ReadingLemmas.{with_entry-past, with_entry-same}
use Rattle.os8_dir.proofs.TidyLemmas.{total-tidy}
use Rattle.os8_dir.proofs.LawLemmas.{names_of-tidy}
use Rattle.archive_survey.specs.declared.parts.Part.{Part}
use Rattle.archive_survey.specs.declared.parts.Part.TheVariants.{Segment, Fault, File, Empty}
use Rattle.archive_survey.specs.Findings.{Finding, Clean, Unsound, part_of, part_at, blocks_of, blocks_in, with_those, entries_at, info_of, count_of, first_of, segment_entries, segment_end, unless, later_faults, later_segment, later_segments, parts, finding_of, names_after, findings_of, findings, files_found}
use Rattle.archive_survey.specs.Lines.{claims, is_twice, count_faults, count_runs, survey_faults}
use Rattle.archive_survey.specs.declared.answers.FoundFile.{FoundFile}
use Rattle.archive_survey.specs.Laws.{first_fault, fault_of, placed_files}
use Rattle.archive_survey.proofs.JudgingLemmas.{claims-append}

-- ## Lists of entries

total-before : (e : DirEntry) (es : List DirEntry) → total (before e es) ≡ size_of e + total es
total-before (entry.File name info zero) es = omega arith
total-before (entry.File name info (suc size)) es = refl
total-before (entry.Empty zero) [] = omega arith
total-before (entry.Empty (suc size)) [] = refl
total-before (entry.Empty size) (entry.Empty more ∷ es) = omega arith
total-before (entry.Empty zero) (entry.File name info more ∷ es) = omega arith
total-before (entry.Empty (suc size)) (entry.File name info more ∷ es) = refl

total-more : (es : List DirEntry) (e : DirEntry) → total (es ++ e ∷ []) ≡ total es + size_of e
total-more [] e = omega arith
total-more (x ∷ es) e = omega (arith, total-more es e)

names_of-append : (xs ys : List DirEntry) → names_of (xs ++ ys) ≡ names_of xs ++ names_of ys
names_of-append [] ys = refl
names_of-append (entry.File name info zero ∷ xs) ys = names_of-append xs ys
names_of-append (entry.File name info (suc size) ∷ xs) ys = ap (λ ns. name ∷ ns) (names_of-append xs ys)
names_of-append (entry.Empty size ∷ xs) ys = names_of-append xs ys

names_of-before : (e : DirEntry) (es : List DirEntry) → names_of (before e es) ≡ names_of (e ∷ es)
names_of-before (entry.File name info zero) es = refl
names_of-before (entry.File name info (suc size)) es = refl
names_of-before (entry.Empty zero) [] = refl
names_of-before (entry.Empty (suc size)) [] = refl
names_of-before (entry.Empty size) (entry.Empty more ∷ es) = refl
names_of-before (entry.Empty zero) (entry.File name info more ∷ es) = refl
names_of-before (entry.Empty (suc size)) (entry.File name info more ∷ es) = refl

names_of-more : (e : DirEntry) (xs ys : List DirEntry) → names_of xs ≡ names_of ys → names_of (e ∷ xs) ≡ names_of (e ∷ ys)
names_of-more (entry.File name info zero) xs ys same = same
names_of-more (entry.File name info (suc size)) xs ys same = ap (λ ns. name ∷ ns) same
names_of-more (entry.Empty size) xs ys same = same

names-more : (es : List DirEntry) (e : DirEntry) → names_of (tidy (es ++ e ∷ [])) ≡ names_of es ++ names_of (e ∷ [])
names-more es e = names_of-tidy (es ++ e ∷ []) ∙ names_of-append es (e ∷ [])

files_at-before : (p : ℕ) (e : DirEntry) (es : List DirEntry) → files_at p (before e es) ≡ files_at p (e ∷ es)
files_at-before p (entry.File name info zero) es = refl
files_at-before p (entry.File name info (suc size)) es = refl
files_at-before p (entry.Empty zero) [] = refl
files_at-before p (entry.Empty (suc size)) [] = refl
files_at-before p (entry.Empty size) (entry.Empty more ∷ es) = ap (λ n. files_at n es) (omega arith)
files_at-before p (entry.Empty zero) (entry.File name info more ∷ es) = ap (λ n. files_at n (entry.File name info more ∷ es)) (omega arith)
files_at-before p (entry.Empty (suc size)) (entry.File name info more ∷ es) = refl

files_at-more : (p : ℕ) (e : DirEntry) (xs ys : List DirEntry) → ((n : ℕ) → files_at n xs ≡ files_at n ys) → files_at p (e ∷ xs) ≡ files_at p (e ∷ ys)
files_at-more p (entry.File name info zero) xs ys same = same p
files_at-more p (entry.File name info (suc size)) xs ys same = ap (λ fs. record { name = name; info = info; place = p; size = suc size } ∷ fs) (same (p + suc size))
files_at-more p (entry.Empty size) xs ys same = same (p + size)

files_at-tidy : (es : List DirEntry) (p : ℕ) → files_at p (tidy es) ≡ files_at p es
files_at-tidy [] p = refl
files_at-tidy (e ∷ es) p = files_at-before p e (tidy es) ∙ files_at-more p e (tidy es) es (λ n. files_at-tidy es n)

files_at-append : (p : ℕ) (xs ys : List DirEntry) → files_at p (xs ++ ys) ≡ files_at p xs ++ files_at (p + total xs) ys
files_at-append p [] ys = ap (λ n. files_at n ys) (omega arith)
files_at-append p (entry.File name info zero ∷ xs) ys = files_at-append p xs ys ∙ ap (λ n. files_at p xs ++ files_at n ys) (omega arith)
files_at-append p (entry.File name info (suc size) ∷ xs) ys =
    ap (λ fs. record { name = name; info = info; place = p; size = suc size } ∷ fs)
    (files_at-append (p + suc size) xs ys ∙ ap (λ n. files_at (p + suc size) xs ++ files_at n ys) (omega arith))
files_at-append p (entry.Empty size ∷ xs) ys = files_at-append (p + size) xs ys ∙ ap (λ n. files_at (p + size) xs ++ files_at n ys) (omega arith)

placed-append : (xs ys : List FilePlace) → placed_files (xs ++ ys) ≡ placed_files xs ++ placed_files ys
placed-append [] ys = refl
placed-append (x ∷ xs) ys = ap (λ l. record { name = x.name; info = x.info; place = x.place; size = x.size } ∷ l) (placed-append xs ys)

-- the files of a list with one entry more
placed-more : (p : ℕ) (es : List DirEntry) (e : DirEntry) (rest : List FoundFile)
    → placed_files (files_at p (tidy (es ++ e ∷ []))) ++ rest ≡ placed_files (files_at p es) ++ (placed_files (files_at (p + total es) (e ∷ [])) ++ rest)
placed-more p es e rest =
    ap (λ fs. placed_files fs ++ rest) (files_at-tidy (es ++ e ∷ []) p ∙ files_at-append p es (e ∷ []))
    ∙ ap (λ l. l ++ rest) (placed-append (files_at p es) (files_at (p + total es) (e ∷ [])))
    ∙ append_assoc (placed_files (files_at p es)) (placed_files (files_at (p + total es) (e ∷ []))) rest

-- ## Following the reading

-- a block is one of an extent
abbrev pub within : ℕ → ℕ → ℕ → ℕ
within from end k = if nat_le from k && nat_lt k end then 1 else 0

blocks-append : (xs ys : List Part) → blocks_in (xs ++ ys) ≡ blocks_in xs + blocks_in ys
blocks-append [] ys = omega arith
blocks-append (x ∷ xs) ys = omega (arith, blocks-append xs ys)

-- parts after a directory that was read as one more
pub record GoesOn (volume : ℕ) (d : DirectoryState) (xs : List Part) (more : DirectoryState) : Type 0 where
  pub first : (rest : List Part) → first_fault (findings_of volume (names_of d.entries) (xs ++ rest)) ≡ first_fault (findings_of volume (names_of more.entries) rest)
  pub claimed : (rest : List Part) (k : ℕ) → claims (findings_of volume (names_of d.entries) (xs ++ rest)) k ≡ within (end_of d) (end_of more) k + claims (findings_of volume (names_of more.entries) rest) k
  pub end_is : end_of more ≡ end_of d + blocks_in xs
  pub inside : end_of more ≤ volume
  pub info : more.info ≡ d.info
  pub files : (rest : List Part) → placed_files (files_at more.first more.entries) ++ files_found (findings_of volume (names_of more.entries) rest)
      ≡ placed_files (files_at d.first d.entries) ++ files_found (findings_of volume (names_of d.entries) (xs ++ rest))

-- parts that are read as a directory after another, or of which a fault is the first
abbrev pub Follows : ℕ → DirectoryState → List Part → Result DirectoryState DirFault → Type 0
Follows volume d xs (Ok more) = GoesOn volume d xs more
Follows volume d xs (Err fault) = (rest : List Part) → first_fault (findings_of volume (names_of d.entries) (xs ++ rest)) ≡ Some fault

within-low : (from end k : ℕ) → k < from → within from end k ≡ 0
within-low from end k low = rw (lt-leb from k low) refl

within-inside : (from end k : ℕ) → from ≤ k → k < end → within from end k ≡ 1
within-inside from end k least most = rw (le-leb from k least, lt-ltb k end most) refl

within-high : (from end k : ℕ) → from ≤ k → end ≤ k → within from end k ≡ 0
within-high from end k least high = rw (le-leb from k least, le-ltb k end high) refl

within-none : (from k : ℕ) → within from from k ≡ 0
within-none from k = elim (cases_lt k from) [ inl low ↦ within-low from from k low | inr high ↦ within-high from from k high high ]

within-join : (a b c k : ℕ) → a ≤ b → b ≤ c → within a b k + within b c k ≡ within a c k
within-join a b c k less most = elim (cases_lt k a) [
  | inl low ↦ rw (within-low a b k low, within-low b c k (omega arith), within-low a c k low) refl
  | inr from ↦ elim (cases_lt k b) [
    | inl first ↦ rw (within-inside a b k from first, within-low b c k first, within-inside a c k from (omega arith)) refl
    | inr second ↦ elim (cases_lt k c) [
      | inl inside ↦ rw (within-high a b k from second, within-inside b c k second inside, within-inside a c k from inside) refl
      | inr high ↦ rw (within-high a b k from second, within-high b c k second high, within-high a c k from high) refl
    ]
  ]
]

goes_on : (volume : ℕ) (d one more : DirectoryState) (xs ys : List Part) → GoesOn volume d xs one → GoesOn volume one ys more → GoesOn volume d (xs ++ ys) more
goes_on volume d one more xs ys g h = record {
  first = λ rest. rw (append_assoc xs ys rest) (g.first (ys ++ rest) ∙ h.first rest);
  claimed = λ rest k. rw (append_assoc xs ys rest)
      (omega (arith, g.claimed (ys ++ rest) k, h.claimed rest k, within-join (end_of d) (end_of one) (end_of more) k (omega (arith, g.end_is)) (omega (arith, h.end_is))));
  end_is = omega (arith, g.end_is, h.end_is, blocks-append xs ys);
  inside = h.inside;
  info = h.info ∙ g.info;
  files = λ rest. rw (append_assoc xs ys rest) (h.files rest ∙ g.files (ys ++ rest));
}

follow_after : (volume : ℕ) (d one : DirectoryState) (xs ys : List Part) (r : Result DirectoryState DirFault) → GoesOn volume d xs one → Follows volume one ys r → Follows volume d (xs ++ ys) r
follow_after volume d one xs ys (Ok more) g h = goes_on volume d one more xs ys g h
follow_after volume d one xs ys (Err fault) g h = λ rest. rw (append_assoc xs ys rest) (g.first (ys ++ rest) ∙ h rest)

pub follow_on : (volume : ℕ) (d : DirectoryState) (xs ys : List Part) (r : Result DirectoryState DirFault) (next : DirectoryState → Result DirectoryState DirFault) → Follows volume d xs r
    → ((more : DirectoryState) → r ≡ Ok more → GoesOn volume d xs more → Follows volume more ys (next more)) → Follows volume d (xs ++ ys) (r >>= next)
follow_on volume d xs ys (Ok more) next f n = follow_after volume d more xs ys (next more) f (n more refl f)
follow_on volume d xs ys (Err fault) next f n = λ rest. rw (append_assoc xs ys rest) (f (ys ++ rest))

-- ## One entry

with_entry-more : (volume : ℕ) (d : DirectoryState) (e : DirEntry) → end_of d + size_of e ≤ volume → is_new (names_of d.entries) e ≡ true
    → with_entry volume d e ≡ Ok (record d { entries = tidy (d.entries ++ e ∷ []) })
unfolding with_entry
with_entry-more volume d e inside new = rw (le-ltb volume (end_of d + size_of e) inside, new) refl

size-part : (place : ℕ) (e : DirEntry) → blocks_of (part_of place e) ≡ size_of e
size-part place (entry.File name info size) = refl
size-part place (entry.Empty size) = refl

entry_on : (volume : ℕ) (d : DirectoryState) (e : DirEntry) (told : List Finding) → finding_of volume (names_of d.entries) (part_of (end_of d) e) ≡ told
    → ((rest : List Finding) → first_fault (told ++ rest) ≡ first_fault rest)
    → ((rest : List Finding) → files_found (told ++ rest) ≡ placed_files (files_at (end_of d) (e ∷ [])) ++ files_found rest) → ((k : ℕ) → claims told k ≡ within (end_of d) (end_of d + size_of e) k)
    → names_after volume (names_of d.entries) (part_of (end_of d) e) ≡ names_of d.entries ++ names_of (e ∷ []) → end_of d + size_of e ≤ volume
    → GoesOn volume d (part_of (end_of d) e ∷ []) (record d { entries = tidy (d.entries ++ e ∷ []) })
entry_on volume d e told is passes tells claimed names inside =
    let end : d.first + total (tidy (d.entries ++ e ∷ [])) ≡ end_of d + size_of e = omega (arith, total-tidy (d.entries ++ e ∷ []), total-more d.entries e) in
    let following = λ (rest : List Part). findings_of volume (names_of d.entries ++ names_of (e ∷ [])) rest in
    record {
      first = λ rest. rw (is, names, names-more d.entries e) (passes (following rest));
      claimed = λ rest k. rw (is, names, names-more d.entries e, end) (claims-append told (following rest) k ∙ ap (λ n. n + claims (following rest) k) (claimed k));
      end_is = omega (arith, end, size-part (end_of d) e);
      inside = omega (arith, end);
      info = refl;
      files = λ rest. rw (is, names, names-more d.entries e)
          (placed-more d.first d.entries e (files_found (following rest)) ∙ ap (λ l. placed_files (files_at d.first d.entries) ++ l) (sym (tells (following rest))));
    }

-- a file that has blocks and lies inside the volume, by whether its name is known
file_follows : (volume : ℕ) (d : DirectoryState) (name : Name) (info : List Word) (size : ℕ) (known : Bool) → contains (names_of d.entries) name ≡ known → end_of d + suc size ≤ volume
    → Follows volume d (File name info (end_of d) (suc size) ∷ []) (with_entry volume d (entry.File name info (suc size)))
file_follows volume d name info size true is inside =
    let e = entry.File name info (suc size) in
    subst (λ (r : Result DirectoryState DirFault). Follows volume d (part_of (end_of d) e ∷ []) r) (sym (with_entry-same volume d e inside (rw is refl)))
    (λ rest. rw (le-ltb volume (end_of d + suc size) inside, is) refl)
file_follows volume d name info size false is inside =
    let e = entry.File name info (suc size) in
    subst (λ (r : Result DirectoryState DirFault). Follows volume d (part_of (end_of d) e ∷ []) r) (sym (with_entry-more volume d e inside (rw is refl)))
    (entry_on volume d e (Clean (File name info (end_of d) (suc size)) ∷ []) (rw (le-ltb volume (end_of d + suc size) inside, is) refl) (λ rest. refl) (λ rest. refl) (λ k. refl)
    (rw (le-ltb volume (end_of d + suc size) inside, is) refl) inside)

pub entry_follows : (volume : ℕ) (d : DirectoryState) (e : DirEntry) → end_of d ≤ volume → Follows volume d (part_of (end_of d) e ∷ []) (with_entry volume d e)
entry_follows volume d (entry.File name info zero) low =
    let e = entry.File name info zero in
    subst (λ (r : Result DirectoryState DirFault). Follows volume d (part_of (end_of d) e ∷ []) r) (sym (with_entry-more volume d e (omega arith) refl))
    (entry_on volume d e [] refl (λ rest. refl) (λ rest. refl) (λ k. sym (ap (λ n. within (end_of d) n k) (omega arith) ∙ within-none (end_of d) k)) (sym (append-nil (names_of d.entries))) (omega arith))
entry_follows volume d (entry.File name info (suc size)) low = elim (cases_lt volume (end_of d + suc size)) [
  | inl past ↦
      let e = entry.File name info (suc size) in
      subst (λ (r : Result DirectoryState DirFault). Follows volume d (part_of (end_of d) e ∷ []) r) (sym (with_entry-past volume d e past))
      (λ rest. rw (lt-ltb volume (end_of d + suc size) past) refl)
  | inr inside ↦ file_follows volume d name info size (contains (names_of d.entries) name) refl inside
]
entry_follows volume d (entry.Empty zero) low =
    let e = entry.Empty zero in
    subst (λ (r : Result DirectoryState DirFault). Follows volume d (part_of (end_of d) e ∷ []) r) (sym (with_entry-more volume d e (omega arith) refl))
    (entry_on volume d e [] refl (λ rest. refl) (λ rest. refl) (λ k. sym (ap (λ n. within (end_of d) n k) (omega arith) ∙ within-none (end_of d) k)) (sym (append-nil (names_of d.entries))) (omega arith))
entry_follows volume d (entry.Empty (suc size)) low = elim (cases_lt volume (end_of d + suc size)) [
  | inl past ↦
      let e = entry.Empty (suc size) in
      subst (λ (r : Result DirectoryState DirFault). Follows volume d (part_of (end_of d) e ∷ []) r) (sym (with_entry-past volume d e past))
      (λ rest. rw (lt-ltb volume (end_of d + suc size) past) refl)
  | inr inside ↦
      let e = entry.Empty (suc size) in
      subst (λ (r : Result DirectoryState DirFault). Follows volume d (part_of (end_of d) e ∷ []) r) (sym (with_entry-more volume d e inside refl))
      (entry_on volume d e (Clean (Empty (end_of d) (suc size)) ∷ []) (rw (le-ltb volume (end_of d + suc size) inside) refl) (λ rest. refl) (λ rest. refl) (λ k. refl) (sym (append-nil (names_of d.entries))) inside)
]

-- ## So many entries

fits_or_past : (b : Bool) (p : DirEntry × List ℕ) (fault : DirFault) → (needs b EntryPastSegment >>= (λ u. Ok p)) ≡ Err fault → fault ≡ EntryPastSegment
fits_or_past true p fault is = absurd (cc)
fits_or_past false p fault is = cc

-- an entry that is not read goes past its segment
entry_past : (info : ℕ) (words : List ℕ) (fault : DirFault) → entry_at info words ≡ Err fault → fault ≡ EntryPastSegment
unfolding entry_at file_at empty_at
entry_past info [] fault is = cc
entry_past info (zero ∷ []) fault is = cc
entry_past info (zero ∷ size ∷ rest) fault is = absurd (cc)
entry_past info (suc a ∷ []) fault is = cc
entry_past info (suc a ∷ b ∷ []) fault is = cc
entry_past info (suc a ∷ b ∷ c ∷ []) fault is = cc
entry_past info (suc a ∷ b ∷ c ∷ d ∷ rest) fault is =
    fits_or_past (nat_lt info (length rest)) (entry.File (name_of (suc a ∷ b ∷ c ∷ d ∷ [])) (with_end_zeros 10 (take info rest)) (minus (word rest info)), drop (suc info) rest) fault is

-- nothing more
stays : (volume : ℕ) (d : DirectoryState) → end_of d ≤ volume → GoesOn volume d [] d
stays volume d low = record {
  first = λ rest. refl;
  claimed = λ rest k. rw (within-none (end_of d) k) (omega arith);
  end_is = omega arith;
  inside = low;
  info = refl;
  files = λ rest. refl;
}

entry_by : (count volume : ℕ) (d : DirectoryState) → end_of d ≤ volume
    → ((more : DirectoryState) (words : List ℕ) → end_of more ≤ volume → Follows volume more (entries_at count more.info (end_of more) words) (with_entries count volume more words))
    → (r : Result (DirEntry × List ℕ) DirFault) → ((fault : DirFault) → r ≡ Err fault → fault ≡ EntryPastSegment)
    → Follows volume d (with_those (end_of d) (part_at (end_of d) r) (entries_at count d.info)) (r >>= (λ e. with_entry volume d e.0 >>= (λ more. with_entries count volume more e.1)))
entry_by count volume d low next (Err fault) past = λ rest. ap Some (sym (past fault refl))
entry_by count volume d low next (Ok p) past =
    let part = part_of (end_of d) p.0 in
    follow_on volume d (part ∷ []) (entries_at count d.info (end_of d + blocks_of part) p.1) (with_entry volume d p.0) (λ more. with_entries count volume more p.1) (entry_follows volume d p.0 low)
    (λ more is g.
    let end : end_of more ≡ end_of d + blocks_of part = omega (arith, g.end_is) in
    subst (λ (i : ℕ). Follows volume more (entries_at count i (end_of d + blocks_of part) p.1) (with_entries count volume more p.1)) g.info
    (subst (λ (n : ℕ). Follows volume more (entries_at count more.info n p.1) (with_entries count volume more p.1)) end (next more p.1 g.inside)))

entries_follow : (count volume : ℕ) (d : DirectoryState) (words : List ℕ) → end_of d ≤ volume → Follows volume d (entries_at count d.info (end_of d) words) (with_entries count volume d words)
unfolding with_entries
entries_follow zero volume d words low = stays volume d low
entries_follow (suc count) volume d words low =
    entry_by count volume d low (λ more rest inside. entries_follow count volume more rest inside) (entry_at d.info words) (entry_past d.info words)

-- ## A segment

unless_follows : (volume : ℕ) (d : DirectoryState) (b : Bool) (fault : DirFault) (xs : List Part) (next : Result DirectoryState DirFault) → (b ≡ true → Follows volume d xs next)
    → Follows volume d (unless b fault ++ xs) (needs b fault >>= (λ u. next))
unless_follows volume d true fault xs next f = f refl
unless_follows volume d false fault xs next f = λ rest. refl

pub segment_before : (volume : ℕ) (d : DirectoryState) (number count : ℕ) (xs : List Part) (r : Result DirectoryState DirFault) → Follows volume d xs r → Follows volume d (Segment number count ∷ xs) r
segment_before volume d number count xs (Ok more) g = record { first = g.first; claimed = g.claimed; end_is = omega (arith, g.end_is); inside = g.inside; info = g.info; files = g.files }
segment_before volume d number count xs (Err fault) f = f

not_true : (b : Bool) → not b ≡ true → b ≡ false
not_true true is = absurd (true≢false (sym is))
not_true false is = refl

entries_are : (words : List ℕ) → nat_lt 10 (info_of words) ≡ false → segment_entries words ≡ entries_at (count_of words) (info_of words) (first_of words) (drop 5 words)
unfolding segment_entries
entries_are words few = rw few refl

-- the entries of a segment whose head has no fault
pub body_follows : (volume : ℕ) (d : DirectoryState) (words : List ℕ) → end_of d ≤ volume → not (nat_lt 10 (info_of words)) ≡ true → info_of words ≡ d.info → first_of words ≡ end_of d
    → Follows volume d (segment_entries words) (with_entries (count_of words) volume d (drop 5 words))
body_follows volume d words low few same begins =
    subst (λ (l : List Part). Follows volume d l (with_entries (count_of words) volume d (drop 5 words))) (sym (entries_are words (not_true _ few)))
    (subst (λ (i : ℕ). Follows volume d (entries_at (count_of words) i (first_of words) (drop 5 words)) (with_entries (count_of words) volume d (drop 5 words))) (sym same)
    (subst (λ (n : ℕ). Follows volume d (entries_at (count_of words) d.info n (drop 5 words)) (with_entries (count_of words) volume d (drop 5 words))) (sym begins)
    (entries_follow (count_of words) volume d (drop 5 words) low)))

three : (a b c d : List Part) → ((a ++ b) ++ c) ++ d ≡ a ++ (b ++ (c ++ d))
three a b c d = simp append_assoc

later_follows : (volume : ℕ) (d : DirectoryState) (number : ℕ) (words : List ℕ) → end_of d ≤ volume → Follows volume d (later_segment d.info (end_of d) number words) (with_segment volume d number words)
unfolding with_segment
later_follows volume d number words low =
    let few = not (nat_lt 10 (info_of words)) in
    let same = eqb (info_of words) d.info in
    let begins = eqb (first_of words) (end_of d) in
    let entries = with_entries (count_of words) volume d (drop 5 words) in
    segment_before volume d number (count_of words) (later_faults d.info (end_of d) number words ++ segment_entries words) (with_segment volume d number words)
    (subst (λ (l : List Part). Follows volume d l (with_segment volume d number words))
    (sym (three (unless few (BadCount number)) (unless same MixedInfo) (unless begins WrongFirstBlock) (segment_entries words)))
    (unless_follows volume d few (BadCount number) (unless same MixedInfo ++ (unless begins WrongFirstBlock ++ segment_entries words))
    (needs same MixedInfo >>= (λ u. needs begins WrongFirstBlock >>= (λ v. entries)))
    (λ is_few. unless_follows volume d same MixedInfo (unless begins WrongFirstBlock ++ segment_entries words) (needs begins WrongFirstBlock >>= (λ v. entries))
    (λ is_same. unless_follows volume d begins WrongFirstBlock (segment_entries words) entries
    (λ is_begun. body_follows volume d words low is_few (eqb-true _ _ is_same) (eqb-true _ _ is_begun))))))

third_test : (a b c : Bool) (x y z : DirFault) (r : Result DirectoryState DirFault) (more : DirectoryState) → (needs a x >>= (λ u. needs b y >>= (λ v. needs c z >>= (λ w. r)))) ≡ Ok more → c ≡ true
third_test true true true x y z r more is = refl
third_test true true false x y z r more is = absurd (cc)
third_test true false c x y z r more is = absurd (cc)
third_test false b c x y z r more is = absurd (cc)

-- a segment that was read begins where the one before it ends
begins_there : (volume : ℕ) (d more : DirectoryState) (number : ℕ) (words : List ℕ) → with_segment volume d number words ≡ Ok more → first_of words ≡ end_of d
unfolding with_segment
begins_there volume d more number words is =
    eqb-true _ _ (third_test (not (nat_lt 10 (info_of words))) (eqb (info_of words) d.info) (eqb (first_of words) (end_of d)) (BadCount number) MixedInfo WrongFirstBlock
    (with_entries (count_of words) volume d (drop 5 words)) more is)

blocks-unless : (b : Bool) (fault : DirFault) → blocks_in (unless b fault) ≡ 0
blocks-unless true fault = refl
blocks-unless false fault = refl

blocks-later : (info end number : ℕ) (words : List ℕ) → blocks_in (later_segment info end number words) ≡ blocks_in (segment_entries words)
blocks-later info end number words =
    let a = unless (not (nat_lt 10 (info_of words))) (BadCount number) in
    let b = unless (eqb (info_of words) info) MixedInfo in
    let c = unless (eqb (first_of words) end) WrongFirstBlock in
    omega (
      arith,
      blocks-append ((a ++ b) ++ c) (segment_entries words),
      blocks-append (a ++ b) c,
      blocks-append a b,
      blocks-unless (not (nat_lt 10 (info_of words))) (BadCount number),
      blocks-unless (eqb (info_of words) info) MixedInfo,
      blocks-unless (eqb (first_of words) end) WrongFirstBlock,
    )

-- ## The links

link_by : (volume : ℕ) (d : DirectoryState) (b : Bool) (fault : DirFault) (xs : List Part) (next : Result DirectoryState DirFault) → Follows volume d xs next
    → Follows volume d (if b then xs else Fault fault ∷ []) (needs b fault >>= (λ u. next))
link_by volume d true fault xs next f = f
link_by volume d false fault xs next f = λ rest. refl

pub links_follow : (left : ℕ) (blocks : List (List ℕ)) (d : DirectoryState) (read : List ℕ) (from link : ℕ) → end_of d ≤ length blocks
    → Follows (length blocks) d (later_segments left blocks d.info read from (end_of d) link) (with_links left d blocks read from link)
unfolding with_links later_segments
links_follow zero blocks d read from zero low = stays (length blocks) d low
links_follow (suc left) blocks d read from zero low = stays (length blocks) d low
links_follow zero blocks d read from (suc n) low = λ rest. refl
links_follow (suc left) blocks d read from (suc n) low =
    let words = block blocks (suc n) in
    let volume = length blocks in
    let next = λ (more : DirectoryState). with_links left more blocks (suc n ∷ read) (suc n) (word words 2) in
    link_by volume d (is_unread read (suc n)) (BadLink from)
    (later_segment d.info (end_of d) (suc n) words ++ later_segments left blocks d.info (suc n ∷ read) (suc n) (segment_end words) (word words 2))
    (with_segment volume d (suc n) words >>= next)
    (follow_on volume d (later_segment d.info (end_of d) (suc n) words) (later_segments left blocks d.info (suc n ∷ read) (suc n) (segment_end words) (word words 2))
    (with_segment volume d (suc n) words) next (later_follows volume d (suc n) words low)
    (λ more is g.
    let end : end_of more ≡ segment_end words = omega (arith, g.end_is, blocks-later d.info (end_of d) (suc n) words, begins_there volume d more (suc n) words is) in
    subst (λ (i : ℕ). Follows volume more (later_segments left blocks i (suc n ∷ read) (suc n) (segment_end words) (word words 2)) (next more)) g.info
    (subst (λ (e : ℕ). Follows volume more (later_segments left blocks more.info (suc n ∷ read) (suc n) e (word words 2)) (next more)) end
    (links_follow left blocks more (suc n ∷ read) (suc n) (word words 2) g.inside))))
