-- Entries and segments as they are read.
use Rattle.std.proofs.Common.{◌≡◌, ℕ, zero, suc, ◌+◌, ◌-◌, ◌<◌, ◌≤◌, ◌≢◌, true, false, List, [], ◌∷◌, ◌++◌, length, take, drop, get_or, set, Result, Ok, Err, refl, ap, arith, eq-eqb, ne_eqb}
use Rattle.std.proofs.lemmas.Bool.{lt-ltb, le-ltb}
use Rattle.os8_dir.specs.declared.entries.DirEntry.{DirEntry}
use Rattle.os8_dir.specs.declared.faults.DirFault.{DirFault}
use Rattle.os8_dir.specs.declared.faults.DirFault.TheVariants.{BadLink, BadCount, EntryPastSegment, PastVolume, SameName, WrongFirstBlock, MixedInfo, Device, Memory}
use Rattle.os8_dir.specs.Names.{with_end_zeros}
use Rattle.os8_dir.specs.Entries.{DirectoryState, minus, size_of, end_of, names_of, tidy}
use Rattle.os8_dir.specs.Reading.{word, entry_at, is_new, with_entry, with_entries, with_segment, head_of, MeetsFault, with_links, block, is_unread, directory_of}
use Rattle.os8_dir.specs.Steps.{FindsFault}

-- one more word
pub set-padded : (n k : ℕ) (words : List ℕ) → k < n → k < length words → set (with_end_zeros n (take k words)) k (get_or words k 0) ≡ with_end_zeros n (take (suc k) words)
set-padded zero k words low inside = absurd (omega arith)
set-padded (suc n) k [] low inside = absurd (omega arith)
set-padded (suc n) zero (w ∷ ws) low inside = refl
set-padded (suc n) (suc k) (w ∷ ws) low inside = ap (λ xs. w ∷ xs) (set-padded n k ws (omega arith) (omega arith))

-- a fault that a step found is the fault of the whole
pub finds-whole : {Y Y' : Type 0} (fault : DirFault) (read : Result Y DirFault) (whole : Result Y' DirFault) → FindsFault fault read → (read ≡ Err fault → whole ≡ Err fault) → FindsFault fault whole
finds-whole (BadLink number) read whole found up = up found
finds-whole (BadCount number) read whole found up = up found
finds-whole EntryPastSegment read whole found up = up found
finds-whole PastVolume read whole found up = up found
finds-whole SameName read whole found up = up found
finds-whole WrongFirstBlock read whole found up = up found
finds-whole MixedInfo read whole found up = up found
finds-whole Device read whole found up = absurd found
finds-whole Memory read whole found up = tt

pub meets-found : {Y Y' : Type 0} (fault : DirFault) (read : Result Y DirFault) (whole : Result Y' DirFault) → FindsFault fault read → (read ≡ Err fault → whole ≡ Err fault) → MeetsFault fault whole
meets-found (BadLink number) read whole found up = up found
meets-found (BadCount number) read whole found up = up found
meets-found EntryPastSegment read whole found up = up found
meets-found PastVolume read whole found up = up found
meets-found SameName read whole found up = up found
meets-found WrongFirstBlock read whole found up = up found
meets-found MixedInfo read whole found up = up found
meets-found Device read whole found up = tt
meets-found Memory read whole found up = tt

pub meets-whole : {Y Y' : Type 0} (fault : DirFault) (read : Result Y DirFault) (whole : Result Y' DirFault) → MeetsFault fault read → (read ≡ Err fault → whole ≡ Err fault) → MeetsFault fault whole
meets-whole (BadLink number) read whole met up = up met
meets-whole (BadCount number) read whole met up = up met
meets-whole EntryPastSegment read whole met up = up met
meets-whole PastVolume read whole met up = up met
meets-whole SameName read whole met up = up met
meets-whole WrongFirstBlock read whole met up = up met
meets-whole MixedInfo read whole met up = up met
meets-whole Device read whole met up = tt
meets-whole Memory read whole met up = tt

-- One more entry.
pub with_entry-past : (volume : ℕ) (d : DirectoryState) (e : DirEntry) → volume < end_of d + size_of e → with_entry volume d e ≡ Err PastVolume
unfolding with_entry
with_entry-past volume d e past = rw (lt-ltb volume (end_of d + size_of e) past) refl

pub with_entry-same : (volume : ℕ) (d : DirectoryState) (e : DirEntry) → end_of d + size_of e ≤ volume → is_new (names_of d.entries) e ≡ false → with_entry volume d e ≡ Err SameName
unfolding with_entry
with_entry-same volume d e inside old = rw (le-ltb volume (end_of d + size_of e) inside, old) refl

pub with_entry-more : (volume : ℕ) (d : DirectoryState) (e : DirEntry) → end_of d + size_of e ≤ volume → is_new (names_of d.entries) e ≡ true → with_entry volume d e ≡ Ok (record d { entries = tidy (d.entries ++ e ∷ []) })
unfolding with_entry
with_entry-more volume d e inside new = rw (le-ltb volume (end_of d + size_of e) inside, new) refl

-- So many entries.
pub with_entries-none : (volume : ℕ) (d : DirectoryState) (words : List ℕ) → with_entries 0 volume d words ≡ Ok d
unfolding with_entries
with_entries-none volume d words = refl

pub with_entries-more : (count volume : ℕ) (d more : DirectoryState) (words : List ℕ) (e : DirEntry × List ℕ) → 0 < count → entry_at d.info words ≡ Ok e → with_entry volume d e.0 ≡ Ok more → with_entries count volume d words ≡ with_entries (count - 1) volume more e.1
unfolding with_entries
with_entries-more zero volume d more words e some entry added = absurd (omega arith)
with_entries-more (suc count) volume d more words e some entry added =
    let less : suc count - 1 ≡ count = omega arith in rw (entry, added, less) refl

pub with_entries-entry : (count volume : ℕ) (d : DirectoryState) (words : List ℕ) (fault : DirFault) → 0 < count → entry_at d.info words ≡ Err fault → with_entries count volume d words ≡ Err fault
unfolding with_entries
with_entries-entry zero volume d words fault some entry = absurd (omega arith)
with_entries-entry (suc count) volume d words fault some entry = rw entry refl

pub with_entries-added : (count volume : ℕ) (d : DirectoryState) (words : List ℕ) (e : DirEntry × List ℕ) (fault : DirFault) → 0 < count → entry_at d.info words ≡ Ok e → with_entry volume d e.0 ≡ Err fault → with_entries count volume d words ≡ Err fault
unfolding with_entries
with_entries-added zero volume d words e fault some entry added = absurd (omega arith)
with_entries-added (suc count) volume d words e fault some entry added = rw (entry, added) refl

-- One more segment.
pub with_segment-count : (volume : ℕ) (d : DirectoryState) (number : ℕ) (words : List ℕ) → 10 < minus (word words 4) → with_segment volume d number words ≡ Err (BadCount number)
unfolding with_segment
with_segment-count volume d number words many = rw (lt-ltb 10 (minus (word words 4)) many) refl

pub with_segment-mixed : (volume : ℕ) (d : DirectoryState) (number : ℕ) (words : List ℕ) → minus (word words 4) ≤ 10 → minus (word words 4) ≢ d.info → with_segment volume d number words ≡ Err MixedInfo
unfolding with_segment
with_segment-mixed volume d number words few other = rw (le-ltb 10 (minus (word words 4)) few, ne_eqb (minus (word words 4)) d.info other) refl

pub with_segment-wrong : (volume : ℕ) (d : DirectoryState) (number : ℕ) (words : List ℕ) → minus (word words 4) ≤ 10 → minus (word words 4) ≡ d.info → word words 1 ≢ end_of d → with_segment volume d number words ≡ Err WrongFirstBlock
unfolding with_segment
with_segment-wrong volume d number words few same other = rw (le-ltb 10 (minus (word words 4)) few, eq-eqb (minus (word words 4)) d.info same, ne_eqb (word words 1) (end_of d) other) refl

pub with_segment-entries : (volume : ℕ) (d : DirectoryState) (number : ℕ) (words : List ℕ) → minus (word words 4) ≤ 10 → minus (word words 4) ≡ d.info → word words 1 ≡ end_of d → with_segment volume d number words ≡ with_entries (minus (word words 0)) volume d (drop 5 words)
unfolding with_segment
with_segment-entries volume d number words few same follows = rw (le-ltb 10 (minus (word words 4)) few, eq-eqb (minus (word words 4)) d.info same, eq-eqb (word words 1) (end_of d) follows) refl

-- The first segment's head.
pub head_of-count : (volume : ℕ) (words : List ℕ) → 10 < minus (word words 4) → head_of volume words ≡ Err (BadCount 1)
unfolding head_of
head_of-count volume words many = rw (lt-ltb 10 (minus (word words 4)) many) refl

pub head_of-low : (volume : ℕ) (words : List ℕ) → minus (word words 4) ≤ 10 → word words 1 < 7 → head_of volume words ≡ Err WrongFirstBlock
unfolding head_of
head_of-low volume words few low = rw (le-ltb 10 (minus (word words 4)) few, lt-ltb (word words 1) 7 low) refl

pub head_of-high : (volume : ℕ) (words : List ℕ) → minus (word words 4) ≤ 10 → 7 ≤ word words 1 → volume < word words 1 → head_of volume words ≡ Err WrongFirstBlock
unfolding head_of
head_of-high volume words few low high = rw (le-ltb 10 (minus (word words 4)) few, le-ltb (word words 1) 7 low, lt-ltb volume (word words 1) high) refl

pub head_of-ok : (volume : ℕ) (words : List ℕ) → minus (word words 4) ≤ 10 → 7 ≤ word words 1 → word words 1 ≤ volume → head_of volume words ≡ Ok (record { first = word words 1; info = minus (word words 4); entries = [] })
unfolding head_of
head_of-ok volume words few low high = rw (le-ltb 10 (minus (word words 4)) few, le-ltb (word words 1) 7 low, le-ltb volume (word words 1) high) refl

-- The links.
pub with_links-end : (left : ℕ) (d : DirectoryState) (blocks : List (List ℕ)) (read : List ℕ) (from : ℕ) → with_links left d blocks read from 0 ≡ Ok d
unfolding with_links
with_links-end zero d blocks read from = refl
with_links-end (suc left) d blocks read from = refl

pub with_links-past : (d : DirectoryState) (blocks : List (List ℕ)) (read : List ℕ) (from link : ℕ) → 0 < link → with_links 0 d blocks read from link ≡ Err (BadLink from)
unfolding with_links
with_links-past d blocks read from zero some = absurd (omega arith)
with_links-past d blocks read from (suc n) some = refl

pub with_links-bad : (left : ℕ) (d : DirectoryState) (blocks : List (List ℕ)) (read : List ℕ) (from link : ℕ) → 0 < link → is_unread read link ≡ false → with_links left d blocks read from link ≡ Err (BadLink from)
unfolding with_links
with_links-bad left d blocks read from zero some bad = absurd (omega arith)
with_links-bad zero d blocks read from (suc n) some bad = refl
with_links-bad (suc left) d blocks read from (suc n) some bad = rw bad refl

pub with_links-segment : (left : ℕ) (d : DirectoryState) (blocks : List (List ℕ)) (read : List ℕ) (from link : ℕ) (fault : DirFault) → 0 < left → 0 < link → is_unread read link ≡ true → with_segment (length blocks) d link (block blocks link) ≡ Err fault → with_links left d blocks read from link ≡ Err fault
unfolding with_links
with_links-segment left d blocks read from zero fault more some unread met = absurd (omega arith)
with_links-segment zero d blocks read from (suc n) fault more some unread met = absurd (omega arith)
with_links-segment (suc left) d blocks read from (suc n) fault more some unread met = rw (unread, met) refl

pub with_links-next : (left : ℕ) (d more : DirectoryState) (blocks : List (List ℕ)) (read : List ℕ) (from link : ℕ) → 0 < left → 0 < link → is_unread read link ≡ true → with_segment (length blocks) d link (block blocks link) ≡ Ok more → with_links left d blocks read from link ≡ with_links (left - 1) more blocks (link ∷ read) link (word (block blocks link) 2)
unfolding with_links
with_links-next left d next blocks read from zero more some unread added = absurd (omega arith)
with_links-next zero d next blocks read from (suc n) more some unread added = absurd (omega arith)
with_links-next (suc left) d next blocks read from (suc n) more some unread added =
    let less : suc left - 1 ≡ left = omega arith in rw (unread, added, less) refl

-- The whole.
pub directory_of-head : (blocks : List (List ℕ)) (fault : DirFault) → head_of (length blocks) (block blocks 1) ≡ Err fault → directory_of blocks ≡ Err fault
unfolding directory_of
directory_of-head blocks fault met = rw met refl

pub directory_of-first : (blocks : List (List ℕ)) (head : DirectoryState) (fault : DirFault) → head_of (length blocks) (block blocks 1) ≡ Ok head → with_segment (length blocks) head 1 (block blocks 1) ≡ Err fault → directory_of blocks ≡ Err fault
unfolding directory_of
directory_of-first blocks head fault begun met = rw (begun, met) refl

pub directory_of-links : (blocks : List (List ℕ)) (head one : DirectoryState) → head_of (length blocks) (block blocks 1) ≡ Ok head → with_segment (length blocks) head 1 (block blocks 1) ≡ Ok one → directory_of blocks ≡ with_links 5 one blocks (1 ∷ []) 1 (word (block blocks 1) 2)
unfolding directory_of
directory_of-links blocks head one begun added = rw (begun, added) refl
