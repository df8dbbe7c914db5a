-- How many segments are read.
use Rattle.std.proofs.Common.{◌≡◌, ℕ, zero, suc, ◌-◌, ◌<◌, ◌≤◌, true, false, List, [], ◌∷◌, length, Result, Ok, Err, refl, sym, ap, ◌∙◌, arith}
use Rattle.volume_image.specs.Volume.{next_count}
use Rattle.os8_dir.specs.declared.faults.DirFault.{DirFault}
use Rattle.os8_dir.specs.declared.faults.DirFault.TheVariants.{BadLink, BadCount, EntryPastSegment, PastVolume, SameName, WrongFirstBlock, MixedInfo, Device, Memory}
use Rattle.os8_dir.specs.Entries.{DirectoryState}
use Rattle.os8_dir.specs.Reading.{word, block, is_unread, with_segment, head_of, IsOfWords, MeetsFault}
use Rattle.os8_dir.specs.Reads.{count_after, segments_to_fault, segments_judged, IsJudged, ReadsSegments}
use Rattle.os8_dir.specs.Steps.{FindsFault}

-- a fault of a volume's words is that of the reading
pub of_words : {Y : Type 0} (fault : DirFault) (read : Result Y DirFault) → IsOfWords fault → MeetsFault fault read → read ≡ Err fault
of_words (BadLink number) read words met = met
of_words (BadCount number) read words met = met
of_words EntryPastSegment read words met = met
of_words PastVolume read words met = met
of_words SameName read words met = met
of_words WrongFirstBlock read words met = met
of_words MixedInfo read words met = met
of_words Device read words met = absurd words
of_words Memory read words met = absurd words

pub words_found : {Y : Type 0} (fault : DirFault) (read : Result Y DirFault) → IsOfWords fault → FindsFault fault read → read ≡ Err fault
words_found (BadLink number) read words found = found
words_found (BadCount number) read words found = found
words_found EntryPastSegment read words found = found
words_found PastVolume read words found = found
words_found SameName read words found = found
words_found WrongFirstBlock read words found = found
words_found MixedInfo read words found = found
words_found Device read words found = absurd words
words_found Memory read words found = absurd words

-- ## The links

pub judged_end : (left : ℕ) (d : DirectoryState) (blocks : List (List ℕ)) (read : List ℕ) → segments_to_fault left d blocks read 0 ≡ 0
unfolding segments_to_fault
judged_end zero d blocks read = refl
judged_end (suc left) d blocks read = refl

pub judged_past : (d : DirectoryState) (blocks : List (List ℕ)) (read : List ℕ) (link : ℕ) → segments_to_fault 0 d blocks read link ≡ 0
unfolding segments_to_fault
judged_past d blocks read zero = refl
judged_past d blocks read (suc n) = refl

pub judged_bad : (left : ℕ) (d : DirectoryState) (blocks : List (List ℕ)) (read : List ℕ) (link : ℕ) → is_unread read link ≡ false → segments_to_fault left d blocks read link ≡ 0
unfolding segments_to_fault
judged_bad zero d blocks read zero bad = refl
judged_bad (suc left) d blocks read zero bad = refl
judged_bad zero d blocks read (suc n) bad = refl
judged_bad (suc left) d blocks read (suc n) bad = rw bad refl

pub judged_some : (left : ℕ) (d : DirectoryState) (blocks : List (List ℕ)) (read : List ℕ) (link : ℕ) → 0 < left → 0 < link → is_unread read link ≡ true → 1 ≤ segments_to_fault left d blocks read link
unfolding segments_to_fault
judged_some left d blocks read zero more some unread = absurd (omega arith)
judged_some zero d blocks read (suc n) more some unread = absurd (omega arith)
judged_some (suc left) d blocks read (suc n) more some unread = rw unread (omega arith)

pub judged_fault : (left : ℕ) (d : DirectoryState) (blocks : List (List ℕ)) (read : List ℕ) (link : ℕ) (fault : DirFault) → 0 < left → 0 < link → is_unread read link ≡ true
    → with_segment (length blocks) d link (block blocks link) ≡ Err fault → segments_to_fault left d blocks read link ≡ 1
unfolding segments_to_fault
judged_fault left d blocks read zero fault more some unread met = absurd (omega arith)
judged_fault zero d blocks read (suc n) fault more some unread met = absurd (omega arith)
judged_fault (suc left) d blocks read (suc n) fault more some unread met = rw (unread, met) refl

pub judged_next : (left : ℕ) (d next : DirectoryState) (blocks : List (List ℕ)) (read : List ℕ) (link : ℕ) → 0 < left → 0 < link → is_unread read link ≡ true
    → with_segment (length blocks) d link (block blocks link) ≡ Ok next → segments_to_fault left d blocks read link ≡ suc (segments_to_fault (left - 1) next blocks (link ∷ read) (word (block blocks link) 2))
unfolding segments_to_fault
judged_next left d next blocks read zero more some unread added = absurd (omega arith)
judged_next zero d next blocks read (suc n) more some unread added = absurd (omega arith)
judged_next (suc left) d next blocks read (suc n) more some unread added =
    let less : suc left - 1 ≡ left = omega arith in rw (unread, added, less) refl

-- one more read after as many as there were links
pub one_more : (left before after now : ℕ) → 0 < left → left ≤ 5 → now ≡ next_count after → after ≡ count_after (5 - left) before → now ≡ count_after (5 - (left - 1)) before
one_more left before after now more most read so =
    let next : 5 - (left - 1) ≡ suc (5 - left) = omega arith in rw next (read ∙ ap next_count so)

-- no further one
pub reads_done : {X : Type 0} (segments made : ℕ) (result : Result X DirFault) (before after : ℕ) → after ≡ count_after made before → segments ≡ made → ReadsSegments segments result before after
reads_done segments made result before after counts is = record { made = made; reads = counts; most = omega (arith, is); all = λ judged. sym is }

-- one that has a fault, or at which the reading was broken off
pub reads_last : {X : Type 0} (segments made : ℕ) (fault : DirFault) (before after now : ℕ) → after ≡ count_after made before → now ≡ next_count after → suc made ≤ segments → (IsOfWords fault → segments ≡ suc made)
    → ReadsSegments {X = X} segments (Err fault) before now
reads_last segments made fault before after now counts read most is = record { made = suc made; reads = read ∙ ap next_count counts; most = most; all = λ judged. sym (is judged) }

-- ## The whole

pub segments_some : (blocks : List (List ℕ)) → 1 ≤ segments_judged blocks
unfolding segments_judged
segments_some blocks = omega arith

pub segments_head : (blocks : List (List ℕ)) (fault : DirFault) → head_of (length blocks) (block blocks 1) ≡ Err fault → segments_judged blocks ≡ 1
unfolding segments_judged
segments_head blocks fault met = rw met refl

pub segments_first : (blocks : List (List ℕ)) (head : DirectoryState) (fault : DirFault) → head_of (length blocks) (block blocks 1) ≡ Ok head → with_segment (length blocks) head 1 (block blocks 1) ≡ Err fault → segments_judged blocks ≡ 1
unfolding segments_judged
segments_first blocks head fault begun met = rw (begun, met) refl

pub segments_links : (blocks : List (List ℕ)) (head one : DirectoryState) → head_of (length blocks) (block blocks 1) ≡ Ok head → with_segment (length blocks) head 1 (block blocks 1) ≡ Ok one
    → segments_judged blocks ≡ suc (segments_to_fault 5 one blocks (1 ∷ []) (word (block blocks 1) 2))
unfolding segments_judged
segments_links blocks head one begun added = rw (begun, added) refl

counted_before : (made before : ℕ) → count_after made (next_count before) ≡ count_after (suc made) before
counted_before zero before = refl
counted_before (suc made) before = ap next_count (counted_before made before)

-- the segments after the first
pub reads_after : {X Y : Type 0} (segments rest : ℕ) (result : Result X DirFault) (whole : Result Y DirFault) (before one after : ℕ) → one ≡ next_count before → segments ≡ suc rest → (IsJudged whole → IsJudged result)
    → ReadsSegments rest result one after → ReadsSegments segments whole before after
reads_after segments rest result whole before one after first is same reads = record {
  made = suc reads.made;
  reads = reads.reads ∙ ap (count_after reads.made) first ∙ counted_before reads.made before;
  most = omega (arith, is, reads.most);
  all = λ judged. omega (arith, is, reads.all (same judged));
}
