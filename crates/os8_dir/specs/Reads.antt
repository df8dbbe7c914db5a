-- How many blocks the reading of a directory reads (OS/8 Software Support Manual: a link leads from a segment to the next; that a
-- block is read once at most is this project's profile).
use Rattle.std.specs.Prelude.{◌≡◌, ℕ, zero, suc, ◌≤◌, if◌then◌else◌, List, [], ◌∷◌, length, Result, Ok, Err}
use Rattle.volume_image.specs.Volume.{next_count}
use Rattle.os8_dir.specs.declared.faults.DirFault.{DirFault}
use Rattle.os8_dir.specs.Entries.{DirectoryState}
use Rattle.os8_dir.specs.Reading.{◌>>=◌, block, word, is_unread, with_segment, head_of, IsOfWords}

-- a count of calls after so many more
abbrev pub count_after : ℕ → ℕ → ℕ
count_after zero calls = calls
count_after (suc more) calls = next_count (count_after more calls)

-- how many come after a segment: none after one that has a fault
abbrev pub calls_after : Result DirectoryState DirFault → (DirectoryState → ℕ) → ℕ
calls_after (Ok d) more = more d
calls_after (Err fault) more = 0

-- how many segments are judged from a link on, of which `left` may still come, up to the first that has a fault
unfoldable pub segments_to_fault : ℕ → DirectoryState → List (List ℕ) → List ℕ → ℕ → ℕ
segments_to_fault left d blocks read zero = 0
segments_to_fault zero d blocks read (suc n) = 0
segments_to_fault (suc left) d blocks read (suc n) =
    if is_unread read (suc n)
    then suc (calls_after (with_segment (length blocks) d (suc n) (block blocks (suc n))) (λ more. segments_to_fault left more blocks (suc n ∷ read) (word (block blocks (suc n)) 2)))
    else 0

-- how many segments of a volume are judged: that in block 1, and those that the links lead to
unfoldable pub segments_judged : List (List ℕ) → ℕ
segments_judged blocks =
    suc (calls_after (head_of (length blocks) (block blocks 1) >>= (λ head. with_segment (length blocks) head 1 (block blocks 1)))
    (λ one. segments_to_fault 5 one blocks (1 ∷ []) (word (block blocks 1) 2)))

-- neither the device nor memory broke the reading off
abbrev pub IsJudged : {X : Type 0} → Result X DirFault → Type 0
IsJudged (Ok x) = Unit {0}
IsJudged (Err fault) = IsOfWords fault

-- Each segment that was judged was read once, and nothing else: all that there are to judge, or fewer where the reading was
-- broken off.
pub record ReadsSegments {X : Type 0} (segments : ℕ) (result : Result X DirFault) (before after : ℕ) : Type 0 where
  pub made : ℕ
  pub reads : after ≡ count_after made before
  pub most : made ≤ segments
  pub all : IsJudged result → made ≡ segments
