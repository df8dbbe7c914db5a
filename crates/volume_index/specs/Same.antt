-- Lines of an index that are of equal files (this project's profile).
use Rattle.std.specs.Prelude.{◌≡◌, ℕ, ◌+◌, nat_eq, nat_lt, Bool, true, false, if◌then◌else◌, List, [], ◌∷◌, ◌++◌, map}
use Rattle.std.specs.Global.{Vec}
use Rattle.std.specs.List.Sorted.{IsPermutation, IsSortedByKey, IsStableByKey}
use Rattle.std.specs.Ordering.{nat_cmp}
use Rattle.volume_index.specs.Digests.{digest_of}
use Rattle.volume_index.specs.TextLines.{lines_of}

-- These are the same lines by their digests, those of one digest in the order that they had.
pub record AreByDigest (lines by_digest : List (Vec ℕ)) : Type 0 where
  pub permutation : IsPermutation lines by_digest
  pub sorted : IsSortedByKey (λ (line : Vec ℕ). digest_of line.items) nat_cmp by_digest
  pub stable : IsStableByKey (λ (line : Vec ℕ). digest_of line.items) nat_cmp lines by_digest

-- one, if two digests are equal
abbrev pub one_if : ℕ → ℕ → ℕ
one_if digest other = if nat_eq digest other then 1 else 0

-- how many lines have a digest
abbrev pub count_of : List (Vec ℕ) → ℕ → ℕ
count_of [] digest = 0
count_of (line ∷ lines) digest = one_if (digest_of line.items) digest + count_of lines digest

-- a line and its end, if that is wanted
abbrev pub line_if : Bool → List ℕ → List ℕ
line_if true line = line ++ 0o12 ∷ []
line_if false line = []

-- those lines of which more than one has the digest, by how many have it
abbrev pub shared_text : (ℕ → ℕ) → List (Vec ℕ) → List ℕ
shared_text counts [] = []
shared_text counts (line ∷ lines) = line_if (nat_lt 1 (counts (digest_of line.items))) line.items ++ shared_text counts lines

-- A text has those lines of an index whose digest another line has too, and nothing else. They stand in the order of their digests.
pub record IsSame (text same : List ℕ) : Type 0 where
  pub lines : List (Vec ℕ)
  pub are_lines : map (λ line. line.items) lines ≡ lines_of text
  pub by_digest : List (Vec ℕ)
  pub order : AreByDigest lines by_digest
  pub same_is : same ≡ shared_text (count_of by_digest) by_digest
