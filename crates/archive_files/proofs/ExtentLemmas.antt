-- The extents that a check tells follow one another.
use Rattle.std.proofs.Common.{◌≡◌, ◌∙◌, ℕ, zero, suc, ◌+◌, ◌-◌, ◌<◌, ◌≤◌, ◌&&◌, Bool, true, false, nat_le, nat_lt, if◌then◌else◌, List, [], ◌∷◌, ◌++◌, length, codes, refl, sym, ap, arith, append_assoc, append-nil}
use Rattle.std.proofs.lemmas.Bool.Decides.{nat_tests}
use Rattle.os8_dir.specs.Entries.{DirectoryState, end_of, size_of, total, IsTidy}
use Rattle.os8_dir.specs.Found.{IsDirectory}
use Rattle.os8_dir.specs.declared.entries.DirEntry.{DirEntry}
use Rattle.os8_dir.specs.declared.entries.DirEntry.TheVariants.{File, Empty}
use Rattle.name_spelling.specs.Spelling.{text_of}
use Rattle.archive_files.specs.Checking.{blocks_line, check_lines, extent_text, entry_line, entry_lines, outside_line, segment_lines}
use Rattle.archive_files.specs.Laws.{Extent, entry_label, entry_extents, outside_extents, extents, extent_lines, FollowOneAnother, count_having}

-- ## They follow one another

follow-from : (from to end : ℕ) (es : List Extent) → from ≡ to → FollowOneAnother from end es → FollowOneAnother to end es
follow-from from to end es same is = rw (← same) is

follow-to : (from end to : ℕ) (es : List Extent) → end ≡ to → FollowOneAnother from end es → FollowOneAnother from to es
follow-to from end to es same is = rw (← same) is

follow-append : (from middle end : ℕ) (es more : List Extent) → FollowOneAnother from middle es → FollowOneAnother middle end more
    → FollowOneAnother from end (es ++ more)
follow-append from middle end [] more same is = follow-from middle from end more (sym same) is
follow-append from middle end (e ∷ es) more first is = (first.0, first.1, follow-append (from + e.size) middle end es more first.2 is)

follow-outside : (place count end : ℕ) → place + count ≡ end → FollowOneAnother place end (outside_extents place count)
follow-outside place zero end same = omega (arith, same)
follow-outside place (suc more) end same = (refl, omega arith, same)

follow-entries : (place : ℕ) (entries : List DirEntry) → IsTidy entries → FollowOneAnother place (place + total entries) (entry_extents place entries)
follow-entries place [] tidy = omega arith
follow-entries place (entry ∷ entries) tidy = (
  refl,
  tidy.0,
  follow-to (place + size_of entry) ((place + size_of entry) + total entries) (place + (size_of entry + total entries))
      (entry_extents (place + size_of entry) entries) (omega arith) (follow-entries (place + size_of entry) entries tidy.2),
)

reaches : (place end : ℕ) → place ≤ end → place + (end - place) ≡ end
reaches place end most = omega (arith, most)

pub follow-extents : (count : ℕ) (d : DirectoryState) → IsDirectory count d → FollowOneAnother 7 count (extents count d)
follow-extents count d is =
    follow-append 7 (end_of d) count (outside_extents 7 (d.first - 7) ++ entry_extents d.first d.entries) (outside_extents (end_of d) (count - end_of d))
    (follow-append 7 d.first (end_of d) (outside_extents 7 (d.first - 7)) (entry_extents d.first d.entries)
    (follow-outside 7 (d.first - 7) d.first (reaches 7 d.first is.starts)) (follow-entries d.first d.entries is.neat))
    (follow-outside (end_of d) (count - end_of d) count (reaches (end_of d) count is.inside))

-- ## Each block is in one

-- a block below extents is in none
none-below : (block from end : ℕ) (es : List Extent) → FollowOneAnother from end es → block < from → count_having block es ≡ 0
none-below block from end [] is below = refl
none-below block from end (e ∷ es) is below =
    go (nat_le e.place block) refl (none-below block (from + e.size) end es is.2 (omega (arith, below)))
  where
    go : (b : Bool) → nat_le e.place block ≡ b → count_having block es ≡ 0
        → (if b && nat_lt block (e.place + e.size) then suc (count_having block es) else count_having block es) ≡ 0
    go true test rest = absurd (grind (arith, nat_tests, test, is.0, below))
    go false test rest = rest

pub one-has : (block from end : ℕ) (es : List Extent) → FollowOneAnother from end es → from ≤ block → block < end → count_having block es ≡ 1
one-has block from end [] is least most = absurd (omega (arith, is, least, most))
one-has block from end (e ∷ es) is least most =
    go (nat_le e.place block) refl (nat_lt block (e.place + e.size)) refl (λ following. one-has block (from + e.size) end es is.2 following most)
  where
    go : (b : Bool) → nat_le e.place block ≡ b → (c : Bool) → nat_lt block (e.place + e.size) ≡ c
        → (from + e.size ≤ block → count_having block es ≡ 1) → (if b && c then suc (count_having block es) else count_having block es) ≡ 1
    go true test true short later = ap suc (none-below block (from + e.size) end es is.2 (grind (arith, nat_tests, short, is.0)))
    go true test false short later = later (grind (arith, nat_tests, short, is.0))
    go false test true short later = absurd (grind (arith, nat_tests, test, is.0, least))
    go false test false short later = absurd (grind (arith, nat_tests, test, is.0, least))

-- ## Their lines

entry-line : (place : ℕ) (entry : DirEntry) → entry_line place entry ≡ entry_label entry ++ extent_text place (size_of entry)
entry-line place (File name info size) =
    ap (λ l. codes "FILE " ++ l) (sym (append_assoc (text_of name) (32 ∷ []) (extent_text place size)))
entry-line place (Empty size) = refl

lines-entries : (place : ℕ) (entries : List DirEntry) → entry_lines place entries ≡ extent_lines (entry_extents place entries)
lines-entries place [] = refl
lines-entries place (entry ∷ entries) = rw (entry-line place entry, lines-entries (place + size_of entry) entries) refl

lines-outside : (place count : ℕ) → outside_line place count ≡ extent_lines (outside_extents place count)
lines-outside place zero = refl
lines-outside place (suc more) = sym (append-nil (codes "OUTSIDE " ++ extent_text place (suc more)))

lines-append : (es more : List Extent) → extent_lines (es ++ more) ≡ extent_lines es ++ extent_lines more
lines-append [] more = refl
lines-append (e ∷ es) more =
    ap (λ l. e.label ++ extent_text e.place e.size ++ l) (lines-append es more)
    ∙ sym (append_assoc (e.label ++ extent_text e.place e.size) (extent_lines es) (extent_lines more))

grouped : (head one two three : List ℕ) → head ++ one ++ two ++ three ≡ head ++ (one ++ two ++ three)
grouped head one two three = ap (λ l. l ++ three) (append_assoc head one two) ∙ append_assoc head (one ++ two) three

-- the lines of three parts are those of their extents
lines-parts : (one two three : List ℕ) (es more others : List Extent) → one ≡ extent_lines es → two ≡ extent_lines more → three ≡ extent_lines others
    → one ++ two ++ three ≡ extent_lines (es ++ more ++ others)
lines-parts one two three es more others is also too =
    rw (is, also, too) (ap (λ l. l ++ extent_lines others) (sym (lines-append es more)) ∙ sym (lines-append (es ++ more) others))

pub lines-extents : (blocks : List (List ℕ)) (d : DirectoryState)
    → check_lines blocks d ≡ blocks_line (length blocks) ++ segment_lines 6 blocks 1 ++ extent_lines (extents (length blocks) d)
lines-extents blocks d =
    let head = blocks_line (length blocks) ++ segment_lines 6 blocks 1 in
    let before = outside_line 7 (d.first - 7) in
    let following = outside_line (end_of d) (length blocks - end_of d) in
    grouped head before (entry_lines d.first d.entries) following
    ∙ ap (λ l. head ++ l) (lines-parts before (entry_lines d.first d.entries) following
    (outside_extents 7 (d.first - 7)) (entry_extents d.first d.entries) (outside_extents (end_of d) (length blocks - end_of d))
    (lines-outside 7 (d.first - 7)) (lines-entries d.first d.entries) (lines-outside (end_of d) (length blocks - end_of d)))
