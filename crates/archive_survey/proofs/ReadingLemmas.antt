-- Entries and segments as they are read, one by one.
use Rattle.std.proofs.Common.{◌≡◌, ◌∙◌, ℕ, zero, suc, ◌+◌, ◌-◌, ◌<◌, ◌≤◌, ◌≢◌, Bool, true, false, ◌&&◌, ltb, List, [], ◌∷◌, ◌++◌, length, get_or, set, Some, None, refl, sym, ap, arith, inl, inr, append_assoc, append-nil, get_or-set_same, get_or-set_other, slice_get, Result, Ok, Err, OnOk}
use Rattle.std.proofs.lemmas.Bool.{lt-ltb, le-ltb}
use Rattle.std.proofs.lemmas.Bool.Decides.{eqb_tells}
use Rattle.std.proofs.lemmas.Option.{get_or_from_slice_get}
use Rattle.std.proofs.lemmas.Grind.{get_or_default_zero}
use Rattle.os8_dir.specs.declared.faults.DirFault.TheVariants.{BadLink, EntryPastSegment}
use Rattle.os8_dir.specs.Entries.{contains}
use Rattle.os8_dir.specs.Reading.{block, word, entry_at, is_unread}
use Rattle.archive_survey.specs.declared.parts.Part.{Part}
use Rattle.archive_survey.specs.declared.parts.Part.TheVariants.{Fault}
use Rattle.archive_survey.specs.Findings.{part_at, blocks_of, blocks_in, entries_at, later_segment, later_segments, segment_end}

-- one entry more
pub entries_more : (left info place : ℕ) (words : List ℕ) (part : Part) (following : List ℕ) → 0 < left → Some (part, following) ≡ part_at place (entry_at info words)
    → entries_at left info place words ≡ part ∷ entries_at (left - 1) info (place + blocks_of part) following
entries_more zero info place words part following some is = absurd (omega arith)
entries_more (suc left) info place words part following some is =
    let less : suc left - 1 ≡ left = omega arith in
    rw (less, ← is) refl

-- an entry that goes past its segment
pub entries_past : (left info place : ℕ) (words : List ℕ) → 0 < left → None ≡ part_at place (entry_at info words) → entries_at left info place words ≡ Fault EntryPastSegment ∷ []
entries_past zero info place words some is = absurd (omega arith)
entries_past (suc left) info place words some is = rw (← is) refl

-- a list that grew by one item, before what follows it
pub moved : (out new all rest : List Part) (part : Part) → new ≡ out ++ part ∷ [] → out ++ part ∷ rest ≡ all → new ++ rest ≡ all
moved out new all rest part put before = rw put (append_assoc out (part ∷ []) rest ∙ before)

-- one more entry was read
pub read_more : (left info place size : ℕ) (words following : List ℕ) (part : Part) (out new all : List Part) → 0 < left → Some (part, following) ≡ part_at place (entry_at info words)
    → size ≡ blocks_of part → new ≡ out ++ part ∷ [] → out ++ entries_at left info place words ≡ all → new ++ entries_at (left - 1) info (place + size) following ≡ all
read_more left info place size words following part out new all some is size_is put before =
    moved out new all (entries_at (left - 1) info (place + size) following) part put
    (rw size_is (ap (λ l. out ++ l) (sym (entries_more left info place words part following some is)) ∙ before))

pub blocks_more : (left info place size all : ℕ) (words following : List ℕ) (part : Part) → 0 < left → Some (part, following) ≡ part_at place (entry_at info words)
    → size ≡ blocks_of part → place + blocks_in (entries_at left info place words) ≡ all → place + size + blocks_in (entries_at (left - 1) info (place + size) following) ≡ all
blocks_more left info place size all words following part some is size_is before =
    rw size_is (omega (arith, before, ap blocks_in (entries_more left info place words part following some is)))

-- ## The links

pub later_end : (left info from end : ℕ) (blocks : List (List ℕ)) (read : List ℕ) → later_segments left blocks info read from end 0 ≡ []
unfolding later_segments
later_end zero info from end blocks read = refl
later_end (suc left) info from end blocks read = refl

pub later_past : (info from end link : ℕ) (blocks : List (List ℕ)) (read : List ℕ) → 0 < link → later_segments 0 blocks info read from end link ≡ Fault (BadLink from) ∷ []
unfolding later_segments
later_past info from end zero blocks read some = absurd (omega arith)
later_past info from end (suc n) blocks read some = refl

pub later_bad : (left info from end link : ℕ) (blocks : List (List ℕ)) (read : List ℕ) → 0 < link → is_unread read link ≡ false
    → later_segments left blocks info read from end link ≡ Fault (BadLink from) ∷ []
unfolding later_segments
later_bad left info from end zero blocks read some bad = absurd (omega arith)
later_bad zero info from end (suc n) blocks read some bad = refl
later_bad (suc left) info from end (suc n) blocks read some bad = rw bad refl

pub later_next : (left info from end link : ℕ) (blocks : List (List ℕ)) (read : List ℕ) → 0 < left → 0 < link → is_unread read link ≡ true
    → later_segments left blocks info read from end link
    ≡ later_segment info end link (block blocks link) ++ later_segments (left - 1) blocks info (link ∷ read) link (segment_end (block blocks link)) (word (block blocks link) 2)
unfolding later_segments
later_next left info from end zero blocks read more some unread = absurd (omega arith)
later_next zero info from end (suc n) blocks read more some unread = absurd (omega arith)
later_next (suc left) info from end (suc n) blocks read more some unread =
    let less : suc left - 1 ≡ left = omega arith in rw (unread, less) refl

pub unread_high : (read : List ℕ) (link : ℕ) → 7 ≤ link → is_unread read link ≡ false
unread_high read link high = rw (le-ltb link 7 high) refl

pub unread_seen : (read : List ℕ) (link : ℕ) → contains read link ≡ true → is_unread read link ≡ false
unread_seen read link seen = rw seen (elim (ltb link 7) as (λ b. (b && false) ≡ false) [ true ↦ refl | false ↦ refl ])

pub unread_new : (read : List ℕ) (link : ℕ) → link < 7 → contains read link ≡ false → is_unread read link ≡ true
unread_new read link low new = rw (lt-ltb link 7 low, new) refl

-- the first segment was read
pub seen_first : (k : ℕ) → k < 7 → get_or (false ∷ true ∷ false ∷ false ∷ false ∷ false ∷ false ∷ []) k false ≡ contains (1 ∷ []) k
seen_first zero low = refl
seen_first (suc zero) low = refl
seen_first (suc (suc zero)) low = refl
seen_first (suc (suc (suc zero))) low = refl
seen_first (suc (suc (suc (suc zero)))) low = refl
seen_first (suc (suc (suc (suc (suc zero))))) low = refl
seen_first (suc (suc (suc (suc (suc (suc zero)))))) low = refl
seen_first (suc (suc (suc (suc (suc (suc (suc k))))))) low = absurd (omega arith)

-- one more was read
pub seen_more : (part_at : List Bool) (read : List ℕ) (link k : ℕ) → link < length part_at → get_or part_at k false ≡ contains read k → get_or (set part_at link true) k false ≡ contains (link ∷ read) k
seen_more seen read link k inside same = elim (eqb_tells link k) [
  | inl here ↦ rw (here.0, ← here.1) (get_or-set_same seen link true false inside)
  | inr other ↦ let there : k ≢ link = λ e. other.1 (sym e) in rw other.0 (get_or-set_other seen link k true false there ∙ same)
]

-- the parts so far, with those of one segment more
pub later_more : (left info from end next link then : ℕ) (blocks : List (List ℕ)) (read words : List ℕ) (out new all : List Part) → 0 < left → 0 < link → is_unread read link ≡ true
    → slice_get blocks link ≡ Some words → new ≡ out ++ later_segment info end link words → next ≡ segment_end words → then ≡ word words 2
    → out ++ later_segments left blocks info read from end link ≡ all
    → new ++ later_segments (left - 1) blocks info (link ∷ read) link next then ≡ all
later_more left info from end next link then blocks read words out new all more some unread is put next_is then_is before =
    let here : block blocks link ≡ words = get_or_from_slice_get blocks link words [] is in
    rw (put, next_is, then_is, ← here)
    (append_assoc out (later_segment info end link (block blocks link)) (later_segments (left - 1) blocks info (link ∷ read) link (segment_end (block blocks link)) (word (block blocks link) 2))
    ∙ ap (λ l. out ++ l) (sym (later_next left info from end link blocks read more some unread)) ∙ before)

-- ## Answers

-- what holds on Ok, by what the call said
pub on_ok : {A E : Type 0} (r : Result A E) (P Q : Type 0) → OnOk r P → (P → Q) → OnOk r Q
on_ok (Ok x) P Q p f = f p
on_ok (Err e) P Q p f = tt

-- a word that was read
pub word_read : (words : List ℕ) (k x : ℕ) → k < length words → x ≡ get_or words k x → x ≡ word words k
word_read words k x inside is = is ∙ get_or_default_zero words k x inside

-- no segment more
pub later_done : (left info from end link : ℕ) (blocks : List (List ℕ)) (read : List ℕ) (out all : List Part) → link ≡ 0
    → out ++ later_segments left blocks info read from end link ≡ all → out ≡ all
later_done left info from end link blocks read out all none before =
    sym (append-nil out) ∙ ap (λ l. out ++ l) (sym (later_end left info from end blocks read)) ∙ (rw none at before)
