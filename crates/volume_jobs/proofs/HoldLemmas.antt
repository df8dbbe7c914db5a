-- The beginning of a job that assembles.
use Rattle.std.proofs.Common.{◌≡◌, ◌∙◌, ℕ, zero, suc, ◌+◌, ◌*◌, ◌<◌, ◌≤◌, true, false, true≢false, Option, Some, None, List, [], ◌∷◌, ◌++◌, length, take, get_or, slice_set, Err, refl, ap, sym, subst, add-one, arith, inl, inr}
use Rattle.std.specs.Prelude.{◌⊎◌}
use Rattle.std.proofs.lemmas.Bool.Decides.{leb_tells}
use Rattle.std.specs.FinMap.{get}
use Rattle.os8_dir.specs.Entries.{contains, IsNamed}
use Rattle.os8_dir.specs.Files.{Files, files_of}
use Rattle.os8_files.specs.Holds.{times}
use Rattle.os8_files.specs.Mounted.{MountState}
use Rattle.os8_dir.specs.declared.file_faults.FileFault.TheVariants as file
use Rattle.pal_blocks.specs.Blocks.{blocks_in, blocks_among, blocks_of_each, AreFiles, assembling_turns}
use Rattle.pal_blocks.specs.Progress.{IsAssembling}
use Rattle.pal_blocks.specs.declared.assembling.Assembling as parts
use Rattle.volume_jobs.specs.Sources.{names_of, AreFirst}
use Rattle.volume_jobs.specs.Steps.{without_holds, HasHeld, HoldsFirst, HoldsNext, HoldsAgain, TakesNext, TakesAll, HasBegunAssembly, BeginsAssembly}
use Rattle.volume_jobs.specs.State.{words_or, words_in, IsIn, AreIn, IsOneOut}
use Rattle.volume_jobs.specs.declared.faults.JobFault.{JobFault}
use Rattle.volume_jobs.specs.declared.faults.JobFault.TheVariants as fault
use Rattle.volume_jobs.proofs.PlaceLemmas.{ReleasedLaw, times_without}
use Rattle.volume_jobs.proofs.SettledLemmas.{HeldLaw}
use Rattle.volume_jobs.proofs.SourceLemmas.{words_count}

-- ## Places

none_names : (places : List (Option ℕ)) → ((k : ℕ) → get_or places k None ≡ None) → names_of places ≡ []
none_names [] free = refl
none_names (None ∷ places) free = none_names places (λ k. free (suc k))
none_names (Some name ∷ places) free = absurd (never (free 0))
  where
    never : Some name ≡ None → ⊥
    never e = cc

none_first : (places : List (Option ℕ)) → ((k : ℕ) → get_or places k None ≡ None) → AreFirst places
none_first [] free = tt
none_first (None ∷ places) free = (none_names places (λ k. free (suc k)), none_first places (λ k. free (suc k)))
none_first (Some name ∷ places) free = absurd (never (free 0))
  where
    never : Some name ≡ None → ⊥
    never e = cc

pub none_taken : (old : MountState) (places : List (Option ℕ)) → ((k : ℕ) → get_or places k None ≡ None) → HasHeld old places old
none_taken old places free = record { taken = λ name. omega (arith, ap (λ l. times name l) (none_names places free)); others = refl }

no_name : (places : List (Option ℕ)) (k : ℕ) → names_of places ≡ [] → suc k ≡ length (names_of places) → ⊥
no_name places k none is = omega (arith, is, ap (λ (l : List ℕ). length l) none)

names_set : (places : List (Option ℕ)) (k name : ℕ) → AreFirst places → k ≡ length (names_of places) → k < length places → names_of (slice_set places k (Some name)) ≡ names_of places ++ name ∷ []
names_set [] k name first is inside = absurd (omega (arith, inside))
names_set (None ∷ places) zero name first is inside = ap (λ l. name ∷ l) first.0 ∙ ap (λ l. l ++ name ∷ []) (sym first.0)
names_set (None ∷ places) (suc k) name first is inside = absurd (no_name places k first.0 is)
names_set (Some other ∷ places) zero name first is inside = absurd (omega (arith, is))
names_set (Some other ∷ places) (suc k) name first is inside = ap (λ l. other ∷ l) (names_set places k name first (omega (arith, is)) (omega (arith, inside)))

first_set : (places : List (Option ℕ)) (k name : ℕ) → AreFirst places → k ≡ length (names_of places) → k < length places → AreFirst (slice_set places k (Some name))
first_set [] k name first is inside = absurd (omega (arith, inside))
first_set (None ∷ places) zero name first is inside = first.1
first_set (None ∷ places) (suc k) name first is inside = absurd (no_name places k first.0 is)
first_set (Some other ∷ places) zero name first is inside = absurd (omega (arith, is))
first_set (Some other ∷ places) (suc k) name first is inside = first_set places k name first (omega (arith, is)) (omega (arith, inside))

next_free : (places : List (Option ℕ)) (k : ℕ) → AreFirst places → k ≡ length (names_of places) → get_or places k None ≡ None
next_free [] k first is = refl
next_free (None ∷ places) zero first is = refl
next_free (None ∷ places) (suc k) first is = absurd (no_name places k first.0 is)
next_free (Some other ∷ places) zero first is = absurd (omega (arith, is))
next_free (Some other ∷ places) (suc k) first is = next_free places k first (omega (arith, is))

-- ## One file more

words_more : (files : Files) (names : List ℕ) (name : ℕ) → words_in files (names ++ name ∷ []) ≡ words_in files names ++ words_or (get files name) ∷ []
words_more files [] name = refl
words_more files (other ∷ names) name = ap (λ l. words_or (get files other) ∷ l) (words_more files names name)

there_more : (files : Files) (names : List ℕ) (name : ℕ) → AreIn files names → IsIn files name → AreIn files (names ++ name ∷ [])
there_more files [] name there more = (more, tt)
there_more files (other ∷ names) name there more = (there.0, there_more files names name there.1 more)

whole_more : (sources : List (List ℕ)) (words : List ℕ) → AreFiles sources → 256 * blocks_in words ≡ length words → 0 < blocks_in words → AreFiles (sources ++ words ∷ [])
whole_more [] words are whole some = (whole, some, tt)
whole_more (other ∷ sources) words are whole some = (are.0, are.1, whole_more sources words are.2 whole some)

each_more : (sources : List (List ℕ)) (words : List ℕ) → blocks_of_each (sources ++ words ∷ []) ≡ blocks_of_each sources ++ blocks_in words ∷ []
each_more [] words = refl
each_more (other ∷ sources) words = ap (λ l. blocks_in other ∷ l) (each_more sources words)

among_more : (sources : List (List ℕ)) (words : List ℕ) → blocks_among (sources ++ words ∷ []) ≡ blocks_among sources + blocks_in words
among_more [] words = omega arith
among_more (other ∷ sources) words = omega (arith, among_more sources words)

length_more : (names : List ℕ) (name : ℕ) → length (names ++ name ∷ []) ≡ length names + 1
length_more [] name = refl
length_more (other ∷ names) name = omega (arith, length_more names name)

pub first_none : (files : Files) (places : List (Option ℕ)) (blocks : List ℕ) → ((k : ℕ) → get_or places k None ≡ None) → blocks ≡ [] → HoldsFirst files [] places blocks 0
first_none files places blocks free none = record {
  names_are = none_names places free;
  first = none_first places free;
  there = tt;
  whole = tt;
  each = none;
  sum = refl;
  most = omega arith;
}

first_more : (files : Files) (names : List ℕ) (name : ℕ) (places next : List (Option ℕ)) (blocks after : List ℕ) (k total count : ℕ) → HoldsFirst files names places blocks total → k ≡ length names → k < length places → HoldsNext files name places k blocks count next after → HoldsFirst files (names ++ name ∷ []) next after (total + count)
first_more files names name places next blocks after k total count first at inside more = record {
  names_are = ap names_of more.places ∙ names_set places k name first.first place inside ∙ ap (λ l. l ++ name ∷ []) first.names_are;
  first = subst AreFirst (sym more.places) (first_set places k name first.first place inside);
  there = there_more files names name first.there (more.file, more.there);
  whole = subst AreFiles (sym words) (whole_more (words_in files names) more.file.1 first.whole more.whole more.some);
  each = more.blocks ∙ ap (λ l. l ++ count ∷ []) first.each ∙ ap (λ n. blocks_of_each (words_in files names) ++ n ∷ []) more.counts ∙ sym (ap blocks_of_each words ∙ each_more (words_in files names) more.file.1);
  sum = omega (arith, first.sum, more.counts, ap blocks_among words, among_more (words_in files names) more.file.1);
  most = omega (arith, first.most, more.counts, more.most, length_more names name);
}
  where
    place : k ≡ length (names_of places)
    place = at ∙ sym (ap (λ (l : List ℕ). length l) first.names_are)

    words : words_in files (names ++ name ∷ []) ≡ words_in files names ++ more.file.1 ∷ []
    words = words_more files names name ∙ ap (λ o. words_in files names ++ words_or o ∷ []) more.there

take_more : (names : List ℕ) (k : ℕ) (other : ℕ) → k < length names → take (suc k) names ≡ take k names ++ get_or names k other ∷ []
take_more [] k other inside = absurd (omega (arith, inside))
take_more (name ∷ names) zero other inside = refl
take_more (name ∷ names) (suc k) other inside = ap (λ l. name ∷ l) (take_more names k other (omega (arith, inside)))

length_take : (names : List ℕ) (k : ℕ) → k ≤ length names → k ≡ length (take k names)
length_take [] zero inside = refl
length_take [] (suc k) inside = absurd (omega (arith, inside))
length_take (name ∷ names) zero inside = refl
length_take (name ∷ names) (suc k) inside = ap suc (length_take names k (omega (arith, inside)))

pub take_whole : (names : List ℕ) (k : ℕ) → length names ≤ k → take k names ≡ names
take_whole [] zero all = refl
take_whole [] (suc k) all = refl
take_whole (name ∷ names) zero all = absurd (omega (arith, all))
take_whole (name ∷ names) (suc k) all = ap (λ l. name ∷ l) (take_whole names k (omega (arith, all)))

-- the place that comes next is empty
pub free_next : (files : Files) (names : List ℕ) (places : List (Option ℕ)) (blocks : List ℕ) (k total : ℕ) → HoldsFirst files (take k names) places blocks total → k < length names → get_or places k None ≡ None
free_next files names places blocks k total first inside = next_free places k first.first (length_take names k (omega (arith, inside)) ∙ sym (ap (λ (l : List ℕ). length l) first.names_are))

-- one name more
pub held_next : (files : Files) (names : List ℕ) (name : ℕ) (places next : List (Option ℕ)) (blocks after : List ℕ) (k total count : ℕ) → HoldsFirst files (take k names) places blocks total → k < length names → k < length places → name ≡ get_or names k name → HoldsNext files name places k blocks count next after
    → HoldsFirst files (take (k + 1) names) next after (total + count)
held_next files names name places next blocks after k total count first inside room is more =
    subst (λ l. HoldsFirst files l next after (total + count)) (sym (ap (λ n. take n names) (add-one k) ∙ take_more names k name inside ∙ ap (λ n. take k names ++ n ∷ []) (sym is)))
    (first_more files (take k names) name places next blocks after k total count first (length_take names k (omega (arith, inside))) room more)

-- a file that isn't there is one of those
out_at : (files : Files) (names : List ℕ) (k other : ℕ) → k < length names → get files (get_or names k other) ≡ None → IsOneOut files names
out_at files [] k other inside out = absurd (omega (arith, inside))
out_at files (name ∷ names) zero other inside out = inl out
out_at files (name ∷ names) (suc k) other inside out = inr (out_at files names k other (omega (arith, inside)) out)

pub not_held : (files : Files) (names : List ℕ) (name : ℕ) (places next : List (Option ℕ)) (before after : List ℕ) (k : ℕ) (why : JobFault) → k < length names → name ≡ get_or names k name → TakesNext files name places k before (Err why) next after → TakesAll files names (Err why) next after
not_held files names name places next before after k (fault.File file.NotFound) inside is takes = out_at files names k name inside (ap (get files) (sym is) ∙ takes)
not_held files names name places next before after k fault.Memory inside is takes = tt
not_held files names name places next before after k (fault.File (file.NoRoom n)) inside is takes = absurd takes
not_held files names name places next before after k (fault.File file.DirectoryFull) inside is takes = absurd takes
not_held files names name places next before after k (fault.File (file.Busy n)) inside is takes = absurd takes
not_held files names name places next before after k (fault.File file.BadName) inside is takes = absurd takes
not_held files names name places next before after k (fault.File file.TooLong) inside is takes = absurd takes
not_held files names name places next before after k (fault.File file.TentativeOpen) inside is takes = absurd takes
not_held files names name places next before after k (fault.File file.Device) inside is takes = absurd takes
not_held files names name places next before after k (fault.File file.Stopped) inside is takes = absurd takes
not_held files names name places next before after k (fault.File file.Memory) inside is takes = absurd takes
not_held files names name places next before after k (fault.File file.NothingWritten) inside is takes = absurd takes
not_held files names name places next before after k fault.NoJob inside is takes = absurd takes
not_held files names name places next before after k fault.TooManyJobs inside is takes = absurd takes
not_held files names name places next before after k (fault.Asm why) inside is takes = absurd takes
not_held files names name places next before after k (fault.Tape why) inside is takes = absurd takes

-- ## Held or not

held_some : HeldLaw → (holds : List ℕ) (name : ℕ) → contains holds name ≡ true → 1 ≤ times name holds
held_some law holds name is = elim (leb_tells 1 (times name holds)) [
  | inl h ↦ h.1
  | inr h ↦ absurd (true≢false (sym is ∙ law name holds ∙ h.0))
]

held_none : HeldLaw → (holds : List ℕ) (name : ℕ) → contains holds name ≡ false → times name holds ≡ 0
held_none law holds name is = elim (leb_tells 1 (times name holds)) [
  | inl h ↦ absurd (true≢false (sym h.0 ∙ sym (law name holds) ∙ is))
  | inr h ↦ omega (arith, h.1)
]

some_held : HeldLaw → (holds : List ℕ) (name : ℕ) → 1 ≤ times name holds → contains holds name ≡ true
some_held law holds name some = elim (leb_tells 1 (times name holds)) [
  | inl h ↦ law name holds ∙ h.0
  | inr h ↦ absurd (omega (arith, h.1, some))
]

none_held : HeldLaw → (holds : List ℕ) (name : ℕ) → times name holds ≡ 0 → contains holds name ≡ false
none_held law holds name none = elim (leb_tells 1 (times name holds)) [
  | inl h ↦ absurd (omega (arith, h.1, none))
  | inr h ↦ law name holds ∙ h.0
]

-- ## The beginning

-- names are held as often as before
pub held_again : ReleasedLaw → (old mid new : MountState) (places : List (Option ℕ)) → HasHeld old places mid → new ≡ record mid { holds = without_holds places mid.holds } → HoldsAgain old new
held_again law old mid new places held gone = record {
  same = λ name. omega (arith, ap (λ (m : MountState). times name m.holds) gone, times_without law places mid.holds name (λ other. omega (arith, held.taken other)), held.taken name);
  others = gone ∙ ap (λ (m : MountState). record m { holds = without_holds places mid.holds }) held.others ∙ ap (λ (m : MountState). record old { holds = m.holds }) (sym gone);
}

-- files that can't be held
pub not_begun : (old new : MountState) (target : ℕ) (from : List ℕ) (places : List (Option ℕ)) (blocks : List ℕ) (why : JobFault) → HoldsAgain old new → TakesAll (files_of old.blocks) from (Err why) places blocks → BeginsAssembly old target from (Err why) new
not_begun old new target from places blocks (fault.File file.NotFound) again takes = (takes, again)
not_begun old new target from places blocks fault.Memory again takes = again
not_begun old new target from places blocks (fault.File (file.NoRoom n)) again takes = absurd takes
not_begun old new target from places blocks (fault.File file.DirectoryFull) again takes = absurd takes
not_begun old new target from places blocks (fault.File (file.Busy n)) again takes = absurd takes
not_begun old new target from places blocks (fault.File file.BadName) again takes = absurd takes
not_begun old new target from places blocks (fault.File file.TooLong) again takes = absurd takes
not_begun old new target from places blocks (fault.File file.TentativeOpen) again takes = absurd takes
not_begun old new target from places blocks (fault.File file.Device) again takes = absurd takes
not_begun old new target from places blocks (fault.File file.Stopped) again takes = absurd takes
not_begun old new target from places blocks (fault.File file.Memory) again takes = absurd takes
not_begun old new target from places blocks (fault.File file.NothingWritten) again takes = absurd takes
not_begun old new target from places blocks fault.NoJob again takes = absurd takes
not_begun old new target from places blocks fault.TooManyJobs again takes = absurd takes
not_begun old new target from places blocks (fault.Asm why) again takes = absurd takes
not_begun old new target from places blocks (fault.Tape why) again takes = absurd takes

-- the target is held, or among the files
pub is_busy : HeldLaw → (old mid : MountState) (target : ℕ) (from : List ℕ) (places : List (Option ℕ)) → HasHeld old places mid → names_of places ≡ from → contains mid.holds target ≡ true → (contains old.holds target ≡ true) ⊎ (contains from target ≡ true)
is_busy law old mid target from places held names busy = elim (leb_tells 1 (times target old.holds)) [
  | inl h ↦ inl (some_held law old.holds target h.1)
  | inr h ↦ inr (some_held law from target (omega (arith, held_some law mid.holds target busy, held.taken target, ap (λ l. times target l) names, h.1)))
]

-- the job is begun
pub begun_assembly : HeldLaw → (old mid : MountState) (target : ℕ) (from : List ℕ) (places : List (Option ℕ)) (blocks : List ℕ) (total : ℕ) (it : parts.Assembling) → IsNamed target → 0 < length from → HasHeld old places mid → HoldsFirst (files_of old.blocks) from places blocks total → contains mid.holds target ≡ false
    → ((sources : List (List ℕ)) → 0 < length sources → AreFiles sources → blocks ≡ blocks_of_each sources → IsAssembling sources it (assembling_turns (blocks_among sources)))
    → HasBegunAssembly old target from (record { to = target; holds = places; assembling = it }) (2 * total + 1) mid
begun_assembly law old mid target from places blocks total it named some held first free begins = record {
  there = first.there;
  unheld = none_held law old.holds target (omega (arith, none, held.taken target));
  other = other;
  held = held;
  names = first.names_are;
  is_target = refl;
  stands = record {
    there = subst (AreIn (files_of old.blocks)) (sym first.names_are) first.there;
    reads = subst (λ l. IsAssembling (words_in (files_of old.blocks) l) it (2 * total + 1)) (sym first.names_are)
        (subst (λ n. IsAssembling (words_in (files_of old.blocks) from) it n) (sym turns) (begins (words_in (files_of old.blocks) from) (omega (arith, some, words_count (files_of old.blocks) from)) first.whole first.each));
  };
  fits = record {
    more = omega arith;
    named = named;
    other = ap (λ l. contains l target) first.names_are ∙ other;
    first = first.first;
  };
  turns = turns;
}
  where
    none : times target mid.holds ≡ 0
    none = held_none law mid.holds target free

    other : contains from target ≡ false
    other = none_held law from target (omega (arith, none, held.taken target, ap (λ l. times target l) first.names_are))

    turns : 2 * total + 1 ≡ assembling_turns (blocks_among (words_in (files_of old.blocks) from))
    turns = ap (λ n. 2 * n + 1) first.sum
