-- What is left where a file is moved down.
use Rattle.std.proofs.Common.{◌≡◌, ◌≢◌, ℕ, ◌+◌, ◌-◌, ◌<◌, ◌≤◌, List, length, take, drop, Some, None, Ok, Err, ap, sym, subst, ◌∙◌, arith, inl, inr}
use Rattle.std.specs.Prelude.{◌↔◌}
use Rattle.std.specs.FinMap.{get}
use Rattle.std.proofs.lemmas.List.{length-take-le, length-drop}
use Rattle.std.proofs.lemmas.Bool.Decides.{eqb_tells}
use Rattle.os8_dir.specs.declared.entries.DirEntry.{DirEntry}
use Rattle.os8_dir.specs.Entries.{DirectoryState, total, IsTidy}
use Rattle.os8_dir.specs.Reading.{directory_of, block}
use Rattle.os8_dir.specs.Found.{FilePlace, IsDirectory, files_at, rooms_at, find, extent_of, above}
use Rattle.os8_dir.specs.Files.{files_of, data_if_there, run, above_of}
use Rattle.os8_dir.specs.Changes.{moved_down, directory_with, lowest_above, gap_below, file_lower, IsRoom}
use Rattle.os8_files.specs.Mounted.{MountState}
use Rattle.os8_files.specs.Calls.{IsReady, HasFailed, HasMoved, MoveMissed, MoveFailed, RisesBy, StopsInPart, Squeezes, counted_more, differing}
use Rattle.os8_files.specs.Failed.{with_list, lowest_or, extent_or}
use Rattle.os8_files.proofs.CountLemmas.{differing-same}
use Rattle.os8_files.specs.WriteSteps.{HasDirectory, HasBrokenOff, KeepsHigh, RewritesDirectory, CopiesBlocks, with_run}
use Rattle.os8_dir.specs.declared.file_faults.FileFault.{FileFault}
use Rattle.os8_dir.specs.declared.file_faults.FileFault.TheVariants.{NotFound, NoRoom, DirectoryFull, Busy, BadName, TooLong, TentativeOpen, Device, Stopped, Memory, NothingWritten}
use Rattle.os8_files.proofs.LookupLemmas.{find_within}
use Rattle.os8_files.proofs.MapLemmas.{files-same}
use Rattle.os8_files.proofs.WrittenLemmas.{run-high, held-kept}
use Rattle.os8_files.proofs.RoomLemmas.{room-inside}
use Rattle.os8_files.proofs.CallLemmas.{ReadsLow, FindsFiles, find-from}
use Rattle.os8_files.proofs.KeepLemmas.{moved-keeps, info-of}
use Rattle.os8_files.proofs.BoundLemmas.{LimitIs, CapacityIs, AboveIs}
use Rattle.os8_files.proofs.PlaceLemmas.{LieInside, LieOutside}
use Rattle.os8_files.proofs.RunLemmas.{length-with_run, block-with_run, run-beside, run-written, two-apart, find-some}

pub run-directory : (reads : ReadsLow) (blocks : List (List ℕ)) (place : ℕ) (ws : List (List ℕ)) → 7 ≤ place → directory_of (with_run blocks place ws) ≡ directory_of blocks
run-directory reads blocks place ws high = reads blocks (with_run blocks place ws) (length-with_run blocks place ws) (λ k low. block-with_run blocks place ws k (omega (arith, low, high)))

-- the file that is moved, with the empty below it
abbrev pub LiesAbove : DirectoryState → ℕ → ℕ → Type 0
LiesAbove d name gap = (f : FilePlace) × ((find name (files_at d.first d.entries) ≡ Some f) × (gap ≤ f.place) × IsRoom (f.place - gap) gap (rooms_at d.first d.entries))

pub lies-above : (gaps : (es : List DirEntry) (name gap : ℕ) → IsTidy es → lowest_above es ≡ Some (name, gap) → (0 < gap) × (gap_below name es ≡ gap))
    → (found : (volume name : ℕ) (d : DirectoryState) → IsDirectory volume d → 0 < gap_below name d.entries → (f : FilePlace) × ((find name (files_at d.first d.entries) ≡ Some f) × (gap_below name d.entries ≤ f.place) × IsRoom (f.place - gap_below name d.entries) (gap_below name d.entries) (rooms_at d.first d.entries)))
    → (volume name gap : ℕ) (d : DirectoryState) → IsDirectory volume d → lowest_above d.entries ≡ Some (name, gap) → LiesAbove d name gap
lies-above gaps found volume name gap d is low =
    let g = gaps d.entries name gap is.neat low in
    subst (λ n. LiesAbove d name n) g.1 (found volume name d is (omega (arith, g.0, g.1)))

pub some-above : AboveIs → (none : (es : List DirEntry) → IsTidy es → (lowest_above es ≡ None) ↔ (above es ≡ 0))
    → (blocks : List (List ℕ)) (d : DirectoryState) (name gap : ℕ) → directory_of blocks ≡ Ok d → IsDirectory (length blocks) d → lowest_above d.entries ≡ Some (name, gap) → 0 < above_of blocks
some-above aboves none blocks d name gap kept is low =
    let same = aboves blocks d kept in
    elim (eqb_tells (above d.entries) 0) [
      | inl zero-above ↦ let gone : lowest_above d.entries ≡ None = (none d.entries is.neat).1 zero-above.1 in let other = sym low ∙ gone in cc
      | inr more ↦ omega (arith, same, more.1)
    ]

-- A file's blocks were not copied.
pub copy-refused : (old new : MountState) (place size gap : ℕ) (fault : FileFault) → IsReady old → 0 < above_of old.blocks
    → (RisesBy size old.reads new.reads → MoveMissed old new)
    → (HasFailed (record old { reads = new.reads }) new → new.reads ≡ counted_more size old.reads → HasBrokenOff old.blocks (place - gap) size new.blocks old.writes new.writes → MoveFailed old new)
    → CopiesBlocks old place size gap (Err fault) new → Squeezes old (Err fault) new
copy-refused old new place size gap NotFound ready some missed failed copies = absurd copies
copy-refused old new place size gap (NoRoom n) ready some missed failed copies = absurd copies
copy-refused old new place size gap DirectoryFull ready some missed failed copies = absurd copies
copy-refused old new place size gap (Busy n) ready some missed failed copies = absurd copies
copy-refused old new place size gap BadName ready some missed failed copies = absurd copies
copy-refused old new place size gap TooLong ready some missed failed copies = absurd copies
copy-refused old new place size gap TentativeOpen ready some missed failed copies = absurd copies
copy-refused old new place size gap Device ready some missed failed copies = elim copies [
  | inl short ↦ inl (ready, short.0, missed short.1)
  | inr broken ↦ inr (failed broken.0 broken.1 broken.2)
]
copy-refused old new place size gap Stopped ready some missed failed copies = absurd copies
copy-refused old new place size gap Memory ready some missed failed copies = (ready, some, copies)
copy-refused old new place size gap NothingWritten ready some missed failed copies = absurd copies

-- The directory was not written.
pub rewrite-refused : (old mid new : MountState) (d : DirectoryState) (fault : FileFault) → (HasFailed mid new → KeepsHigh mid.blocks new.blocks → StopsInPart mid.blocks new.blocks d mid.writes new.writes → MoveFailed old new) → RewritesDirectory mid d (Err fault) new → Squeezes old (Err fault) new
rewrite-refused old mid new d NotFound failed is = absurd is
rewrite-refused old mid new d (NoRoom n) failed is = absurd is
rewrite-refused old mid new d DirectoryFull failed is = absurd is
rewrite-refused old mid new d (Busy n) failed is = absurd is
rewrite-refused old mid new d BadName failed is = absurd is
rewrite-refused old mid new d TooLong failed is = absurd is
rewrite-refused old mid new d TentativeOpen failed is = absurd is
rewrite-refused old mid new d Device failed is = inr (failed is.0 is.1 is.2)
rewrite-refused old mid new d Stopped failed is = absurd is
rewrite-refused old mid new d Memory failed is = absurd is
rewrite-refused old mid new d NothingWritten failed is = absurd is

pub moved-file : FindsFiles → LieInside → LieOutside → LimitIs → CapacityIs → AboveIs
    → (gaps : (es : List DirEntry) (name gap : ℕ) → IsTidy es → lowest_above es ≡ Some (name, gap) → (0 < gap) × (gap_below name es ≡ gap))
    → (fewer : (es : List DirEntry) (name gap : ℕ) → IsTidy es → lowest_above es ≡ Some (name, gap) → above (moved_down name es) + 1 ≡ above es)
    → (there : (volume name : ℕ) (d : DirectoryState) → IsDirectory volume d → 0 < gap_below name d.entries → find name (files_at d.first (moved_down name d.entries)) ≡ file_lower (gap_below name d.entries) (find name (files_at d.first d.entries)))
    → (others : (name other first : ℕ) (es : List DirEntry) → name ≢ other → find other (files_at first (moved_down name es)) ≡ find other (files_at first es))
    → (covered : (name : ℕ) (es : List DirEntry) → total (moved_down name es) ≡ total es)
    → (old mid new : MountState) (d : DirectoryState) (name gap : ℕ) → IsReady old → directory_of old.blocks ≡ Ok d → IsDirectory (length old.blocks) d → lowest_above d.entries ≡ Some (name, gap)
    → (r : LiesAbove d name gap) → mid.blocks ≡ with_run old.blocks (r.0.place - gap) (take r.0.size (drop r.0.place old.blocks)) → mid ≡ record old { blocks = mid.blocks; reads = mid.reads; writes = mid.writes } → mid.reads ≡ counted_more r.0.size old.reads → mid.writes ≡ counted_more r.0.size old.writes
    → HasDirectory mid (directory_with d (moved_down name d.entries)) new → HasMoved old name new
moved-file finds lie outside limits covers aboves gaps fewer there others covered old mid new d name gap ready kept is low r copied same counts writes done =
    let f = r.0 in
    let fs = files_at d.first d.entries in
    let d' = directory_with d (moved_down name d.entries) in
    let ws = take f.size (drop f.place old.blocks) in
    let to = f.place - gap in
    let g = gaps d.entries name gap is.neat low in
    let within = find_within name d.first (length old.blocks) fs f is.apart r.1.0 in
    let inside = room-inside to gap d.first d.entries r.1.2 in
    let below = r.1.1 in
    let high : 7 ≤ to = omega (arith, inside.0, is.starts) in
    let long : length ws ≡ f.size = length-take-le f.size (drop f.place old.blocks) (omega (arith, length-drop f.place old.blocks, within)) in
    let lain = lie to gap to gap (rooms_at d.first d.entries) r.1.2 (omega arith) (omega arith) in
    let lies : find name (files_at d.first (moved_down name d.entries)) ≡ file_lower gap (find name fs) = subst (λ n. find name (files_at d.first (moved_down name d.entries)) ≡ file_lower n (find name fs)) g.1 (there (length old.blocks) name d is (omega (arith, g.0, g.1))) in
    let moved : run new.blocks to f.size ≡ run old.blocks f.place f.size =
    run-high mid.blocks new.blocks to f.size done.high high
    ∙ ap (λ bs. run bs to f.size) copied
    ∙ ap (λ n. run (with_run old.blocks to ws) to n) (sym long)
    ∙ run-written old.blocks to ws (omega (arith, long, within, below)) in
    record {
      ready = ready;
      gap = gap;
      lowest = ap lowest_or kept ∙ low;
      place = f.place;
      size = f.size;
      list = done.read ∙ ap (with_list (λ (x : DirectoryState). moved_down name x.entries)) (sym kept);
      was = ap (extent_or name) kept ∙ ap extent_of r.1.0;
      moved = ap (extent_or name) done.read ∙ ap extent_of (lies ∙ ap (file_lower gap) r.1.0);
      places = λ other differ. ap (extent_or other) done.read ∙ ap extent_of (others name other d.first d.entries differ) ∙ sym (ap (extent_or other) kept);
      files = files-same (files_of old.blocks) (files_of new.blocks) (λ q. elim (eqb_tells name q) [
        | inl p ↦ ap (get (files_of new.blocks)) (sym p.1)
            ∙ finds new.blocks d' name done.read ∙ ap (data_if_there new.blocks d.info) (lies ∙ ap (file_lower gap) r.1.0)
            ∙ ap (λ words. Some (take d.info f.info, words)) moved
            ∙ sym (finds old.blocks d name kept ∙ ap (data_if_there old.blocks d.info) r.1.0)
            ∙ ap (get (files_of old.blocks)) p.1
        | inr p ↦ finds new.blocks d' q done.read ∙ ap (data_if_there new.blocks d.info) (others name q d.first d.entries p.1)
            ∙ held-kept old.blocks new.blocks d.info (find q fs) (λ h found.
            let from = find-from q d.first (length old.blocks) fs h is.apart found in
            let some = find-some q d.first (length old.blocks) fs h is.apart found in
            run-high mid.blocks new.blocks h.place h.size done.high (omega (arith, from, is.starts))
            ∙ ap (λ bs. run bs h.place h.size) copied
            ∙ run-beside old.blocks to ws h.place h.size (elim (two-apart name q d.first (length old.blocks) fs f h p.1 is.apart r.1.0 found) [
              | inl lower' ↦ elim (outside to gap q d.first d.entries h lain found) [ inl under ↦ inl under | inr over ↦ absurd (omega (arith, over, lower', some, below)) ]
              | inr higher ↦ inr (omega (arith, higher, long, below))
            ]))
            ∙ sym (finds old.blocks d q kept)
      ]);
      above = omega (arith, aboves new.blocks d' done.read, fewer d.entries name gap is.neat low, aboves old.blocks d kept);
      capacity = covers new.blocks d' done.read ∙ covered name d.entries ∙ sym (covers old.blocks d kept);
      limit = limits new.blocks d' done.read ∙ sym (limits old.blocks d kept);
      info = info-of new.blocks d' done.read ∙ sym (info-of old.blocks d kept);
      written = record { directory = d'; read = done.read; segments = done.segments; unused = λ k more few. done.unused k more ∙ ap (λ bs. block bs k) copied ∙ block-with_run old.blocks to ws k (omega (arith, few, high)) };
      blocks = moved-keeps old mid new d' to f.size ws copied long high done;
      reads = ap (λ (m : MountState). m.reads) done.others ∙ counts;
      writes = done.writes ∙ ap (λ n. counted_more n mid.writes) (differing-same 6 old.blocks mid.blocks new.blocks (λ k few. ap (λ bs. block bs k) copied ∙ block-with_run old.blocks to ws k (omega (arith, few, high)))) ∙ ap (counted_more (differing 6 old.blocks new.blocks)) writes;
      others = done.others ∙ ap (λ (m : MountState). record m { blocks = new.blocks; writes = new.writes }) same ∙ ap (λ n. record old { blocks = new.blocks; reads = n; writes = new.writes }) (sym (ap (λ (m : MountState). m.reads) done.others));
    }
