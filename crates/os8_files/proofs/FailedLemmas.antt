-- What is left where a write fails.
use Rattle.std.proofs.Common.{◌≡◌, ◌≢◌, ℕ, ◌+◌, ◌-◌, ◌<◌, ◌≤◌, false, true, List, [], length, take, drop, slice_set, Option, Some, None, Result, Ok, refl, ap, sym, subst, ◌∙◌, arith, inl, inr, get_or-set_other}
use Rattle.std.specs.Prelude.{◌⊎◌}
use Rattle.std.specs.FinMap.{get}
use Rattle.std.proofs.Math.ListN.{length-set}
use Rattle.std.proofs.lemmas.List.{length-take-le, length-drop}
use Rattle.std.proofs.lemmas.Bool.Decides.{eqb_tells}
use Rattle.os8_dir.specs.declared.entries.DirEntry.{DirEntry}
use Rattle.os8_dir.specs.declared.faults.DirFault.{DirFault}
use Rattle.os8_dir.specs.Entries.{DirectoryState, IsTidy}
use Rattle.os8_dir.specs.Reading.{directory_of, block}
use Rattle.os8_dir.specs.Found.{FilePlace, IsDirectory, files_at, find, extent_of}
use Rattle.os8_dir.specs.Files.{Files, FileData, files_of, data_if_there, run, limit_of}
use Rattle.os8_dir.specs.Changes.{without_file, moved_down, directory_with, lowest_above, gap_below, file_lower, with_new_file, new_file}
use Rattle.os8_files.specs.Mounted.{MountState, NewFile, IsBegun}
use Rattle.volume_image.specs.Volume.{next_count}
use Rattle.os8_files.specs.Failed.{extent_or, directory_or, KeepsDirectory, StandInFull, with_list, lowest_or}
use Rattle.os8_files.specs.Calls.{IsReady, IsFree, IsThere, HasFailed, DeleteFailed, WriteFailed, PlaceFailed, MoveFailed, StopsInPart, counted_more, differing, list_with, files_with, entries_with}
use Rattle.os8_files.specs.WriteSteps.{KeepsHigh, HasBrokenOff, with_run}
use Rattle.os8_files.proofs.LookupLemmas.{find_within}
use Rattle.os8_files.proofs.MapLemmas.{files-same}
use Rattle.os8_files.proofs.WrittenLemmas.{run-high, held-kept}
use Rattle.os8_files.proofs.RoomLemmas.{room-inside}
use Rattle.os8_files.proofs.CallLemmas.{ReadsLow, FindsFiles, find-from}
use Rattle.os8_files.proofs.KeepLemmas.{high-keeps, written-keeps, moved-high-keeps, run-keeps}
use Rattle.os8_files.proofs.BoundLemmas.{IsMade, get-made}
use Rattle.os8_files.proofs.PlaceLemmas.{LieInside, LieOutside, some-same, write-inside, written-directory, written-files}
use Rattle.os8_files.proofs.RunLemmas.{length-with_run, block-with_run, run-beside, run-written, two-apart, find-some}
use Rattle.os8_files.proofs.CountLemmas.{differing-same}
use Rattle.os8_files.proofs.SqueezeLemmas.{LiesAbove, run-directory}

-- What is held of a file that is found.
abbrev words_or : Option FileData → List ℕ
words_or None = []
words_or (Some file) = file.1

held-at : (blocks : List (List ℕ)) (info : ℕ) (o : Option FilePlace) (file : FileData) → data_if_there blocks info o ≡ Some file → (f : FilePlace) × (o ≡ Some f) × (run blocks f.place f.size ≡ file.1)
held-at blocks info None file is = cc
held-at blocks info (Some f) file is = (f, refl, ap words_or is)

-- Files that a directory has over some blocks stand in full where only blocks 1 to 6 may differ.
pub stand : (blocks new : List (List ℕ)) (d : DirectoryState) (r : Result DirectoryState DirFault) (files : Files) → r ≡ Ok d → IsDirectory (length blocks) d → IsMade blocks d files → drop 7 new ≡ drop 7 blocks → StandInFull new r files
stand blocks new d r files read is made high name file there =
    let fs = files_at d.first d.entries in
    let at = held-at blocks d.info (find name fs) file (sym (ap (λ (m : Files). get m name) made ∙ get-made blocks d.info name fs) ∙ there) in
    let from = find-from name d.first (length blocks) fs at.0 is.apart at.1 in
    (at.0.place, at.0.size, ap (extent_or name) read ∙ ap extent_of at.1, run-high blocks new at.0.place at.0.size high (omega (arith, from, is.starts)) ∙ at.2)

pub delete-failed : (old new : MountState) (d : DirectoryState) (name : ℕ) → IsReady old → IsThere old name → IsFree old name → directory_of old.blocks ≡ Ok d → IsDirectory (length old.blocks) d → IsMade old.blocks d (files_of old.blocks) → HasFailed old new → KeepsHigh old.blocks new.blocks → StopsInPart old.blocks new.blocks (directory_with d (without_file name d.entries)) old.writes new.writes → DeleteFailed old name new
delete-failed old new d name ready there free kept is made failed keeps part = record {
  written = (directory_with d (without_file name d.entries), ap (with_list (λ (x : DirectoryState). without_file name x.entries)) kept, part);
  ready = ready;
  there = there;
  free = free;
  files = stand old.blocks new.blocks d (directory_of old.blocks) (files_of old.blocks) kept is made keeps.high;
  blocks = high-keeps old.blocks new.blocks keeps;
  others = failed;
}

pub write-failed : (reads : ReadsLow) (finds : FindsFiles) (lie : LieInside) (outside : LieOutside) (old new : MountState) (d : DirectoryState) (b : NewFile) (words : List ℕ) → old.stopped ≡ false → old.tentative ≡ Some b → directory_of old.blocks ≡ Ok d → IsDirectory (length old.blocks) d → IsBegun d b → b.blocks_written < b.room
    → new.blocks ≡ slice_set old.blocks (b.place + b.blocks_written) words → new.writes ≡ next_count old.writes → HasFailed old new → WriteFailed old new
write-failed reads finds lie outside old new d b words running was kept is lies short spoilt risen failed =
    let k = b.place + b.blocks_written in
    let inside = write-inside old.blocks d b is lies short in
    record {
      running = running;
      begun = b;
      was = was;
      short = short;
      files = record {
        kept = record {
          count = ap (λ (bs : List (List ℕ)). length bs) spoilt ∙ length-set old.blocks k words;
          segments = λ j low high. ap (λ bs. block bs j) spoilt ∙ get_or-set_other old.blocks k j words [] (omega (arith, inside.0, high));
          directory = ap (λ bs. directory_of bs) spoilt ∙ written-directory reads old.blocks k words (omega (arith, inside.0));
        };
        files = ap (λ bs. files_of bs) spoilt ∙ written-files reads finds lie outside old.blocks d b words kept is lies short;
      };
      blocks = written-keeps old.blocks new.blocks k words (omega (arith, inside.0)) spoilt;
      writes = risen;
      others = failed;
    }

pub place-failed : (old new : MountState) (d : DirectoryState) (b : NewFile) (info : List ℕ) → 0 < b.blocks_written → IsFree old b.name → entries_with b info old.blocks ≤ limit_of old.blocks → directory_of old.blocks ≡ Ok d → IsDirectory (length old.blocks) d → IsMade old.blocks d (files_of old.blocks)
    → IsDirectory (length old.blocks) (directory_with d (with_new_file d.first (new_file d b.name info b.place b.blocks_written) d.entries)) → IsMade old.blocks (directory_with d (with_new_file d.first (new_file d b.name info b.place b.blocks_written) d.entries)) (files_with old b info)
    → HasFailed old new → KeepsHigh old.blocks new.blocks → StopsInPart old.blocks new.blocks (directory_with d (with_new_file d.first (new_file d b.name info b.place b.blocks_written) d.entries)) old.writes new.writes → PlaceFailed old b info new
place-failed old new d b info some free fits kept is made next made-next failed keeps part = record {
  written = (directory_with d (with_new_file d.first (new_file d b.name info b.place b.blocks_written) d.entries), ap (with_list (λ (x : DirectoryState). with_new_file x.first (new_file x b.name info b.place b.blocks_written) x.entries)) kept, part);
  some = some;
  free = free;
  fits = fits;
  older = stand old.blocks new.blocks d (directory_of old.blocks) (files_of old.blocks) kept is made keeps.high;
  newer = stand old.blocks new.blocks (directory_with d (with_new_file d.first (new_file d b.name info b.place b.blocks_written) d.entries)) (list_with old b info) (files_with old b info)
      (ap (with_list (λ (x : DirectoryState). with_new_file x.first (new_file x b.name info b.place b.blocks_written) x.entries)) kept) next made-next keeps.high;
  blocks = high-keeps old.blocks new.blocks keeps;
  others = failed;
}

-- A file other than the one that is moved lies beside the blocks that are written.
beside-moved : LieInside → LieOutside → (volume name q gap n : ℕ) (d : DirectoryState) (r : LiesAbove d name gap) (h : FilePlace) → IsDirectory volume d → name ≢ q → find q (files_at d.first d.entries) ≡ Some h → n ≤ r.0.size → (h.place + h.size ≤ r.0.place - gap) ⊎ ((r.0.place - gap) + n ≤ h.place)
beside-moved lie outside volume name q gap n d r h is differ found few =
    let f = r.0 in
    let to = f.place - gap in
    let fs = files_at d.first d.entries in
    let some = find-some q d.first volume fs h is.apart found in
    let lain = lie to gap to gap _ r.1.2 (omega arith) (omega arith) in
    elim (two-apart name q d.first volume fs f h differ is.apart r.1.0 found) [
      | inl lower ↦ elim (outside to gap q d.first d.entries h lain found) [ inl under ↦ inl under | inr over ↦ absurd (omega (arith, over, lower, some, r.1.1)) ]
      | inr higher ↦ inr (omega (arith, higher, few, r.1.1))
    ]

-- Blocks of the file that is moved were written in part.
pub copy-failed : ReadsLow → FindsFiles → LieInside → LieOutside
    → (old new : MountState) (d : DirectoryState) (name gap : ℕ) → IsReady old → directory_of old.blocks ≡ Ok d → IsDirectory (length old.blocks) d → lowest_above d.entries ≡ Some (name, gap)
    → (r : LiesAbove d name gap) → HasBrokenOff old.blocks (r.0.place - gap) r.0.size new.blocks old.writes new.writes → new.reads ≡ counted_more r.0.size old.reads → HasFailed (record old { reads = new.reads }) new → MoveFailed old new
copy-failed reads finds lie outside old new d name gap ready kept is low r broken counts failed =
    let f = r.0 in
    let fs = files_at d.first d.entries in
    let to = f.place - gap in
    let ws = broken.run in
    let inside = room-inside to gap d.first d.entries r.1.2 in
    let high : 7 ≤ to = omega (arith, inside.0, is.starts) in
    let steady : directory_of new.blocks ≡ directory_of old.blocks = ap (λ bs. directory_of bs) broken.blocks ∙ run-directory reads old.blocks to ws high in
    let keeps : KeepsDirectory old.blocks new.blocks = record {
      count = ap (λ (bs : List (List ℕ)). length bs) broken.blocks ∙ length-with_run old.blocks to ws;
      segments = λ k low' up. ap (λ bs. block bs k) broken.blocks ∙ block-with_run old.blocks to ws k (omega (arith, high, up));
      directory = steady;
    } in
    let other : (q : ℕ) → name ≢ q → get (files_of new.blocks) q ≡ get (files_of old.blocks) q = λ q differ.
    finds new.blocks d q (steady ∙ kept)
    ∙ held-kept old.blocks new.blocks d.info (find q fs) (λ h found. ap (λ bs. run bs h.place h.size) broken.blocks ∙ run-beside old.blocks to ws h.place h.size (beside-moved lie outside (length old.blocks) name q gap (length ws) d r h is differ found broken.short))
    ∙ sym (finds old.blocks d q kept) in
    record {
      ready = ready;
      name = name;
      gap = gap;
      lowest = ap lowest_or kept ∙ low;
      place = f.place;
      size = f.size;
      was = ap (extent_or name) kept ∙ ap extent_of r.1.0;
      files = inl (
        record {
          kept = keeps;
          others = other;
          short = λ little. files-same (files_of old.blocks) (files_of new.blocks) (λ q. elim (eqb_tells name q) [
            | inl p ↦ ap (get (files_of new.blocks)) (sym p.1)
                ∙ finds new.blocks d name (steady ∙ kept)
                ∙ held-kept old.blocks new.blocks d.info (find name fs) (λ h found.
                let at : f ≡ h = some-same f h (sym r.1.0 ∙ found) in
                ap (λ bs. run bs h.place h.size) broken.blocks ∙ run-beside old.blocks to ws h.place h.size (inr (omega (arith, broken.short, little, r.1.1, ap (λ (x : FilePlace). x.place) at))))
                ∙ sym (finds old.blocks d name kept)
                ∙ ap (get (files_of old.blocks)) p.1
            | inr p ↦ other q p.1
          ]);
        },
        record { number = length ws; some = broken.some; few = broken.short; rise = broken.writes },
      );
      blocks = run-keeps old.blocks new.blocks to f.size ws broken.blocks broken.short high;
      reads = counts;
      others = failed;
    }

-- The files that the new list has over the blocks that were copied.
moved-made : FindsFiles → LieInside → LieOutside
    → (gaps : (es : List DirEntry) (name gap : ℕ) → IsTidy es → lowest_above es ≡ Some (name, gap) → (0 < gap) × (gap_below name es ≡ gap))
    → (there : (volume name : ℕ) (d : DirectoryState) → IsDirectory volume d → 0 < gap_below name d.entries → find name (files_at d.first (moved_down name d.entries)) ≡ file_lower (gap_below name d.entries) (find name (files_at d.first d.entries)))
    → (others : (name other first : ℕ) (es : List DirEntry) → name ≢ other → find other (files_at first (moved_down name es)) ≡ find other (files_at first es))
    → (old mid : List (List ℕ)) (d : DirectoryState) (name gap : ℕ) → directory_of old ≡ Ok d → IsDirectory (length old) d → lowest_above d.entries ≡ Some (name, gap)
    → (r : LiesAbove d name gap) → mid ≡ with_run old (r.0.place - gap) (take r.0.size (drop r.0.place old)) → IsMade mid (directory_with d (moved_down name d.entries)) (files_of old)
moved-made finds lie outside gaps there others old mid d name gap kept is low r copied =
    let f = r.0 in
    let fs = files_at d.first d.entries in
    let fs' = files_at d.first (moved_down name d.entries) in
    let ws = take f.size (drop f.place old) in
    let to = f.place - gap in
    let g = gaps d.entries name gap is.neat low in
    let within = find_within name d.first (length old) fs f is.apart r.1.0 in
    let long : length ws ≡ f.size = length-take-le f.size (drop f.place old) (omega (arith, length-drop f.place old, within)) in
    let lies : find name fs' ≡ file_lower gap (find name fs) = subst (λ n. find name fs' ≡ file_lower n (find name fs)) g.1 (there (length old) name d is (omega (arith, g.0, g.1))) in
    let moved : run mid to f.size ≡ run old f.place f.size =
    ap (λ bs. run bs to f.size) copied
    ∙ ap (λ n. run (with_run old to ws) to n) (sym long)
    ∙ run-written old to ws (omega (arith, long, within, r.1.1)) in
    sym (files-same (files_of old) _ (λ q. get-made mid d.info q fs' ∙ elim (eqb_tells name q) [
      | inl p ↦ ap (λ n. data_if_there mid d.info (find n fs')) (sym p.1)
          ∙ ap (data_if_there mid d.info) (lies ∙ ap (file_lower gap) r.1.0)
          ∙ ap (λ words. Some (take d.info f.info, words)) moved
          ∙ sym (finds old d name kept ∙ ap (data_if_there old d.info) r.1.0)
          ∙ ap (get (files_of old)) p.1
      | inr p ↦ ap (data_if_there mid d.info) (others name q d.first d.entries p.1)
          ∙ held-kept old mid d.info (find q fs) (λ h found. ap (λ bs. run bs h.place h.size) copied
          ∙ run-beside old to ws h.place h.size (beside-moved lie outside (length old) name q gap (length ws) d r h is p.1 found (omega (arith, long))))
          ∙ sym (finds old d q kept)
    ]))

-- The file was copied, and the new directory was written in part.
pub move-failed : ReadsLow → FindsFiles → LieInside → LieOutside
    → (gaps : (es : List DirEntry) (name gap : ℕ) → IsTidy es → lowest_above es ≡ Some (name, gap) → (0 < gap) × (gap_below name es ≡ gap))
    → (there : (volume name : ℕ) (d : DirectoryState) → IsDirectory volume d → 0 < gap_below name d.entries → find name (files_at d.first (moved_down name d.entries)) ≡ file_lower (gap_below name d.entries) (find name (files_at d.first d.entries)))
    → (others : (name other first : ℕ) (es : List DirEntry) → name ≢ other → find other (files_at first (moved_down name es)) ≡ find other (files_at first es))
    → (next : (volume name : ℕ) (d : DirectoryState) → IsDirectory volume d → IsDirectory volume (directory_with d (moved_down name d.entries)))
    → (old mid new : MountState) (d : DirectoryState) (name gap : ℕ) → IsReady old → directory_of old.blocks ≡ Ok d → IsDirectory (length old.blocks) d → lowest_above d.entries ≡ Some (name, gap)
    → (r : LiesAbove d name gap) → mid.blocks ≡ with_run old.blocks (r.0.place - gap) (take r.0.size (drop r.0.place old.blocks)) → mid ≡ record old { blocks = mid.blocks; reads = mid.reads; writes = mid.writes } → mid.reads ≡ counted_more r.0.size old.reads → mid.writes ≡ counted_more r.0.size old.writes
    → HasFailed mid new → KeepsHigh mid.blocks new.blocks → StopsInPart mid.blocks new.blocks (directory_with d (moved_down name d.entries)) mid.writes new.writes → MoveFailed old new
move-failed reads finds lie outside gaps there others next old mid new d name gap ready kept is low r copied same counts risen failed keeps stops =
    let f = r.0 in
    let to = f.place - gap in
    let ws = take f.size (drop f.place old.blocks) in
    let within = find_within name d.first (length old.blocks) (files_at d.first d.entries) f is.apart r.1.0 in
    let inside = room-inside to gap d.first d.entries r.1.2 in
    let long : length ws ≡ f.size = length-take-le f.size (drop f.place old.blocks) (omega (arith, length-drop f.place old.blocks, within)) in
    let count : length mid.blocks ≡ length old.blocks = ap (λ (bs : List (List ℕ)). length bs) copied ∙ length-with_run old.blocks to ws in
    let read : new.reads ≡ mid.reads = ap (λ (m : MountState). m.reads) failed in
    let high : 7 ≤ to = omega (arith, inside.0, is.starts) in
    let steady : directory_of mid.blocks ≡ directory_of old.blocks = ap (λ bs. directory_of bs) copied ∙ run-directory reads old.blocks to ws high in
    let part = stops.part in
    let under : (k : ℕ) → k ≤ 6 → block mid.blocks k ≡ block old.blocks k = λ k few. ap (λ bs. block bs k) copied ∙ block-with_run old.blocks to ws k (omega (arith, few, high)) in
    record {
      ready = ready;
      name = name;
      gap = gap;
      lowest = ap lowest_or kept ∙ low;
      place = f.place;
      size = f.size;
      was = ap (extent_or name) kept ∙ ap extent_of r.1.0;
      files = inr (
        stand mid.blocks new.blocks (directory_with d (moved_down name d.entries)) (with_list (λ (x : DirectoryState). moved_down name x.entries) (directory_of old.blocks)) (files_of old.blocks)
            (ap (with_list (λ (x : DirectoryState). moved_down name x.entries)) kept)
            (subst (λ n. IsDirectory n (directory_with d (moved_down name d.entries))) (sym count) (next (length old.blocks) name d is))
            (moved-made finds lie outside gaps there others old.blocks mid.blocks d name gap kept is low r copied)
            keeps.high,
        directory_with d (moved_down name d.entries),
        ap (with_list (λ (x : DirectoryState). moved_down name x.entries)) kept,
        record {
          part = record {
            number = part.number;
            taken = part.taken;
            low = part.low;
            below = part.below;
            above = λ k over few. part.above k over few ∙ under k few;
          };
          writes = stops.writes
              ∙ ap (λ j. next_count (counted_more j mid.writes)) (differing-same part.number old.blocks mid.blocks new.blocks (λ k few. under k (omega (arith, few, part.low))))
              ∙ ap (λ j. next_count (counted_more (differing part.number old.blocks new.blocks) j)) risen;
        },
      );
      blocks = moved-high-keeps old.blocks mid.blocks new.blocks to f.size ws copied long high keeps;
      reads = read ∙ counts;
      others = failed
          ∙ ap (λ (m : MountState). record m { blocks = new.blocks; writes = new.writes; failed_writes = m.failed_writes + 1; stopped = true; last = directory_or (directory_of mid.blocks) }) same
          ∙ ap (λ n. record old { blocks = new.blocks; reads = n; writes = new.writes; failed_writes = old.failed_writes + 1; stopped = true; last = directory_or (directory_of mid.blocks) }) (sym read)
          ∙ ap (λ l. record old { blocks = new.blocks; reads = new.reads; writes = new.writes; failed_writes = old.failed_writes + 1; stopped = true; last = directory_or l }) steady;
    }
