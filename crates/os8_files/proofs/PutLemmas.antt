-- What is left where a file is put.
use lib.Pointwise.{pointwise}
use Rattle.std.proofs.Common.{◌≡◌, ◌⊎◌, ℕ, zero, suc, ◌+◌, ◌/◌, ◌<◌, ◌≤◌, Bool, false, true, true≢false, nat_eq, if◌then◌else◌, List, [], ◌++◌, length, Option, Some, None, Result, Ok, Err, refl, ap, sym, subst, ◌∙◌, arith, add-one, inl, inr}
use Rattle.std.specs.FinMap.{get, insert}
use Rattle.volume_image.specs.Volume.{next_count}
use Rattle.os8_dir.specs.Files.{files_of, capacity_of, limit_of, above_of, of_directory, run}
use Rattle.os8_dir.specs.Entries.{IsNamed, contains}
use Rattle.os8_dir.specs.Names.{with_end_zeros}
use Rattle.os8_dir.specs.Reading.{directory_of, block}
use Rattle.os8_dir.specs.Changes.{fitting, with_new_file, new_file}
use Rattle.os8_files.specs.Mounted.{MountState, NewFile}
use Rattle.os8_files.specs.Failed.{KeepsDirectory, FoundAgain, StandInFull, IsWrittenInPart, extent_or, directory_or, with_list}
use Rattle.os8_files.specs.Service.{count_of}
use Rattle.os8_files.specs.Calls.{IsOf, IsOver, KeepsBlocks, HasWritten, HasEntered, HasFailed, WritesBlock, Enters, ClosesFile, HasClosed, PlaceFailed, RisesBy, info_of, new_held, entries_with, list_with, files_with, rooms_of, WithoutNewFile, counted_more, differing}
use Rattle.os8_files.specs.Puts.{HasPutWith, HasKept, PutFailedWith, PutsFileWith, file_with, blocks_filled, all_written, entries_put_with, list_put_with}
use Rattle.os8_files.specs.Steps.{IsBeginning, HasFilled, FillsFile}
use Rattle.os8_dir.specs.declared.file_faults.FileFault.{FileFault}
use Rattle.os8_dir.specs.declared.file_faults.FileFault.TheVariants.{NotFound, NoRoom, DirectoryFull, Busy, BadName, TooLong, TentativeOpen, Device, Stopped, Memory, NothingWritten}
use Rattle.os8_files.proofs.PlaceLemmas.{some-same}
use Rattle.os8_files.proofs.SurviveLemmas.{keeps-trans}

-- ## Counts

more-counted : (one two n : ℕ) → counted_more one (counted_more two n) ≡ counted_more (one + two) n
more-counted zero two n = ap (λ k. counted_more k n) none
  where
    none : two ≡ zero + two
    none = omega arith
more-counted (suc one) two n = ap next_count (more-counted one two n) ∙ ap (λ k. counted_more k n) next
  where
    next : suc (one + two) ≡ suc one + two
    next = omega arith

once-more : (k n : ℕ) → next_count (counted_more k n) ≡ counted_more (k + 1) n
once-more k n = ap (λ j. counted_more j n) (sym (add-one k))

few-differ : (m : ℕ) (old new : List (List ℕ)) → differing m old new ≤ m
few-differ zero old new = omega arith
few-differ (suc m) old new = few (few-differ m old new)
  where
    cases : (b : Bool) → differing m old new ≤ m → (if b then differing m old new else suc (differing m old new)) ≤ suc m
    cases true less = omega (arith, less)
    cases false less = omega (arith, less)

    few : differing m old new ≤ m → differing (suc m) old new ≤ suc m
    few less = cases (pointwise nat_eq (block old (suc m)) (block new (suc m))) less

-- the same blocks differ from those that are the same
differ-same : (m : ℕ) (old mid new : List (List ℕ)) → ((k : ℕ) → 1 ≤ k → k ≤ m → block mid k ≡ block old k) → differing m mid new ≡ differing m old new
differ-same zero old mid new same = refl
differ-same (suc m) old mid new same =
    ap (λ ws. if pointwise nat_eq ws (block new (suc m)) then differing m mid new else suc (differing m mid new)) (same (suc m) (omega arith) (omega arith))
    ∙ ap (λ j. if pointwise nat_eq (block old (suc m)) (block new (suc m)) then j else suc j) (differ-same m old mid new (λ k one low. same k one (omega (arith, low))))

-- ## Blocks that stay

-- one block more after some
kept-more : (old mid new : List (List ℕ)) (place written next : ℕ) → KeepsBlocks old mid place written → KeepsBlocks mid new next 1 → next ≡ place + written → KeepsBlocks old new place (written + 1)
kept-more old mid new place written next prefix more is = record {
  count = more.count ∙ prefix.count;
  first = more.first ∙ prefix.first;
  following = λ k high apart. more.following k high (one k apart) ∙ prefix.following k high (some k apart);
}
  where
    one : (k : ℕ) → (k < place) ⊎ (place + (written + 1) ≤ k) → (k < next) ⊎ (next + 1 ≤ k)
    one k (inl low) = inl (omega (arith, low, is))
    one k (inr high) = inr (omega (arith, high, is))

    some : (k : ℕ) → (k < place) ⊎ (place + (written + 1) ≤ k) → (k < place) ⊎ (place + written ≤ k)
    some k (inl low) = inl low
    some k (inr high) = inr (omega (arith, high))

-- blocks that stay where none after the directory's changes
kept-none : (old mid new : List (List ℕ)) (place size : ℕ) → KeepsBlocks old mid place size → KeepsBlocks mid new 0 0 → KeepsBlocks old new place size
kept-none old mid new place size prefix none = record {
  count = none.count ∙ prefix.count;
  first = none.first ∙ prefix.first;
  following = λ k high apart. none.following k high (inr (omega arith)) ∙ prefix.following k high apart;
}

-- more blocks may differ
kept-wider : (old new : List (List ℕ)) (place less size : ℕ) → less ≤ size → KeepsBlocks old new place less → KeepsBlocks old new place size
kept-wider old new place less size few kept = record { count = kept.count; first = kept.first; following = λ k high apart. kept.following k high (out k apart) }
  where
    out : (k : ℕ) → (k < place) ⊎ (place + size ≤ k) → (k < place) ⊎ (place + less ≤ k)
    out k (inl low) = inl low
    out k (inr high) = inr (omega (arith, high, few))

-- ## Blocks are written

-- a file that was begun has no block
pub filled_none : (m : MountState) (token blocks : ℕ) (b : IsBeginning m token blocks) → HasFilled m b.begun [] 0 m
filled_none m token blocks b = record {
  was = b.was;
  text = refl;
  kept = record { count = refl; segments = λ k low high. refl; directory = refl };
  others_kept = record { count = refl; first = refl; following = λ k high apart. refl };
  files = refl;
  capacity = refl;
  limit = refl;
  info = refl;
  above = refl;
  writes = refl;
  others = ap (λ (t : Option NewFile). record m { tentative = t }) (b.was ∙ ap (λ n. Some (record { name = b.begun.name; place = b.begun.place; room = b.begun.room; blocks_written = n })) b.none);
}

-- the file that is being written, after some blocks
pub begun_now : (old : MountState) (begun : NewFile) (prefix : List ℕ) (written : ℕ) (mid : MountState) → HasFilled old begun prefix written mid → mid.tentative ≡ Some (record { name = begun.name; place = begun.place; room = begun.room; blocks_written = written })
begun_now old begun prefix written mid done = ap (λ (m : MountState). m.tentative) done.others

-- one more block
pub filled_more : (old : MountState) (begun : NewFile) (prefix words : List ℕ) (written : ℕ) (mid new : MountState) → HasFilled old begun prefix written mid → HasWritten mid words new → HasFilled old begun (prefix ++ words) (written + 1) new
filled_more old begun prefix words written mid new done more = record {
  was = done.was;
  text = ap (λ (b : NewFile). run new.blocks b.place (b.blocks_written + 1)) (sym same) ∙ more.text ∙ ap (λ (b : NewFile). run mid.blocks b.place b.blocks_written ++ words) same ∙ ap (λ l. l ++ words) done.text;
  kept = keeps-trans old.blocks mid.blocks new.blocks done.kept more.kept;
  others_kept = kept-more old.blocks mid.blocks new.blocks begun.place written _ done.others_kept more.others_kept (ap (λ (b : NewFile). b.place + b.blocks_written) same);
  files = more.files ∙ done.files;
  capacity = more.capacity ∙ done.capacity;
  limit = more.limit ∙ done.limit;
  info = more.info ∙ done.info;
  above = more.above ∙ done.above;
  writes = ap (λ (m : MountState). m.writes) more.others ∙ ap next_count done.writes ∙ once-more written old.writes;
  others = more.others ∙ ap (λ (b : NewFile). record mid { blocks = new.blocks; writes = next_count mid.writes; tentative = Some (record { name = b.name; place = b.place; room = b.room; blocks_written = b.blocks_written + 1 }) }) same ∙ ap (λ (m : MountState). record m { blocks = new.blocks; writes = next_count mid.writes; tentative = Some (record { name = begun.name; place = begun.place; room = begun.room; blocks_written = written + 1 }) }) done.others
      ∙ ap (λ n. record old { blocks = new.blocks; writes = n; tentative = Some (record { name = begun.name; place = begun.place; room = begun.room; blocks_written = written + 1 }) }) (sym (ap (λ (m : MountState). m.writes) more.others));
}
  where
    same : more.begun ≡ record { name = begun.name; place = begun.place; room = begun.room; blocks_written = written }
    same = some-same _ _ (sym more.was ∙ begun_now old begun prefix written mid done)

-- a write failed over blocks that have the directory of the first ones
failed-from : (old mid new : MountState) → KeepsDirectory old.blocks mid.blocks → mid ≡ record old { blocks = mid.blocks; writes = mid.writes } → HasFailed mid new → HasFailed old new
failed-from old mid new kept is failed =
    failed
    ∙ ap (λ (m : MountState). record m { blocks = new.blocks; writes = new.writes; failed_writes = m.failed_writes + 1; stopped = true; last = directory_or (directory_of mid.blocks) }) is
    ∙ ap (λ r. record old { blocks = new.blocks; writes = new.writes; failed_writes = old.failed_writes + 1; stopped = true; last = directory_or r }) kept.directory

-- a block that was not written
pub filled_not : (old : MountState) (begun : NewFile) (prefix words all : List ℕ) (written blocks : ℕ) (mid new : MountState) (why : FileFault) → old.stopped ≡ false → HasFilled old begun prefix written mid → blocks ≤ begun.room → written < blocks → WritesBlock mid words (Err why) new → FillsFile old all blocks (Err why) new
filled_not old begun prefix words all written blocks mid new TooLong running done fits short failed = absurd (past (ap (λ (b : NewFile). b.room) same) (ap (λ (b : NewFile). b.blocks_written) same) failed.3)
  where
    same : failed.1 ≡ record { name = begun.name; place = begun.place; room = begun.room; blocks_written = written }
    same = some-same _ _ (sym failed.2 ∙ begun_now old begun prefix written mid done)

    past : {r w : ℕ} → r ≡ begun.room → w ≡ written → r ≤ w → ⊥
    past one two full = omega (arith, one, two, full, fits, short)
filled_not old begun prefix words all written blocks mid new Device running done fits short failed = record {
  begun = begun;
  was = done.was;
  files = record { kept = keeps-trans old.blocks mid.blocks new.blocks done.kept failed.files.kept; files = failed.files.files ∙ done.files };
  others_kept = kept-wider old.blocks new.blocks begun.place (written + 1) blocks (omega (arith, short))
      (kept-more old.blocks mid.blocks new.blocks begun.place written _ done.others_kept failed.blocks (ap (λ (b : NewFile). b.place + b.blocks_written) same));
  writes = record { number = written + 1; some = omega arith; few = omega (arith, short); rise = failed.writes ∙ ap next_count done.writes ∙ once-more written old.writes };
  others = failed-from (WithoutNewFile old) (WithoutNewFile mid) (WithoutNewFile new) done.kept (ap WithoutNewFile done.others) (ap WithoutNewFile failed.others);
}
  where
    same : failed.begun ≡ record { name = begun.name; place = begun.place; room = begun.room; blocks_written = written }
    same = some-same _ _ (sym failed.was ∙ begun_now old begun prefix written mid done)
filled_not old begun prefix words all written blocks mid new Stopped running done fits short failed = absurd (true≢false (sym failed.0 ∙ ap (λ (m : MountState). m.stopped) done.others ∙ running))
filled_not old begun prefix words all written blocks mid new NotFound running done fits short failed = absurd failed
filled_not old begun prefix words all written blocks mid new (NoRoom n) running done fits short failed = absurd failed
filled_not old begun prefix words all written blocks mid new DirectoryFull running done fits short failed = absurd failed
filled_not old begun prefix words all written blocks mid new (Busy n) running done fits short failed = absurd failed
filled_not old begun prefix words all written blocks mid new BadName running done fits short failed = absurd failed
filled_not old begun prefix words all written blocks mid new TentativeOpen running done fits short failed = absurd failed
filled_not old begun prefix words all written blocks mid new Memory running done fits short failed = absurd failed
filled_not old begun prefix words all written blocks mid new NothingWritten running done fits short failed = absurd failed

-- ## The file is begun

-- a file that could not be begun
pub entered_not : (given : List ℕ) (old new : MountState) (name blocks : ℕ) (words : List ℕ) (why : FileFault) → IsNamed name → 0 < blocks → blocks ≡ blocks_filled words → old.tentative ≡ None → Enters old name blocks (Err why) new → PutsFileWith old name given words (Err why) new
entered_not given old new name blocks words BadName named some count none failed = absurd (unnamed (name / 68719476736) named failed.1)
  where
    unnamed : (n : ℕ) → 0 < n → n ≡ 0 → ⊥
    unnamed n more is = omega (arith, more, is)
entered_not given old new name blocks words TentativeOpen named some count none failed = absurd (open_none failed.2 (sym none ∙ failed.3))
  where
    open_none : (b : NewFile) → None ≡ Some b → ⊥
    open_none b is = cc
entered_not given old new name blocks words (Busy other) named some count none failed = (failed.0, failed.2, failed.3, failed.4)
entered_not given old new name blocks words (NoRoom n) named some count none failed = (failed.0, failed.2, subst (λ most. n < most) count (failed.5 some), failed.6, failed.7, subst (λ wish. fitting wish (rooms_of old.blocks) ≡ None) count failed.3)
entered_not given old new name blocks words Stopped named some count none failed = failed
entered_not given old new name blocks words NotFound named some count none failed = absurd failed
entered_not given old new name blocks words DirectoryFull named some count none failed = absurd failed
entered_not given old new name blocks words TooLong named some count none failed = absurd failed
entered_not given old new name blocks words Device named some count none failed = absurd failed
entered_not given old new name blocks words Memory named some count none failed = absurd failed
entered_not given old new name blocks words NothingWritten named some count none failed = absurd failed

-- a file that was begun
pub entered_beginning : (old new : MountState) (name blocks token : ℕ) (e : HasEntered old name blocks token new) → blocks ≤ e.room → IsBeginning new token blocks
entered_beginning old new name blocks token e fits = record {
  running = ap (λ (m : MountState). m.stopped) e.others ∙ e.ready.running;
  begun = record { name = name; place = e.place; room = e.room; blocks_written = 0 };
  was = ap (λ (m : MountState). m.tentative) e.others;
  name = sym e.token;
  none = refl;
  fits = fits;
}

-- its name
pub filled_of : (old m1 m2 : MountState) (name blocks token token' : ℕ) (words : List ℕ) (begun : NewFile) → HasEntered old name blocks token m1 → HasFilled m1 begun words blocks m2 → token' ≡ token → IsOf m2 token'
filled_of old m1 m2 name blocks token token' words begun e done same = (
  _,
  begun_now m1 begun words blocks m2 done,
  ap (λ (b : NewFile). b.name) (some-same _ _ (sym done.was ∙ ap (λ (m : MountState). m.tentative) e.others)) ∙ sym e.token ∙ sym same,
)

-- without the file that was begun all is as before
spent-entered : (old m1 : MountState) (name blocks token : ℕ) → HasEntered old name blocks token m1 → WithoutNewFile m1 ≡ old
spent-entered old m1 name blocks token e = ap WithoutNewFile e.others ∙ ap (λ (t : Option NewFile). record old { tentative = t }) (sym e.ready.none)

-- a file whose blocks were not all written is given up
pub filled_failed : (given : List ℕ) (old m1 m2 new : MountState) (name blocks token : ℕ) (words : List ℕ) (why : FileFault) → blocks ≡ blocks_filled words → HasEntered old name blocks token m1 → FillsFile m1 words blocks (Err why) m2 → new ≡ WithoutNewFile m2 → PutsFileWith old name given words (Err why) new
filled_failed given old m1 m2 new name blocks token words Device count e failed is = record {
  ready = e.ready;
  free = e.free;
  place = e.place;
  room = e.room;
  fits = subst (λ n. fitting n (rooms_of old.blocks) ≡ Some (e.place, e.room)) count e.fits;
  blocks = subst (λ n. KeepsBlocks old.blocks new.blocks e.place n) count
      (subst (λ p. KeepsBlocks old.blocks new.blocks p blocks) lies
      (subst (λ (m : MountState). KeepsBlocks old.blocks m.blocks failed.begun.place blocks) (sym is) (subst (λ (m : MountState). KeepsBlocks m.blocks m2.blocks failed.begun.place blocks) e.others failed.others_kept)));
  failed = inl (record {
    files = subst (λ (m : MountState). FoundAgain old.blocks m.blocks) (sym is) (subst (λ (m : MountState). FoundAgain m.blocks m2.blocks) e.others failed.files);
    writes = subst (λ n. RisesBy n old.writes new.writes) count (record { number = failed.writes.number; some = failed.writes.some; few = failed.writes.few; rise = risen });
  });
  writes = record { number = failed.writes.number; some = failed.writes.some; few = omega (arith, failed.writes.few, count); rise = risen };
  others = subst (λ (m : MountState). HasFailed old m) (sym is) (subst (λ (m : MountState). HasFailed m (WithoutNewFile m2)) (spent-entered old m1 name blocks token e) failed.others);
}
  where
    risen : new.writes ≡ counted_more failed.writes.number old.writes
    risen = ap (λ (m : MountState). m.writes) is ∙ failed.writes.rise ∙ ap (λ (m : MountState). counted_more failed.writes.number m.writes) e.others

    lies : failed.begun.place ≡ e.place
    lies = ap (λ (b : NewFile). b.place) (some-same _ _ (sym failed.was ∙ ap (λ (m : MountState). m.tentative) e.others))
filled_failed given old m1 m2 new name blocks token words Stopped count e failed is = absurd failed
filled_failed given old m1 m2 new name blocks token words NotFound count e failed is = absurd failed
filled_failed given old m1 m2 new name blocks token words (NoRoom n) count e failed is = absurd failed
filled_failed given old m1 m2 new name blocks token words DirectoryFull count e failed is = absurd failed
filled_failed given old m1 m2 new name blocks token words (Busy n) count e failed is = absurd failed
filled_failed given old m1 m2 new name blocks token words BadName count e failed is = absurd failed
filled_failed given old m1 m2 new name blocks token words TooLong count e failed is = absurd failed
filled_failed given old m1 m2 new name blocks token words TentativeOpen count e failed is = absurd failed
filled_failed given old m1 m2 new name blocks token words Memory count e failed is = absurd failed
filled_failed given old m1 m2 new name blocks token words NothingWritten count e failed is = absurd failed

-- ## The file is closed

-- it lies where it was begun
place_is : (old m1 m2 : MountState) (name blocks token : ℕ) (words : List ℕ) (begun : NewFile) (e : HasEntered old name blocks token m1) → HasFilled m1 begun words blocks m2 → begun.place ≡ e.place
place_is old m1 m2 name blocks token words begun e done = ap (λ (b : NewFile). b.place) (some-same _ _ (sym done.was ∙ ap (λ (m : MountState). m.tentative) e.others))

-- a file that was filled and is gone leaves the files as they were
spent_kept : (old m1 m2 new : MountState) (name blocks token : ℕ) (words : List ℕ) (begun : NewFile) → HasEntered old name blocks token m1 → HasFilled m1 begun words blocks m2 → new ≡ WithoutNewFile m2 → HasKept old blocks new
spent_kept old m1 m2 new name blocks token words begun e done is = record {
  place = e.place;
  room = e.room;
  fits = e.fits;
  blocks = subst (λ p. KeepsBlocks old.blocks new.blocks p blocks) (place_is old m1 m2 name blocks token words begun e done)
      (subst (λ (m : MountState). KeepsBlocks old.blocks m.blocks begun.place blocks) (sym is) (subst (λ (m : MountState). KeepsBlocks m.blocks m2.blocks begun.place blocks) e.others done.others_kept));
  kept = record {
    count = ap (λ (m : MountState). length m.blocks) is ∙ done.kept.count ∙ ap (λ (m : MountState). length m.blocks) e.others;
    segments = λ k low high. ap (λ (m : MountState). block m.blocks k) is ∙ done.kept.segments k low high ∙ ap (λ (m : MountState). block m.blocks k) e.others;
    directory = ap (λ (m : MountState). directory_of m.blocks) is ∙ done.kept.directory ∙ ap (λ (m : MountState). directory_of m.blocks) e.others;
  };
  files = ap (λ (m : MountState). files_of m.blocks) is ∙ done.files ∙ ap (λ (m : MountState). files_of m.blocks) e.others;
  capacity = ap (λ (m : MountState). capacity_of m.blocks) is ∙ done.capacity ∙ ap (λ (m : MountState). capacity_of m.blocks) e.others;
  limit = ap (λ (m : MountState). limit_of m.blocks) is ∙ done.limit ∙ ap (λ (m : MountState). limit_of m.blocks) e.others;
  info = ap (λ (m : MountState). info_of m.blocks) is ∙ done.info ∙ ap (λ (m : MountState). info_of m.blocks) e.others;
  above = ap (λ (m : MountState). above_of m.blocks) is ∙ done.above ∙ ap (λ (m : MountState). above_of m.blocks) e.others;
  writes = ap (λ (m : MountState). m.writes) is ∙ done.writes ∙ ap (λ (m : MountState). counted_more blocks m.writes) e.others;
  others = is ∙ ap WithoutNewFile done.others ∙ ap (λ (m : MountState). record (WithoutNewFile m) { blocks = m2.blocks; writes = m2.writes }) e.others ∙ ap (λ (t : Option NewFile). record old { blocks = m2.blocks; writes = m2.writes; tentative = t }) (sym e.ready.none) ∙ ap (λ (m : MountState). record old { blocks = m.blocks; writes = m.writes }) (sym is);
}

-- what was written is the file
new_is : (given : List ℕ) (old m1 m2 : MountState) (name blocks token : ℕ) (words : List ℕ) (begun b : NewFile) → HasEntered old name blocks token m1 → HasFilled m1 begun words blocks m2 → m2.tentative ≡ Some b → new_held m2 b given ≡ file_with old given words
new_is given old m1 m2 name blocks token words begun b e done was =
    ap (λ (x : NewFile). (with_end_zeros (info_of m2.blocks) given, run m2.blocks x.place x.blocks_written)) (some-same _ _ (sym was ∙ begun_now m1 begun words blocks m2 done))
    ∙ ap (λ (l : List ℕ). (with_end_zeros (info_of m2.blocks) given, l)) done.text
    ∙ ap (λ (n : ℕ). (with_end_zeros n given, words)) (done.info ∙ ap (λ (m : MountState). info_of m.blocks) e.others)

-- and it is all written
all_is : (old m1 m2 : MountState) (name blocks token : ℕ) (words : List ℕ) (begun b : NewFile) (e : HasEntered old name blocks token m1) → HasFilled m1 begun words blocks m2 → m2.tentative ≡ Some b → blocks ≡ blocks_filled words
    → b ≡ all_written name e.place e.room words
all_is old m1 m2 name blocks token words begun b e done was count =
    some-same _ _ (sym was ∙ begun_now m1 begun words blocks m2 done)
    ∙ ap (λ (x : NewFile). record { name = x.name; place = x.place; room = x.room; blocks_written = blocks }) (some-same _ _ (sym done.was ∙ ap (λ (m : MountState). m.tentative) e.others))
    ∙ ap (λ (n : ℕ). record { name = name; place = e.place; room = e.room; blocks_written = n }) count

-- the same number of blocks
sized : (old new : MountState) (blocks size : ℕ) → blocks ≡ size → HasKept old blocks new → HasKept old size new
sized old new blocks size is k = record {
  place = k.place;
  room = k.room;
  fits = subst (λ n. fitting n (rooms_of old.blocks) ≡ Some (k.place, k.room)) is k.fits;
  blocks = subst (λ n. KeepsBlocks old.blocks new.blocks k.place n) is k.blocks;
  kept = k.kept;
  files = k.files;
  capacity = k.capacity;
  limit = k.limit;
  info = k.info;
  above = k.above;
  writes = k.writes ∙ ap (λ n. counted_more n old.writes) is;
  others = k.others;
}

-- the same directory comes to the same list with a file
entries_are : (given : List ℕ) (one two : NewFile) (old new : List (List ℕ)) → one ≡ two → directory_of new ≡ directory_of old → entries_with one given new ≡ entries_with two given old
entries_are given one two old new is same =
    ap (of_directory (λ d. length (with_new_file d.first (new_file d one.name given one.place one.blocks_written) d.entries))) same ∙ ap (λ (b : NewFile). entries_with b given old) is

list_is : (given : List ℕ) (one two : NewFile) (old new : MountState) → one ≡ two → directory_of new.blocks ≡ directory_of old.blocks → list_with new one given ≡ list_with old two given
list_is given one two old new is same =
    ap (with_list (λ d. with_new_file d.first (new_file d one.name given one.place one.blocks_written) d.entries)) same ∙ ap (λ (b : NewFile). list_with old b given) is

-- ## The file is closed or not

-- the file that was filled is placed
closed_done : (given : List ℕ) (old m1 m2 new : MountState) (name blocks token : ℕ) (words : List ℕ) (begun : NewFile) → blocks ≡ blocks_filled words → HasEntered old name blocks token m1 → HasFilled m1 begun words blocks m2 → HasClosed m2 name given new → HasPutWith old name given words new
unfolding spent_kept
closed_done given old m1 m2 new name blocks token words begun count e filled has = record {
  ready = e.ready;
  free = e.free;
  files = has.files ∙ ap (λ h. insert (files_of m2.blocks) name h) (new_is given old m1 m2 name blocks token words begun has.begun e filled has.was) ∙ ap (λ fs. insert fs name (file_with old given words)) kept.files;
  place = e.place;
  room = e.room;
  fits = subst (λ n. fitting n (rooms_of old.blocks) ≡ Some (e.place, e.room)) count e.fits;
  few = omega (arith, has.fits, kept.limit, entries_are given has.begun _ old.blocks m2.blocks is kept.kept.directory);
  list = has.list ∙ ap (λ n. list_with m2 (record { name = n; place = has.begun.place; room = has.begun.room; blocks_written = has.begun.blocks_written }) given) (sym has.names) ∙ list_is given has.begun _ old m2 is kept.kept.directory;
  extent = has.place ∙ ap (λ (b : NewFile). Some (b.place, b.blocks_written)) is;
  blocks = subst (λ n. KeepsBlocks old.blocks new.blocks e.place n) count (kept-none old.blocks m2.blocks new.blocks e.place blocks kept.blocks has.blocks);
  written = record { directory = has.written.directory; read = has.written.read; segments = has.written.segments; unused = λ k more low. has.written.unused k more low ∙ kept.kept.segments k (omega (arith, more)) low };
  places = λ other differ runs. has.places other differ ∙ ap (extent_or other) kept.kept.directory;
  capacity = has.capacity ∙ kept.capacity;
  limit = has.limit ∙ kept.limit;
  info = has.info ∙ kept.info;
  tight = λ fresh low. has.tight (subst (λ fs. get fs name ≡ None) (sym kept.files) fresh) (kept.above ∙ low);
  writes = has.writes ∙ ap (λ n. counted_more n m2.writes) (differ-same 6 old.blocks m2.blocks new.blocks kept.kept.segments) ∙ ap (λ n. counted_more (differing 6 old.blocks new.blocks) n) (kept.writes ∙ ap (λ n. counted_more n old.writes) count);
  others = has.others ∙ ap (λ (m : MountState). record m { blocks = new.blocks; writes = new.writes }) kept.others;
}
  where
    kept : HasKept old blocks (WithoutNewFile m2)
    kept = spent_kept old m1 m2 (WithoutNewFile m2) name blocks token words begun e filled refl

    is : has.begun ≡ all_written name e.place e.room words
    is = all_is old m1 m2 name blocks token words begun has.begun e filled has.was count

-- the directory with it was not written
closed_not : (given : List ℕ) (old m1 m2 new : MountState) (name blocks token : ℕ) (words : List ℕ) (begun b : NewFile) → blocks ≡ blocks_filled words → HasEntered old name blocks token m1 → HasFilled m1 begun words blocks m2 → m2.tentative ≡ Some b
    → PlaceFailed (WithoutNewFile m2) b given new → PutFailedWith old name given words new
unfolding spent_kept
closed_not given old m1 m2 new name blocks token words begun b count e filled was has = record {
  ready = e.ready;
  free = e.free;
  place = e.place;
  room = e.room;
  fits = subst (λ n. fitting n (rooms_of old.blocks) ≡ Some (e.place, e.room)) count e.fits;
  blocks = subst (λ n. KeepsBlocks old.blocks new.blocks e.place n) count (kept-none old.blocks m2.blocks new.blocks e.place blocks kept.blocks has.blocks);
  failed = inr (record {
    few = omega (arith, has.fits, kept.limit, entries_are given b _ old.blocks m2.blocks is kept.kept.directory);
    older = subst (λ r. StandInFull new.blocks r (files_of old.blocks)) kept.kept.directory (subst (λ fs. StandInFull new.blocks (directory_of m2.blocks) fs) kept.files has.older);
    newer = subst (λ r. StandInFull new.blocks r (insert (files_of old.blocks) name (file_with old given words))) list (subst (λ fs. StandInFull new.blocks (list_with m2 b given) fs) files has.newer);
    directory = has.written.0;
    list = sym list ∙ has.written.1;
    written = record {
      part = record {
        number = part.number;
        taken = part.taken;
        low = part.low;
        below = part.below;
        above = λ k high few. part.above k high few ∙ kept.kept.segments k (omega (arith, high)) few;
      };
      writes = has.written.2.writes ∙ ap next_count (ap (λ n. counted_more n m2.writes) (differ-same part.number old.blocks m2.blocks new.blocks low) ∙ ap (counted_more (differing part.number old.blocks new.blocks)) (kept.writes ∙ ap (λ n. counted_more n old.writes) count));
    };
  });
  writes = record {
    number = suc (differing part.number m2.blocks new.blocks + blocks);
    some = omega arith;
    few = omega (arith, part.low, few-differ part.number m2.blocks new.blocks, count);
    rise = has.written.2.writes ∙ ap next_count (ap (λ n. counted_more (differing part.number m2.blocks new.blocks) n) kept.writes ∙ more-counted (differing part.number m2.blocks new.blocks) blocks old.writes);
  };
  others = failed-from old (WithoutNewFile m2) new kept.kept kept.others has.others;
}
  where
    kept : HasKept old blocks (WithoutNewFile m2)
    kept = spent_kept old m1 m2 (WithoutNewFile m2) name blocks token words begun e filled refl

    is : b ≡ all_written name e.place e.room words
    is = all_is old m1 m2 name blocks token words begun b e filled was count

    list : list_with m2 b given ≡ list_put_with old name e.place e.room given words
    list = list_is given b _ old m2 is kept.kept.directory

    files : files_with m2 b given ≡ insert (files_of old.blocks) name (file_with old given words)
    files =
        ap (λ (x : NewFile). insert (files_of m2.blocks) x.name (new_held m2 b given)) is
        ∙ ap (λ h. insert (files_of m2.blocks) name h) (new_is given old m1 m2 name blocks token words begun b e filled was)
        ∙ ap (λ fs. insert fs name (file_with old given words)) kept.files

    part : IsWrittenInPart m2.blocks new.blocks has.written.0
    part = has.written.2.part

    low : (k : ℕ) → 1 ≤ k → k ≤ part.number → block m2.blocks k ≡ block old.blocks k
    low k one few = kept.kept.segments k one (omega (arith, few, part.low))

-- the file that was filled is closed
pub closed : (given : List ℕ) (old m1 m2 new : MountState) (name blocks token : ℕ) (words : List ℕ) (begun : NewFile) (r : Result (Unit {0}) FileFault) → 0 < blocks → blocks ≡ blocks_filled words → HasEntered old name blocks token m1 → HasFilled m1 begun words blocks m2 → ClosesFile m2 name given r new → PutsFileWith old name given words r new
closed given old m1 m2 new name blocks token words begun (Ok done) some count e filled has = closed_done given old m1 m2 new name blocks token words begun count e filled has
closed given old m1 m2 new name blocks token words begun (Err NothingWritten) some count e filled has = absurd (written (ap (λ (b : NewFile). b.blocks_written) (some-same _ _ (sym has.1.was ∙ begun_now m1 begun words blocks m2 filled))) has.2)
  where
    written : {n : ℕ} → n ≡ blocks → n ≡ 0 → ⊥
    written one two = omega (arith, one, two, some)
closed given old m1 m2 new name blocks token words begun (Err (Busy other)) some count e filled has = absurd (true≢false (sym held ∙ e.free))
  where
    held : contains old.holds name ≡ true
    held = subst (λ (l : List ℕ). contains l name ≡ true) (ap (λ (m : MountState). m.holds) filled.others ∙ ap (λ (m : MountState). m.holds) e.others) has.4
closed given old m1 m2 new name blocks token words begun (Err DirectoryFull) some count e filled has = (
  e.ready,
  e.free,
  over,
  sized old new blocks (blocks_filled words) count (spent_kept old m1 m2 new name blocks token words begun e filled has.6),
  record { place = e.place; room = e.room; fits = subst (λ n. fitting n (rooms_of old.blocks) ≡ Some (e.place, e.room)) count e.fits; over = over_limit },
)
  where
    kept : HasKept old blocks (WithoutNewFile m2)
    kept = spent_kept old m1 m2 (WithoutNewFile m2) name blocks token words begun e filled refl

    over_limit : limit_of old.blocks < entries_put_with name e.place e.room given words old.blocks
    over_limit = omega (arith, has.4, kept.limit, entries_are given has.0 _ old.blocks m2.blocks (all_is old m1 m2 name blocks token words begun has.0 e filled has.1.was count) kept.kept.directory)

    files : insert (files_of m2.blocks) name (new_held m2 has.0 given) ≡ insert (files_of old.blocks) name (file_with old given words)
    files = ap (λ h. insert (files_of m2.blocks) name h) (new_is given old m1 m2 name blocks token words begun has.0 e filled has.1.was) ∙ ap (λ fs. insert fs name (file_with old given words)) kept.files

    over : IsOver old.blocks (insert (files_of old.blocks) name (file_with old given words))
    over = record {
      files = omega (arith, has.5.files, kept.limit, ap count_of files);
      tight = λ low. omega (arith, has.5.tight (kept.above ∙ low), kept.limit, ap count_of kept.files);
    }
closed given old m1 m2 new name blocks token words begun (Err Device) some count e filled has = closed_not given old m1 m2 new name blocks token words begun has.0 count e filled has.1.was has.3
closed given old m1 m2 new name blocks token words begun (Err Stopped) some count e filled has = absurd (true≢false (sym has.0 ∙ ap (λ (m : MountState). m.stopped) filled.others ∙ ap (λ (m : MountState). m.stopped) e.others ∙ e.ready.running))
closed given old m1 m2 new name blocks token words begun (Err Memory) some count e filled has = (e.ready, e.free, sized old new blocks (blocks_filled words) count (spent_kept old m1 m2 new name blocks token words begun e filled has.4))
closed given old m1 m2 new name blocks token words begun (Err NotFound) some count e filled has = absurd has
closed given old m1 m2 new name blocks token words begun (Err (NoRoom n)) some count e filled has = absurd has
closed given old m1 m2 new name blocks token words begun (Err BadName) some count e filled has = absurd has
closed given old m1 m2 new name blocks token words begun (Err TooLong) some count e filled has = absurd has
closed given old m1 m2 new name blocks token words begun (Err TentativeOpen) some count e filled has = absurd has
