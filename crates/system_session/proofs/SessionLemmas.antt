-- What entries come to.
use Rattle.std.proofs.Common.{◌≡◌, ℕ, ◌+◌, ◌<◌, nat_eq, false, true, true≢false, Bool, List, Option, Some, None, Result, Ok, Err, refl, ap, sym, subst, ◌∙◌, arith, inl, inr}
use Rattle.std.proofs.lemmas.Bool.Decides.{eqb_tells}
use Rattle.std.specs.FinMap.{insert, remove}
use Rattle.char_pack.specs.Texts.{is_storable, words_of_text}
use Rattle.os8_dir.specs.Entries.{contains}
use Rattle.os8_dir.specs.Files.{Files, files_of, above_of}
use Rattle.os8_dir.specs.Names.{parsed_name}
use Rattle.os8_dir.specs.Reading.{directory_of}
use Rattle.os8_files.specs.Calls.{DeletesFile, HasDeleted, IsLargest, IsOver}
use Rattle.os8_files.specs.Failed.{directory_or, Survives}
use Rattle.os8_files.specs.Mounted.{MountState, NewFile}
use Rattle.os8_files.specs.Puts.{PutsFile, PutFailed, HasPut, HasKept, blocks_filled, plain_file}
use Rattle.os8_dir.specs.declared.file_faults.FileFault.{FileFault}
use Rattle.os8_dir.specs.declared.file_faults.FileFault.TheVariants as file
use Rattle.os8_files.specs.Laws.{KeepsHolds}
use Rattle.volume_jobs.specs.Jobs.{Job, names_of_jobs, with_disturbance}
use Rattle.volume_jobs.specs.Settled as settled
use Rattle.volume_jobs.specs.Settled.{IsSettled}
use Rattle.volume_jobs.specs.declared.kinds.Job as kept
use Rattle.volume_jobs.specs.State as jobs
use Rattle.volume_jobs.specs.State.{IsCrowded, IsFull}
use Rattle.refusals.specs.Faults.{fault_of_file}
use Rattle.script8.specs.declared.entries.ConsoleEntry.{ConsoleEntry}
use Rattle.script8.specs.declared.entries.Entry.TheVariants as entry
use Rattle.script8.specs.declared.entries.FileEntry.TheVariants as filing
use Rattle.refusals.specs.declared.faults.SessionFault.{SessionFault}
use Rattle.refusals.specs.declared.faults.SessionFault.TheVariants as fault
use Rattle.script8.specs.declared.replies.Reply.{Reply}
use Rattle.script8.specs.declared.replies.Reply.TheVariants.{Line}
use Rattle.script8.specs.declared.replies.LineReply.TheVariants.{Stored, Deleted}
use Rattle.system_session.specs.Console.{IsBreakTooMany, TakesMemory, is_within_limits}
use Rattle.system_session.specs.ConsoleSteps.{ConsoleDoes}
use Rattle.system_session.specs.Files.{text_blocks}
use Rattle.system_session.specs.Session.{SessionView, state_of}
use Rattle.system_session.specs.SessionSteps.{DoesEntry}
use Rattle.system_session.specs.State.{Console, State}
use Rattle.system_session.specs.Work.{job_state}
use Rattle.system_session.proofs.DoesLemmas.{steady, steady_same, shown, replied, refused, undone, HasFailed, failed, after_same, stopped}

-- what is seen where the volume is another
abbrev over : SessionView → MountState → SessionView
over s v = record s { volume = v }

-- what is seen where the volume is another, and the jobs
abbrev pub over_with : SessionView → MountState → List (Option Job) → SessionView
over_with s v jobs = record s { volume = v; jobs = jobs }

-- the names that are held on a volume are those that jobs hold
abbrev pub HoldAlike : SessionView → Type 0
HoldAlike s = (name : ℕ) → contains s.volume.holds name ≡ contains (names_of_jobs s.jobs) name

abbrev state : Files → ℕ → ℕ → ℕ → Bool → List (Option Job) → Console → State
state f c l i t jobs console = record { files = f; capacity = c; limit = l; info = i; tight = t; jobs = jobs; console = console }

state_is : (f f' : Files) (c c' l l' i i' : ℕ) (t t' : Bool) (jobs : List (Option Job)) (console : Console) → f ≡ f' → c ≡ c' → l ≡ l' → i ≡ i' → t ≡ t'
    → state f c l i t jobs console ≡ state f' c' l' i' t' jobs console
state_is f f' c c' l l' i i' t t' jobs console ef ec el ei et = rw (ef, ec, el, ei, et) refl

abbrev work : Files → ℕ → ℕ → ℕ → Bool → List ℕ → List (Option Job) → jobs.State
work f c l i t core js = record { files = f; capacity = c; limit = l; info = i; tight = t; core = core; jobs = js }

work_is : (f f' : Files) (c c' l l' i i' : ℕ) (t t' : Bool) (core : List ℕ) (js : List (Option Job)) → f ≡ f' → c ≡ c' → l ≡ l' → i ≡ i' → t ≡ t'
    → work f c l i t core js ≡ work f' c' l' i' t' core js
work_is f f' c c' l l' i i' t t' core js ef ec el ei et = rw (ef, ec, el, ei, et) refl

pub ok_err : {A E : Type 0} (x : A) (e : E) → Ok x ≡ Err e → ⊥
ok_err x e is = cc

not_open : (v : MountState) (b : NewFile) → v.tentative ≡ None → v.tentative ≡ Some b → ⊥
not_open v b none other = cc

pub zero_is : (n : ℕ) → nat_eq n 0 ≡ true → n ≡ 0
zero_is n is = elim (eqb_tells n 0) [ inl h ↦ h.1 | inr h ↦ absurd (true≢false (sym is ∙ h.0)) ]

-- the bounds of refusals
crowded : (s : SessionView) (wanted n : ℕ) → n < wanted → IsLargest s.volume.blocks n → IsCrowded (job_state (state_of s)) wanted n
crowded s wanted n short is = record { short = short; least = is.least; most = is.most; tight = λ low. is.tight (zero_is _ low) }

full : (s : SessionView) (after : Files) → IsOver s.volume.blocks after → IsFull (job_state (state_of s)) after
full s after is = record { files = is.files; tight = λ low. is.tight (zero_is _ low) }

write_failed : (v v' : MountState) → v.stopped ≡ false → v' ≡ record v { blocks = v'.blocks; writes = v'.writes; failed_writes = v.failed_writes + 1; stopped = true; last = directory_or (directory_of v.blocks) } → Survives v.blocks v'.blocks → HasFailed v v'
write_failed v v' running is left = record {
  left = left;
  following = record {
    reads = omega (arith, ap (λ (m : MountState). m.failed_reads) is);
    writes = omega (arith, ap (λ (m : MountState). m.failed_writes) is);
  };
  more = omega (arith, ap (λ (m : MountState). m.failed_writes) is);
  running = running;
  stopped = ap (λ (m : MountState). m.stopped) is;
}

-- files that are kept are the same state
kept_state : (s : SessionView) (v : MountState) (blocks : ℕ) → HasKept s.volume blocks v → state_of (over s v) ≡ state_of s
kept_state s v blocks kept = state_is _ _ _ _ _ _ _ _ _ _ _ _ kept.files kept.capacity kept.limit kept.info (ap (λ n. nat_eq n 0) kept.above)

-- a volume that is the same
same_state : (s : SessionView) (v : MountState) → v ≡ s.volume → state_of (over s v) ≡ state_of s
same_state s v is = ap (λ (w : MountState). state_of (over s w)) is

-- a file that is not taken out
pub delete_refused : (s : SessionView) (v : MountState) (bytes : List ℕ) (name : ℕ) (why : FileFault) → parsed_name bytes ≡ Some name → s.volume.tentative ≡ None → HoldAlike s → DeletesFile s.volume name (Err why) v → DoesEntry (entry.Files (filing.Delete bytes)) s (Err (fault_of_file why)) (over s v)
delete_refused s v bytes name file.NotFound is none alike has = refused _ _ _ _ has.0.running (λ quiet. quiet) (steady_same _ _ has.2) (name, is, has.1) (same_state s v has.2)
delete_refused s v bytes name (file.Busy other) is none alike has = refused _ _ _ _ has.0.running (λ quiet. quiet) (steady_same _ _ has.4) (name, is, (has.1, has.2, sym (alike name) ∙ has.3)) (same_state s v has.4)
delete_refused s v bytes name file.DirectoryFull is none alike has = refused _ _ _ _ has.0.running (λ quiet. quiet) (steady_same _ _ has.5) (name, is, (has.1, sym (alike name) ∙ has.2, full s _ has.4)) (same_state s v has.5)
delete_refused s v bytes name file.Device is none alike has = failed _ _ _ (write_failed s.volume v has.ready.running has.others (inr (inr (inl (record { files = has.files; directory = has.written.0; part = has.written.2.part }))))) refl refl
delete_refused s v bytes name file.Stopped is none alike has = stopped _ _ _ ((name, is), same_state s v has.1) has.0 (after_same s.volume v has.1)
delete_refused s v bytes name file.Memory is none alike has = undone _ _ _ (λ halted. absurd (true≢false (sym halted ∙ has.0.running))) (name, is, has.1, sym (alike name) ∙ has.2) (steady_same _ _ has.3) (same_state s v has.3)
delete_refused s v bytes name file.TentativeOpen is none alike has = absurd (not_open s.volume has.1 none has.2)
delete_refused s v bytes name (file.NoRoom n) is none alike has = absurd has
delete_refused s v bytes name file.BadName is none alike has = absurd has
delete_refused s v bytes name file.TooLong is none alike has = absurd has
delete_refused s v bytes name file.NothingWritten is none alike has = absurd has

-- after a file that is taken out the jobs stand, once they are told
pub delete_settled : (old new : MountState) (js js' : List (Option kept.Job)) (name : ℕ) → ((old new : MountState) (js : List (Option kept.Job)) → IsSettled old js → KeepsHolds old new → new.tentative ≡ None → IsSettled new (settled.with_disturbance js))
    → ((old new : MountState) (name : ℕ) (result : Result (Unit {0}) FileFault) → DeletesFile old name result new → KeepsHolds old new) → IsSettled old js → js' ≡ settled.with_disturbance js → HasDeleted old name new → IsSettled new js'
delete_settled old new js js' name told kept settled is has =
    subst (λ l. IsSettled new l) (sym is) (told old new js settled (kept old new name (Ok tt) has) (ap (λ (m : MountState). m.tentative) has.others ∙ settled.none))

-- a file that is taken out
pub delete_done : (s : SessionView) (v : MountState) (js : List (Option Job)) (bytes : List ℕ) (name : ℕ) → parsed_name bytes ≡ Some name → HoldAlike s → js ≡ with_disturbance s.jobs → HasDeleted s.volume name v → DoesEntry (entry.Files (filing.Delete bytes)) s (Ok (Line (Deleted name))) (over_with s v js)
delete_done s v js bytes name is alike told has = replied _ _ _ _ has.ready.running (steady _ _ _ _ _ has.others) (
  is,
  (
    job_state (state_of (over_with s v js)),
    record {
      file = has.file;
      there = has.there;
      free = sym (alike name) ∙ has.free;
      others = work_is _ _ _ _ _ _ _ _ _ _ _ _ has.files has.capacity has.limit has.info refl ∙ ap (λ (l : List (Option Job)). record (job_state (state_of s)) { files = remove (files_of s.volume.blocks) name; tight = nat_eq (above_of v.blocks) 0; jobs = l }) told;
    },
    refl,
  ),
)

put_failed : (v v' : MountState) (name : ℕ) (words : List ℕ) → PutFailed v name words v' → HasFailed v v'
put_failed v v' name words has = record {
  left = elim has.failed [
    | inl file ↦ inl file.files
    | inr entry ↦ inr (inr (inl (record { files = entry.older; directory = entry.directory; part = entry.written.part })))
  ];
  following = record {
    reads = omega (arith, ap (λ (m : MountState). m.failed_reads) has.others);
    writes = omega (arith, ap (λ (m : MountState). m.failed_writes) has.others);
  };
  more = omega (arith, ap (λ (m : MountState). m.failed_writes) has.others);
  running = has.ready.running;
  stopped = ap (λ (m : MountState). m.stopped) has.others;
}

-- after a file that is put the jobs stand, once they are told
pub put_settled : (old new : MountState) (js js' : List (Option kept.Job)) (name : ℕ) (words : List ℕ) → ((old new : MountState) (js : List (Option kept.Job)) → IsSettled old js → KeepsHolds old new → new.tentative ≡ None → IsSettled new (settled.with_disturbance js))
    → ((old new : MountState) (name : ℕ) (words : List ℕ) (result : Result (Unit {0}) FileFault) → PutsFile old name words result new → KeepsHolds old new) → IsSettled old js → js' ≡ settled.with_disturbance js → HasPut old name words new → new.tentative ≡ None → IsSettled new js'
put_settled old new js js' name words told kept settled is has none = subst (λ l. IsSettled new l) (sym is) (told old new js settled (kept old new name words (Ok tt) has) none)

-- a text that is not stored
pub store_refused : (s : SessionView) (v : MountState) (bytes : List ℕ) (name : ℕ) (text words : List ℕ) (why : FileFault) → parsed_name bytes ≡ Some name → HoldAlike s → is_storable text ≡ true → words ≡ words_of_text text
    → PutsFile s.volume name words (Err why) v → DoesEntry (entry.Files (filing.Store bytes text)) s (Err (fault_of_file why)) (over s v)
store_refused s v bytes name text words (file.Busy other) is alike storable words_are has = refused _ _ _ _ has.0.running (λ quiet. quiet) (steady_same _ _ has.3) (name, is, storable, (has.1, sym (alike name) ∙ has.2)) (same_state s v has.3)
store_refused s v bytes name text words (file.NoRoom n) is alike storable words_are has = refused _ _ _ _ has.0.running (λ quiet. quiet) (steady_same _ _ has.4) (name, is, storable, (sym (alike name) ∙ has.1, crowded s _ n (subst (λ (l : List ℕ). n < blocks_filled l) words_are has.2) has.3)) (same_state s v has.4)
store_refused s v bytes name text words file.DirectoryFull is alike storable words_are has = refused _ _ _ _ has.0.running (λ quiet. quiet) (steady _ _ _ _ _ has.3.others) (name, is, storable, (sym (alike name) ∙ has.1, full s _ (subst (λ (l : List ℕ). IsOver s.volume.blocks (insert (files_of s.volume.blocks) name (plain_file s.volume l))) words_are has.2))) (kept_state s v _ has.3)
store_refused s v bytes name text words file.Device is alike storable words_are has = failed _ _ _ (put_failed s.volume v name _ has) refl refl
store_refused s v bytes name text words file.Stopped is alike storable words_are has = stopped _ _ _ (((name, is), storable), same_state s v has.1) has.0 (after_same _ _ has.1)
store_refused s v bytes name text words file.Memory is alike storable words_are has = undone _ _ _ (λ halted. absurd (true≢false (sym halted ∙ has.0.running))) (name, is, storable, sym (alike name) ∙ has.1) (steady _ _ _ _ _ has.2.others) (kept_state s v _ has.2)
store_refused s v bytes name text words file.NotFound is alike storable words_are has = absurd has
store_refused s v bytes name text words file.BadName is alike storable words_are has = absurd has
store_refused s v bytes name text words file.TooLong is alike storable words_are has = absurd has
store_refused s v bytes name text words file.TentativeOpen is alike storable words_are has = absurd has
store_refused s v bytes name text words file.NothingWritten is alike storable words_are has = absurd has

-- a text that can't be stored
pub no_text_stored : (s : SessionView) (bytes : List ℕ) (name : ℕ) (text : List ℕ) → parsed_name bytes ≡ Some name → is_storable text ≡ false → DoesEntry (entry.Files (filing.Store bytes text)) s (Err fault.BadText) s
no_text_stored s bytes name text is no_text = record {
  step = λ quiet. ((name, is, no_text), refl);
  later = record { reads = omega arith; writes = omega arith };
  files = λ running more. absurd (omega (arith, more));
  running = λ quiet. quiet.running;
  memory = λ is. cc;
  reply = tt;
  tells = λ running. record { running = running; reads = refl; writes = refl };
  stopped = λ halted. (((name, is), no_text), refl);
  done = tt;
}

-- a text for whose words memory was lacking
pub text_lacks : (s : SessionView) (bytes : List ℕ) (name : ℕ) (text : List ℕ) → parsed_name bytes ≡ Some name → HoldAlike s → is_storable text ≡ true → s.volume.stopped ≡ false → contains s.volume.holds name ≡ false → DoesEntry (entry.Files (filing.Store bytes text)) s (Err fault.Memory) s
text_lacks s bytes name text is alike storable running free = undone _ _ _ (λ halted. absurd (true≢false (sym halted ∙ running))) (name, is, storable, sym (alike name) ∙ free) (steady_same _ _ refl) refl

-- a text that is not stored, since it can't be, or a write has failed, or a job holds the name
pub unstored : (s : SessionView) (bytes : List ℕ) (name : ℕ) (text : List ℕ) (why : SessionFault) → parsed_name bytes ≡ Some name → HoldAlike s → (s.volume.stopped ≡ false → contains s.volume.holds name ≡ true) → (is_storable text ≡ false → why ≡ fault.BadText)
    → (is_storable text ≡ true → s.volume.stopped ≡ true → why ≡ fault.File file.Stopped) → (is_storable text ≡ true → s.volume.stopped ≡ false → why ≡ fault.File (file.Busy name)) → DoesEntry (entry.Files (filing.Store bytes text)) s (Err why) s
unstored s bytes name text why is alike held bad halts busy = by_text (is_storable text) (s.volume.stopped) refl refl
  where
    it : SessionFault → Type 0
    it f = DoesEntry (entry.Files (filing.Store bytes text)) s (Err f) s

    by_text : (storable halted : Bool) → is_storable text ≡ storable → s.volume.stopped ≡ halted → it why
    by_text false halted no_text stands = subst it (sym (bad no_text)) (no_text_stored s bytes name text is no_text)
    by_text true true storable stands = subst it (sym (halts storable stands)) (stopped _ _ _ (((name, is), storable), refl) stands (after_same _ _ refl))
    by_text true false storable stands = subst it (sym (busy storable stands)) (refused _ _ _ _ stands (λ quiet. quiet) (steady_same _ _ refl) (name, is, storable, (refl, sym (alike name) ∙ held stands)) refl)

-- a text that is stored
pub store_done : (s : SessionView) (v : MountState) (js : List (Option Job)) (bytes : List ℕ) (name : ℕ) (text words : List ℕ) (blocks : ℕ) → parsed_name bytes ≡ Some name → HoldAlike s → js ≡ with_disturbance s.jobs → is_storable text ≡ true → words ≡ words_of_text text → blocks ≡ text_blocks text
    → HasPut s.volume name words v → DoesEntry (entry.Files (filing.Store bytes text)) s (Ok (Line (Stored name blocks))) (over_with s v js)
store_done s v js bytes name text words blocks is alike told storable words_are blocks_are has = replied _ _ _ _ has.ready.running (steady _ _ _ _ _ has.others) (
  is,
  blocks_are,
  (
    job_state (state_of (over_with s v js)),
    (
      storable,
      record {
        free = sym (alike name) ∙ has.free;
        tight = λ fresh low. ap (λ n. nat_eq n 0) (has.tight fresh (zero_is _ low));
        others = work_is _ _ _ _ _ _ _ _ _ _ _ _ (has.files ∙ ap (λ (l : List ℕ). insert (files_of s.volume.blocks) name (plain_file s.volume l)) words_are) has.capacity has.limit has.info refl
            ∙ ap (λ (l : List (Option Job)). record (job_state (state_of s)) { files = insert (files_of s.volume.blocks) name (plain_file s.volume (words_of_text text)); tight = nat_eq (above_of v.blocks) 0; jobs = l }) told;
      },
    ),
    refl,
  ),
)

-- what the console shows is a step
pub console_shown : (it : ConsoleEntry) (s : SessionView) (reply : Reply) (console : Console) → is_within_limits it ≡ true → ConsoleDoes it s.console (Ok reply) console → DoesEntry (entry.Console it) s (Ok reply) (record s { console = console })
console_shown it s reply console within has = shown it s _ reply refl (within, has, refl)

-- a console that is the same
same_console : (s : SessionView) (console : Console) → console ≡ s.console → state_of (record s { console = console }) ≡ state_of s
same_console s console is = ap (λ (c : Console). record (state_of s) { console = c }) is

-- an entry of the console for which memory was lacking
pub console_undone : (it : ConsoleEntry) (s : SessionView) (console : Console) → is_within_limits it ≡ true → TakesMemory it → console ≡ s.console → DoesEntry (entry.Console it) s (Err fault.Memory) (record s { console = console })
console_undone it s console within takes is = undone (entry.Console it) s _ (λ halted. ((takes, within), same_console s console is)) (takes, within) (steady_same _ _ refl) (same_console s console is)

-- fewer or more steps than an entry may make are refused
pub console_unlimited : (it : ConsoleEntry) (s : SessionView) → is_within_limits it ≡ false → DoesEntry (entry.Console it) s (Err fault.BadLine) s
console_unlimited it s past = record {
  step = λ quiet. (past, refl);
  later = record { reads = omega arith; writes = omega arith };
  files = λ running more. absurd (omega (arith, more));
  running = λ quiet. quiet.running;
  memory = λ is. cc;
  reply = tt;
  tells = λ running. record { running = running; reads = refl; writes = refl };
  stopped = λ halted. (past, refl);
  done = tt;
}

-- a break too many is refused
pub console_full : (it : ConsoleEntry) (s : SessionView) (console : Console) → IsBreakTooMany s.console it → console ≡ s.console → DoesEntry (entry.Console it) s (Err fault.TooManyBreaks) (record s { console = console })
console_full it s console full is = record {
  step = λ quiet. (full, same_console s console is);
  later = record { reads = omega arith; writes = omega arith };
  files = λ running more. absurd (omega (arith, more));
  running = λ quiet. quiet.running;
  memory = λ is. cc;
  reply = tt;
  tells = λ running. record { running = running; reads = refl; writes = refl };
  stopped = λ halted. (full, same_console s console is);
  done = tt;
}

pub storable_is : (b : Bool) → (b ≡ false → ⊥) → b ≡ true
storable_is true other = refl
storable_is false other = absurd (other refl)
