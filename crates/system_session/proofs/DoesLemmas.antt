-- What doing an entry comes to, by what happened to the volume: a lemma for each kind of answer, whatever the entry is.
use Rattle.std.proofs.Common.{◌≡◌, ◌≢◌, ℕ, ◌<◌, ◌≤◌, false, true, true≢false, List, Ok, Err, refl, ap, sym, ◌∙◌, arith, inr}
use Rattle.os8_files.specs.Failed.{Survives}
use Rattle.os8_files.specs.Mounted.{MountState}
use Rattle.os8_dir.specs.declared.file_faults.FileFault.{FileFault}
use Rattle.os8_dir.specs.declared.file_faults.FileFault.TheVariants as file
use Rattle.script8.specs.declared.entries.ConsoleEntry.{ConsoleEntry}
use Rattle.script8.specs.declared.entries.Entry.{Entry}
use Rattle.script8.specs.declared.entries.Entry.TheVariants as entry
use Rattle.refusals.specs.declared.faults.SessionFault.{SessionFault}
use Rattle.refusals.specs.declared.faults.SessionFault.TheVariants as fault
use Rattle.script8.specs.declared.replies.Reply.{Reply}
use Rattle.system_session.specs.Refusals.{MayRefuse, MayLack, after_refusal}
use Rattle.system_session.specs.Failing.{MayAnswerStopped}
use Rattle.system_session.specs.Session.{SessionView, state_of, NoCallFailed, IsSteadied, TellsBlockCalls}
use Rattle.system_session.specs.SessionSteps.{DoesEntry}
use Rattle.system_session.specs.System.{Answer, MayReply, ConsoleMayReply}

-- an answer that is a refusal, and one that is a reply
abbrev refusal : SessionFault → Answer
refusal why = Err why

abbrev reply_of : Reply → Answer
reply_of reply = Ok reply

pub not_memory : (why : FileFault) → refusal (fault.File why) ≢ Err fault.Memory
not_memory why is = cc

ok_not_memory : (reply : Reply) → reply_of reply ≢ Err fault.Memory
ok_not_memory reply is = cc

-- whether writes are stopped, and how many block calls failed, is as before
pub record IsSteady (old new : MountState) : Type 0 where
  pub stopped : new.stopped ≡ old.stopped
  pub reads : new.failed_reads ≡ old.failed_reads
  pub writes : new.failed_writes ≡ old.failed_writes

pub steady : (v v' : MountState) (blocks : List (List ℕ)) (reads writes : ℕ) → v' ≡ record v { blocks = blocks; reads = reads; writes = writes } → IsSteady v v'
steady v v' blocks reads writes is = record {
  stopped = ap (λ (m : MountState). m.stopped) is;
  reads = ap (λ (m : MountState). m.failed_reads) is;
  writes = ap (λ (m : MountState). m.failed_writes) is;
}

pub steady_same : (v v' : MountState) → v' ≡ v → IsSteady v v'
steady_same v v' is = steady v v' v.blocks v.reads v.writes is

-- where no block call failed, the entry needed none that did
steadied : (e : Entry) (old new : SessionView) → NoCallFailed old new → IsSteadied e old new
steadied (entry.Files it) old new quiet = quiet
steadied (entry.Jobs it) old new quiet = quiet
steadied (entry.Console it) old new quiet = tt

-- a reply
pub replied : (e : Entry) (old new : SessionView) (reply : Reply) → old.volume.stopped ≡ false → IsSteady old.volume new.volume → MayReply (state_of old) e reply (state_of new) → DoesEntry e old (Ok reply) new
replied e old new reply running still done = record {
  step = λ quiet. done;
  later = record { reads = omega (arith, still.reads); writes = omega (arith, still.writes) };
  files = λ running more. absurd (omega (arith, more, still.writes));
  running = λ quiet. still.stopped ∙ running;
  memory = λ is. absurd (ok_not_memory _ is);
  reply = tt;
  tells = λ running. record { running = running; reads = still.reads; writes = still.writes };
  stopped = λ halted. absurd (true≢false (sym halted ∙ running));
  done = (done, steadied e old new (record { running = running; reads = still.reads; writes = still.writes }));
}

-- a reply of the console, which leaves the volume alone, whatever failed before
pub shown : (it : ConsoleEntry) (old new : SessionView) (reply : Reply) → new.volume ≡ old.volume → ConsoleMayReply (state_of old) it reply (state_of new) → DoesEntry (entry.Console it) old (Ok reply) new
shown it old new reply same done = record {
  step = λ quiet. done;
  later = record { reads = omega (arith, still.reads); writes = omega (arith, still.writes) };
  files = λ running more. absurd (omega (arith, more, still.writes));
  running = λ quiet. still.stopped ∙ quiet.running;
  memory = λ is. absurd (ok_not_memory _ is);
  reply = tt;
  tells = λ running. record { running = running; reads = still.reads; writes = still.writes };
  stopped = λ halted. done;
  done = (done, tt);
}
  where
    still : IsSteady old.volume new.volume
    still = steady_same old.volume new.volume same

-- a refusal of the file service, where no block call failed
pub refused : (e : Entry) (old new : SessionView) (why : FileFault) → old.volume.stopped ≡ false → (NoCallFailed old new → TellsBlockCalls e old (Err (fault.File why)) new) → IsSteady old.volume new.volume → MayRefuse (state_of old) e (fault.File why) → state_of new ≡ after_refusal (state_of old) e → DoesEntry e old (Err (fault.File why)) new
refused e old new why running tells still may after = record {
  step = λ quiet. (may, after);
  later = record { reads = omega (arith, still.reads); writes = omega (arith, still.writes) };
  files = λ running more. absurd (omega (arith, more, still.writes));
  running = λ quiet. still.stopped ∙ quiet.running;
  memory = λ is. absurd (not_memory why is);
  reply = tt;
  tells = λ running. tells (record { running = running; reads = still.reads; writes = still.writes });
  stopped = λ halted. absurd (true≢false (sym halted ∙ running));
  done = tt;
}

-- what want of memory left undone
pub undone : (e : Entry) (old new : SessionView) → (old.volume.stopped ≡ true → MayAnswerStopped (state_of old) e (Err fault.Memory) (state_of new)) → MayLack (state_of old) e → IsSteady old.volume new.volume → state_of new ≡ state_of old → DoesEntry e old (Err fault.Memory) new
undone e old new halts may still same = record {
  step = λ quiet. (may, same);
  later = record { reads = omega (arith, still.reads); writes = omega (arith, still.writes) };
  files = λ running more. absurd (omega (arith, more, still.writes));
  running = λ quiet. still.stopped ∙ quiet.running;
  memory = λ is. record { state = same; stopped = still.stopped; reads = still.reads; writes = still.writes };
  reply = tt;
  tells = λ running. record { running = running; reads = still.reads; writes = still.writes };
  stopped = halts;
  done = tt;
}

-- no failure is forgotten
pub record IsBeyond (old new : MountState) : Type 0 where
  pub reads : old.failed_reads ≤ new.failed_reads
  pub writes : old.failed_writes ≤ new.failed_writes

pub after_same : (old new : MountState) → new ≡ old → IsBeyond old new
after_same old new is = record {
  reads = omega (arith, ap (λ (m : MountState). m.failed_reads) is);
  writes = omega (arith, ap (λ (m : MountState). m.failed_writes) is);
}

-- a write failed, which left what it leaves of the volume
pub record HasFailed (old new : MountState) : Type 0 where
  pub left : Survives old.blocks new.blocks
  pub following : IsBeyond old new
  pub more : old.failed_writes < new.failed_writes
  pub running : old.stopped ≡ false
  pub stopped : new.stopped ≡ true

-- a write failed in an entry that neither changes the jobs nor the console
pub failed : (e : Entry) (old new : SessionView) → HasFailed old.volume new.volume → new.jobs ≡ (after_refusal (state_of old) e).jobs → new.console ≡ old.console → DoesEntry e old (Err (fault.File file.Device)) new
failed e old new has jobs console = record {
  step = λ quiet. absurd (loud quiet);
  later = record { reads = has.following.reads; writes = has.following.writes };
  files = λ running more. (old.volume.blocks, refl, has.left);
  running = λ quiet. absurd (loud quiet);
  memory = λ is. absurd (not_memory file.Device is);
  reply = tt;
  tells = λ running. record { call = inr (record { running = running; writes = has.more; stopped = has.stopped }); jobs = jobs; console = console };
  stopped = λ halted. absurd (true≢false (sym halted ∙ has.running));
  done = tt;
}
  where
    loud : NoCallFailed old new → ⊥
    loud quiet = omega (arith, has.more, quiet.writes)

-- a write had failed before
pub stopped : (e : Entry) (old new : SessionView) → MayAnswerStopped (state_of old) e (Err (fault.File file.Stopped)) (state_of new) → old.volume.stopped ≡ true → IsBeyond old.volume new.volume → DoesEntry e old (Err (fault.File file.Stopped)) new
stopped e old new step halted following = record {
  step = λ quiet. absurd (true≢false (sym halted ∙ quiet.running));
  later = record { reads = following.reads; writes = following.writes };
  files = λ running more. absurd (true≢false (sym halted ∙ running));
  running = λ quiet. absurd (true≢false (sym halted ∙ quiet.running));
  memory = λ is. absurd (not_memory file.Stopped is);
  reply = tt;
  tells = λ running. absurd (true≢false (sym halted ∙ running));
  stopped = λ halted. step;
  done = tt;
}
