-- What entries leave alone.
use Rattle.std.proofs.Common.{◌≡◌, inl, ℕ, zero, suc, Option, Some, None, List, refl, ap, sym, subst, ◌∙◌}
use Rattle.std.proofs.Math.ListN.{get_or-map}
use Rattle.os8_dir.specs.Names.{parsed_name}
use Rattle.os8_files.specs.Laws.{KeepsPlaces, KeepsOtherPlaces, extent_on}
use Rattle.os8_files.specs.Mounted.{MountState}
use Rattle.volume_jobs.specs.Calls.{CallsOf, WorkCalls, ReadsFew, MovesFew, job_at}
use Rattle.volume_jobs.specs.Jobs as plain
use Rattle.volume_jobs.specs.Jobs.{job_of}
use Rattle.volume_jobs.specs.Settled.{plain_job, plain_jobs, work_of}
use Rattle.volume_jobs.specs.declared.kinds.Job.{Job}
use Rattle.volume_jobs.specs.declared.kinds.Work.{Work}
use Rattle.script8.specs.Replies.{job_of_entry, job_of_turn}
use Rattle.script8.specs.declared.entries.Entry.{Entry}
use Rattle.script8.specs.declared.entries.Entry.TheVariants as entry
use Rattle.script8.specs.declared.entries.FileEntry.TheVariants as filing
use Rattle.script8.specs.declared.entries.JobEntry.TheVariants as order
use Rattle.system_session.specs.Interleaving.{EntryReads, EntryPlaces, KeepsPlacesBut, TurnReads, TurnPlaces, job_taking}
use Rattle.system_session.specs.SessionSteps.{LeavesAlone}
use Rattle.system_session.specs.Session.{SessionView}

-- ## Nothing is read or moved

-- where the places of all files stay, those of the others do
but_any : (name : Option ℕ) (old new : MountState) → KeepsPlaces old new → KeepsPlacesBut name old new
but_any None old new keeps = keeps
but_any (Some name) old new keeps = λ other differ running. keeps other running

turn_reads_none : (job : Option plain.Job) (old new : MountState) → new.reads ≡ old.reads → TurnReads job old new
turn_reads_none None old new same = same
turn_reads_none (Some it) old new same = of_work it.work
  where
    of_work : (w : plain.Work) → ReadsFew w old new
    of_work (plain.Assembling to from) = inl same
    of_work (plain.Loading from) = inl same
    of_work (plain.Squeezing clean) = inl same

turn_moves_none : (job : Option plain.Job) (old new : MountState) → KeepsPlaces old new → TurnPlaces job old new
turn_moves_none None old new keeps = keeps
turn_moves_none (Some it) old new keeps = of_work it.work
  where
    of_work : (w : plain.Work) → MovesFew w old new
    of_work (plain.Assembling to from) = but_any (Some to) old new keeps
    of_work (plain.Loading from) = keeps
    of_work (plain.Squeezing clean) = (0, but_any (Some 0) old new keeps)

reads_none : (e : Entry) (old new : SessionView) → new.volume.reads ≡ old.volume.reads → EntryReads e old new
reads_none e old new same = turn_reads_none (job_taking (job_of_entry e) old.jobs) old.volume new.volume same

moves_none : (e : Entry) (old new : SessionView) → KeepsPlaces old.volume new.volume → EntryPlaces e old new
moves_none (entry.Files (filing.Store name text)) old new keeps = but_any (parsed_name name) old.volume new.volume keeps
moves_none (entry.Files (filing.Delete name)) old new keeps = but_any (parsed_name name) old.volume new.volume keeps
moves_none (entry.Files filing.Direct) old new keeps = keeps
moves_none (entry.Jobs it) old new keeps = turn_moves_none (job_taking (job_of_turn it) old.jobs) old.volume new.volume keeps
moves_none (entry.Console it) old new keeps = keeps

-- an entry that changes holds of the volume at most
pub leaves_all : (e : Entry) (old new : SessionView) → new.volume ≡ record old.volume { holds = new.volume.holds } → LeavesAlone e old new
leaves_all e old new is = record {
  reads = reads_none e old new (ap (λ (m : MountState). m.reads) is);
  places = moves_none e old new (λ name running. ap (λ (m : MountState). extent_on m name) is);
}

pub leaves_same : (e : Entry) (old new : SessionView) → new.volume ≡ old.volume → LeavesAlone e old new
leaves_same e old new is = leaves_all e old new (is ∙ ap (λ (m : MountState). record old.volume { holds = m.holds }) (sym is))

-- ## A file is stored or deleted

pub store_leaves : (bytes text : List ℕ) (old new : SessionView) (name : ℕ) → parsed_name bytes ≡ Some name → new.volume.reads ≡ old.volume.reads → KeepsOtherPlaces name old.volume new.volume → LeavesAlone (entry.Files (filing.Store bytes text)) old new
store_leaves bytes text old new name is same keeps = record { reads = same; places = subst (λ n. KeepsPlacesBut n old.volume new.volume) (sym is) keeps }

-- ## A job takes a turn

-- the laws of jobs that turns rest on
abbrev pub ReadsLaw : Type 0
ReadsLaw = (old new : MountState) (it : Work) (left : ℕ) → WorkCalls it left old new → ReadsFew (work_of it) old new

abbrev pub MovesLaw : Type 0
MovesLaw = (old new : MountState) (it : Work) (left : ℕ) → WorkCalls it left old new → MovesFew (work_of it) old new

turn_reads : ReadsLaw → (old new : MountState) (it : Option Job) → CallsOf it old new → TurnReads (plain_job it) old new
turn_reads law old new None calls = ap (λ (m : MountState). m.reads) calls
turn_reads law old new (Some it) calls = law old new it.work it.turns calls

turn_places : MovesLaw → (old new : MountState) (it : Option Job) → CallsOf it old new → TurnPlaces (plain_job it) old new
turn_places law old new None calls = λ name running. ap (λ (m : MountState). extent_on m name) calls
turn_places law old new (Some it) calls = law old new it.work it.turns calls

-- the job of a number without what it keeps
plain_at : (number : ℕ) (js : List (Option Job)) → job_of number (plain_jobs js) ≡ plain_job (job_at number js)
plain_at zero js = refl
plain_at (suc place) js = get_or-map plain_job js place None

pub turn_leaves : MovesLaw → ReadsLaw → (number : ℕ) (old new : SessionView) (js : List (Option Job)) → old.jobs ≡ plain_jobs js → CallsOf (job_at number js) old.volume new.volume → LeavesAlone (entry.Jobs (order.Turn number)) old new
turn_leaves moves reads number old new js is calls = record {
  reads = subst (λ j. TurnReads j old.volume new.volume) (sym here) (turn_reads reads old.volume new.volume (job_at number js) calls);
  places = subst (λ j. TurnPlaces j old.volume new.volume) (sym here) (turn_places moves old.volume new.volume (job_at number js) calls);
}
  where
    here : job_of number old.jobs ≡ plain_job (job_at number js)
    here = ap (λ (l : List (Option plain.Job)). job_of number l) is ∙ plain_at number js
