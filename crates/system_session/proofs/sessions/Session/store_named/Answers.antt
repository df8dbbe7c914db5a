use Rattle.std.proofs.Common.{◌≡◌, ◌∙◌, ◌/◌, true, false, true≢false, Ok, Err, refl, sym, ap, subst, IsErrOf, arith, Result}
use Rattle.std.proofs.lemmas.Result.{err_from_is_err_and}
use Rattle.char_pack.specs.Texts.{is_storable, words_of_text}
use Rattle.char_pack.specs.declared.faults.TextFault.{TextFault}
use Rattle.char_pack.specs.declared.faults.TextFault.TheVariants.{BadText, Memory}
use Rattle.volume_jobs.specs.Settled.{plain_jobs}
use Rattle.os8_files.specs.Puts.{TellsRoom}
use Rattle.refusals.specs.Faults.{fault_of_file}
use Rattle.system_session.specs.Room.{IfFile}
use Rattle.system_session.specs.Session.{SessionView}
use Rattle.system_session.proofs.SessionLemmas.{store_refused, store_done, put_settled, storable_is, ok_err, unstored, no_text_stored, text_lacks}
use Rattle.os8_dir.specs.Entries.{contains}
use Rattle.script8.specs.declared.entries.Entry.TheVariants as entry
use Rattle.script8.specs.declared.entries.FileEntry.TheVariants as filing
use Rattle.system_session.proofs.LeavesLemmas.{leaves_same, store_leaves}
use Rattle.system_session.proofs.RoomLemmas.{store_room, unstored_room}
use Rattle.system_session.proofs.sessions.Session.store_named.Goals.{then-is_stopped-via-then-is_stopped, then-is_stopped-via-else-is_stopped+then-is_held}
use Rattle.system_session.proofs.sessions.Session.store_named.Goals as goal

pub returns-in_err-put-in-Ok-clause-does : goal.returns-in_err-put-in-Ok-clause-does
returns-in_err-put-in-Ok-clause-does g c bytes is =
    let p = err_from_is_err_and c.from_residual.result c.from_residual.ensures.1 in
    rw (p.1, p.2, ← c.self.view_is)
    (store_refused _ _ bytes c.args.name c.args.text.now c.deref.result.now c.in_err-put-in-Ok.field-0.0 is (λ name. c.held_names.ensures _ _ name c.self.invariant.0)
    (storable_is (is_storable c.args.text.now) (λ bad. ok_err _ _ (subst (λ r. IsErrOf r BadText) c.in-Ok.is (c.store.ensures.bad_text.1 bad))))
    (c.deref.ensures.value ∙ c.in-Ok.ensures.words) c.in_err-put-in-Ok.ensures.call)

pub invariant_of-self-in-Ok : goal.invariant_of-self-in-Ok
invariant_of-self-in-Ok g c = (put_settled _ _ _ _ c.args.name _ c.settled_calls.ensures.disturbed c.kept_holds.ensures.put c.self.invariant.0 c.disturb.ensures c.in_ok-put-in-Ok.ensures.call c.in_ok-put-in-Ok.ensures.none, c.self.invariant.1)

pub returns-in_ok-put-in-Ok-clause-does : goal.returns-in_ok-put-in-Ok-clause-does
returns-in_ok-put-in-Ok-clause-does g c bytes is =
    rw (← c.self.view_is)
    (store_done _ _ _ bytes c.args.name c.args.text.now c.deref.result.now (c.len-blocks.result / 256) is (λ name. c.held_names.ensures _ _ name c.self.invariant.0) (ap plain_jobs c.disturb.ensures ∙ c.disturbed_jobs.ensures _)
    (storable_is (is_storable c.args.text.now) (λ bad. ok_err _ _ (subst (λ r. IsErrOf r BadText) c.in-Ok.is (c.store.ensures.bad_text.1 bad))))
    (c.deref.ensures.value ∙ c.in-Ok.ensures.words) (omega (arith, c.len-blocks.ensures, c.in-Ok.ensures.length)) c.in_ok-put-in-Ok.ensures.call)

pub returns-then-is_stopped-clause-does : goal.returns-then-is_stopped-clause-does
returns-then-is_stopped-clause-does g c bytes is =
    rw (← c.self.view_is)
    (unstored _ bytes c.args.name c.args.text.now c.store_fault.result is (λ name. c.held_names.ensures _ _ name c.self.invariant.0) held c.store_fault.ensures.bad
    (λ storable halted. c.store_fault.ensures.stopped storable (c.is_stopped-then-is_stopped.ensures.value ∙ halted))
    (λ storable running. c.store_fault.ensures.busy storable (c.is_stopped-then-is_stopped.ensures.value ∙ running)))
  where
    held : c.self.inside.files.stopped ≡ false → contains c.self.inside.files.holds c.args.name ≡ true
    held running = elim c.then-is_stopped.branch [
      | then-is_stopped-via-then-is_stopped w ↦ absurd (true≢false (sym w.if-is_stopped.true ∙ c.is_stopped.ensures.value ∙ running))
      | then-is_stopped-via-else-is_stopped+then-is_held w ↦ sym w.is_held.ensures ∙ w.if-is_held.true
    ]

pub returns-in_ok-put-in-Ok-clause-leaves : goal.returns-in_ok-put-in-Ok-clause-leaves
returns-in_ok-put-in-Ok-clause-leaves g c bytes is =
    rw (← c.self.view_is)
    (store_leaves bytes c.args.text.now _ _ c.args.name is (c.block_reads.ensures.put c.self.inside.files c.put.new.self c.args.name c.deref.result.now (Ok tt) c.in_ok-put-in-Ok.ensures.call)
    (c.file_places.ensures.put c.self.inside.files c.put.new.self c.args.name c.deref.result.now (Ok tt) c.in_ok-put-in-Ok.ensures.call))

pub returns-in_err-put-in-Ok-clause-room : goal.returns-in_err-put-in-Ok-clause-room
returns-in_err-put-in-Ok-clause-room g c =
    let p = err_from_is_err_and c.from_residual.result c.from_residual.ensures.1 in
    rw (p.1, p.2)
    (subst (λ (s : SessionView). IfFile (TellsRoom s.volume.blocks c.args.name (words_of_text c.args.text.now)) (Err (fault_of_file c.in_err-put-in-Ok.field-0.0))) c.self.view_is
    (store_room _ _ c.args.name c.deref.result.now (words_of_text c.args.text.now) c.in_err-put-in-Ok.field-0.0 (c.deref.ensures.value ∙ c.in-Ok.ensures.words) c.in_err-put-in-Ok.ensures.call))

pub returns-then-is_stopped-clause-room : goal.returns-then-is_stopped-clause-room
returns-then-is_stopped-clause-room g c =
    unstored_room _ c.args.name (words_of_text c.args.text.now) c.store_fault.result (is_storable c.args.text.now) c.is_stopped-then-is_stopped.result c.store_fault.ensures.bad c.store_fault.ensures.stopped c.store_fault.ensures.busy

pub returns-in_err-put-in-Ok-clause-leaves : goal.returns-in_err-put-in-Ok-clause-leaves
returns-in_err-put-in-Ok-clause-leaves g c bytes is =
    rw (← c.self.view_is)
    (store_leaves bytes c.args.text.now _ _ c.args.name is (c.block_reads.ensures.put c.self.inside.files c.put.new.self c.args.name c.deref.result.now (Err c.in_err-put-in-Ok.field-0.0) c.in_err-put-in-Ok.ensures.call)
    (c.file_places.ensures.put c.self.inside.files c.put.new.self c.args.name c.deref.result.now (Err c.in_err-put-in-Ok.field-0.0) c.in_err-put-in-Ok.ensures.call))

pub returns-then-is_stopped-clause-leaves : goal.returns-then-is_stopped-clause-leaves
returns-then-is_stopped-clause-leaves g c bytes is = leaves_same (entry.Files (filing.Store bytes c.args.text.now)) c.args.self.now _ refl

pub returns-in-Err-BadText-clause-does : goal.returns-in-Err-BadText-clause-does
returns-in-Err-BadText-clause-does g c bytes is =
    rw (← c.self.view_is)
    (no_text_stored _ bytes c.args.name c.args.text.now is (c.store.ensures.bad_text.0 (subst (λ r. IsErrOf r BadText) (sym (c.in-Err-BadText.is ∙ ap Err c.in-Err-BadText.field-0-is)) refl)))

pub returns-in-Err-BadText-clause-leaves : goal.returns-in-Err-BadText-clause-leaves
returns-in-Err-BadText-clause-leaves g c bytes is = leaves_same (entry.Files (filing.Store bytes c.args.text.now)) c.args.self.now _ refl

-- a fault of a text is one of two
other_fault : {A : Type 0} → ◌≡◌ {A = Result A TextFault} (Err Memory) (Err BadText) → ⊥
other_fault same = cc

pub returns-in-Err-Memory-clause-does : goal.returns-in-Err-Memory-clause-does
returns-in-Err-Memory-clause-does g c bytes is =
    rw (← c.self.view_is)
    (text_lacks _ bytes c.args.name c.args.text.now is (λ name. c.held_names.ensures _ _ name c.self.invariant.0)
    (storable_is (is_storable c.args.text.now) (λ bad. other_fault (subst (λ r. IsErrOf r BadText) (c.in-Err-Memory.is ∙ ap Err c.in-Err-Memory.field-0-is) (c.store.ensures.bad_text.1 bad))))
    (sym c.is_stopped.ensures.value ∙ c.if-is_stopped.false) (sym c.is_held.ensures ∙ c.if-is_held.false))

pub returns-in-Err-Memory-clause-leaves : goal.returns-in-Err-Memory-clause-leaves
returns-in-Err-Memory-clause-leaves g c bytes is = leaves_same (entry.Files (filing.Store bytes c.args.text.now)) c.args.self.now _ refl
