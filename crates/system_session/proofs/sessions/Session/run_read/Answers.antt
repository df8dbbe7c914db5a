use Rattle.std.proofs.Common.{rules, ℕ, ◌≡◌, ◌<◌, ◌≤◌, ◌+◌, ◌++◌, ◌∙◌, [], List, Option, Err, inl, inr, refl, sym, subst, Bool, true, false, Ok, arith, length}
use Rattle.std.proofs.lemmas.Result.{err_from_is_err_and}
use Rattle.script8.specs.Items.{WaitsForLines}
use Rattle.std.specs.Io.KnownBytes.{Consumes}
use Rattle.script8.specs.Reading.{IsRead, IsReaderEnd, TakesBytes}
use Rattle.system_session.specs.ReadSteps.{ReadsPiece}
use Rattle.system_session.specs.RunSteps.{RunsGiven, IsRunTo, watch}
use Rattle.system_session.specs.Session.{state_of}
use Rattle.script8.proofs.ByteLemmas.{consumes_none}
use Rattle.system_session.proofs.QuietLemmas.{quiet_first, quiet_second, later_trans}
use Rattle.system_session.proofs.TextLemmas.{none_run, run_fed, run_on, run_stopped, run_unread, run_cut, run_over, takes_more}
use Rattle.system_session.proofs.sessions.Session.run_read.Goals as goal

-- so many bytes are no more than may be taken
not_past : (n : ℕ) → n ≤ 16777216 → n ≡ 16777217 → ⊥
not_past n most is = omega (arith, most, is)

-- a read that found the reader's end, or more bytes
at_end : (r r' : Option (List ℕ)) (before : List ℕ) (count : ℕ) (after : List ℕ) (lines' count' : ℕ) {b : Bool} → b ≡ true → ReadsPiece 16777216 r r' before count after lines' count' (Ok b)
    → IsRead r r' [] × (after ≡ before)
at_end r r' before count after lines' count' is fed = subst (λ b. ReadsPiece 16777216 r r' before count after lines' count' (Ok b)) is fed

more_read : (r r' : Option (List ℕ)) (before : List ℕ) (count : ℕ) (after : List ℕ) (lines' count' : ℕ) {b : Bool} → b ≡ false → ReadsPiece 16777216 r r' before count after lines' count' (Ok b)
    → (bytes : List ℕ) × Consumes r r' bytes × (after ≡ before ++ bytes) × (count' ≡ count + length bytes) × (count' ≤ 16777216) × WaitsForLines after lines' × (0 < length bytes)
more_read r r' before count after lines' count' is fed = subst (λ b. ReadsPiece 16777216 r r' before count after lines' count' (Ok b)) is fed

-- what stands after the most bytes that are read
at_last : (r r' : Option (List ℕ)) {b : Bool} → b ≡ true → IsReaderEnd r r' (Ok b) → IsRead r r' []
at_last r r' is end = subst (λ b. IsReaderEnd r r' (Ok b)) is end

one_more : (r r' : Option (List ℕ)) {b : Bool} → b ≡ false → IsReaderEnd r r' (Ok b) → TakesBytes r r' 1
one_more r r' is end = subst (λ b. IsReaderEnd r r' (Ok b)) is end

at_most : (n : ℕ) → n ≡ 1 → n ≤ 1
at_most n is = omega (arith, is)

all_and_one : (count n : ℕ) → count ≡ 16777216 → n ≡ 1 → count + n ≡ 16777217
all_and_one count n all one = omega (arith, all, one)

pub returns-in_err-piece-clause-told : goal.returns-in_err-piece-clause-told
returns-in_err-piece-clause-told g c first quiet =
    let p = err_from_is_err_and c.from_residual.result c.from_residual.ensures.1 in
    rw (p.1, p.2)
    (run_unread 16777216 _ _ _ _ _ (watch g.K.Watcher.contents g.K.Watcher.was_shown first c.args.watcher.now) _ 0 [] [] (none_run (state_of c.args.self.now) _ (watch g.K.Watcher.contents g.K.Watcher.was_shown first c.args.watcher.now) [] refl) (consumes_none (g.R.ByteReader.remaining c.args.reader.now)) (omega arith))

pub loop-pending-init : goal.loop-pending-init
loop-pending-init g c = record {
  told = λ first quiet. subst (λ n. IsRunTo (state_of c.args.self.now) (state_of c.args.self.now) (g.R.ByteReader.remaining c.args.reader.now) (g.R.ByteReader.remaining c.args.reader.now) (watch g.K.Watcher.contents g.K.Watcher.was_shown first c.args.watcher.now) (watch g.K.Watcher.contents g.K.Watcher.was_shown first c.args.watcher.now) n c.new-pending.result.bytes.items) (sym c.new-pending.ensures.count)
      (none_run (state_of c.args.self.now) (g.R.ByteReader.remaining c.args.reader.now) (watch g.K.Watcher.contents g.K.Watcher.was_shown first c.args.watcher.now) c.new-pending.result.bytes.items c.new-pending.ensures.bytes);
  flushed = c.requires;
  waits = (c.new-pending.ensures.lines.0, subst (λ (l : List ℕ). WaitsForLines l c.new-pending.result.lines) (sym c.new-pending.ensures.bytes) c.new-pending.ensures.lines.1);
  taken = record { bytes = []; taken = consumes_none _; count_is = sym c.new-pending.ensures.count };
  within = omega (arith, c.new-pending.ensures.count);
  piece = omega (arith, c.in_ok-piece.ensures);
  later = record { reads = omega arith; writes = omega arith };
  kept = λ first follows. follows;
  reader = λ first follows. follows;
  running = λ quiet. quiet.running;
}

pub returns-then-branch-clause-told : goal.returns-then-branch-clause-told
returns-then-branch-clause-told g c first quiet =
    let before = quiet_first _ c.loop-pending.self _ quiet c.loop-pending.invariant.later c.run_end.ensures.later in
    let following = quiet_second _ c.loop-pending.self _ quiet c.loop-pending.invariant.later c.run_end.ensures.later (c.loop-pending.invariant.running before) in
    run_over 16777216 _ (state_of c.loop-pending.self) _ _ (g.R.ByteReader.remaining c.loop-pending.reader) _ _ (watch g.K.Watcher.contents g.K.Watcher.was_shown first c.loop-pending.watcher) _ c.loop-pending.pending.count c.loop-pending.pending.bytes.items c.deref.result.now c.run_end.result
    (c.loop-pending.invariant.told first before) c.loop-pending.invariant.within (at_last _ (g.R.ByteReader.remaining c.ends.new.reader) c.if-branch.true c.in_ok-ends.ensures.end) c.deref.ensures.value (c.run_end.ensures.told first following)

pub returns-then-branch-clause-taken : goal.returns-then-branch-clause-taken
returns-then-branch-clause-taken g c =
    (c.loop-pending.pending.count + 0, takes_more _ (g.R.ByteReader.remaining c.loop-pending.reader) _ c.loop-pending.pending.count [] c.loop-pending.invariant.taken (at_last _ (g.R.ByteReader.remaining c.ends.new.reader) c.if-branch.true c.in_ok-ends.ensures.end).taken, omega (arith, c.loop-pending.invariant.within), λ last. absurd (not_past c.loop-pending.pending.count c.loop-pending.invariant.within (omega (arith, last))))

pub returns-then-pending-eq-MOST-clause-told : goal.returns-then-pending-eq-MOST-clause-told
returns-then-pending-eq-MOST-clause-told g c first quiet =
    let one = one_more (g.R.ByteReader.remaining c.loop-pending.reader) (g.R.ByteReader.remaining c.ends.new.reader) c.if-branch.false c.in_ok-ends.ensures.end in
    run_cut 16777216 _ _ _ (g.R.ByteReader.remaining c.loop-pending.reader) _ _ _ c.loop-pending.pending.count c.loop-pending.pending.lines c.loop-pending.pending.bytes.items one.bytes (c.loop-pending.invariant.told first quiet) c.loop-pending.invariant.waits.0 c.loop-pending.invariant.waits.1 one.taken c.loop-pending.invariant.within (inr (c.if-pending-eq-MOST.true, at_most (length one.bytes) one.count_is))

pub returns-then-pending-eq-MOST-clause-taken : goal.returns-then-pending-eq-MOST-clause-taken
returns-then-pending-eq-MOST-clause-taken g c =
    let one = one_more (g.R.ByteReader.remaining c.loop-pending.reader) (g.R.ByteReader.remaining c.ends.new.reader) c.if-branch.false c.in_ok-ends.ensures.end in
    (c.loop-pending.pending.count + length one.bytes, takes_more _ (g.R.ByteReader.remaining c.loop-pending.reader) _ c.loop-pending.pending.count one.bytes c.loop-pending.invariant.taken one.taken, omega (arith, c.loop-pending.invariant.within, one.count_is), λ last. refl)

pub returns-then-pending-eq-MOST-clause-cause : goal.returns-then-pending-eq-MOST-clause-cause
returns-then-pending-eq-MOST-clause-cause g c is =
    let one = one_more (g.R.ByteReader.remaining c.loop-pending.reader) (g.R.ByteReader.remaining c.ends.new.reader) c.if-branch.false c.in_ok-ends.ensures.end in
    inr (subst (λ n. TakesBytes (g.R.ByteReader.remaining c.args.reader.now) (g.R.ByteReader.remaining c.ends.new.reader) n) (all_and_one _ (length one.bytes) c.if-pending-eq-MOST.true one.count_is) (takes_more _ (g.R.ByteReader.remaining c.loop-pending.reader) _ c.loop-pending.pending.count one.bytes c.loop-pending.invariant.taken one.taken))

pub returns-in_err-ends : goal.returns-in_err-ends
returns-in_err-ends g c =
    let p = err_from_is_err_and c.from_residual-in_err-ends.result c.from_residual-in_err-ends.ensures.1 in
    let failed = c.in_err-ends.ensures.end in
    record {
      told = λ first quiet. rw (p.1, p.2.0 failed.0) (run_cut 16777216 _ _ _ (g.R.ByteReader.remaining c.loop-pending.reader) _ _ _ c.loop-pending.pending.count c.loop-pending.pending.lines c.loop-pending.pending.bytes.items [] (c.loop-pending.invariant.told first quiet) c.loop-pending.invariant.waits.0 c.loop-pending.invariant.waits.1
          failed.1 c.loop-pending.invariant.within (inl refl));
      later = c.loop-pending.invariant.later;
      cause = rw (p.1) (λ is. inl c.in_err-ends.ensures.cause);
      reader = λ first follows. c.ends.ensures.kept first (c.loop-pending.invariant.reader first follows);
      stopped = rw (p.1, p.2.0 failed.0) (search rules);
      kept = c.loop-pending.invariant.kept;
      running = c.loop-pending.invariant.running;
      taken = (c.loop-pending.pending.count + 0, takes_more _ (g.R.ByteReader.remaining c.loop-pending.reader) _ c.loop-pending.pending.count [] c.loop-pending.invariant.taken failed.1, omega (arith, c.loop-pending.invariant.within), λ last. absurd (not_past c.loop-pending.pending.count c.loop-pending.invariant.within (omega (arith, last))));
    }

pub returns-then-at_end-clause-told : goal.returns-then-at_end-clause-told
returns-then-at_end-clause-told g c first quiet =
    let read = at_end (g.R.ByteReader.remaining c.loop-pending.reader) (g.R.ByteReader.remaining c.read_more.new.reader) _ _ _ _ _ c.if-at_end.true c.in_ok-at_end.ensures.read in
    let before = quiet_first _ c.loop-pending.self _ quiet c.loop-pending.invariant.later c.run_end-then-at_end.ensures.later in
    let following = quiet_second _ c.loop-pending.self _ quiet c.loop-pending.invariant.later c.run_end-then-at_end.ensures.later (c.loop-pending.invariant.running before) in
    run_over 16777216 _ (state_of c.loop-pending.self) _ _ (g.R.ByteReader.remaining c.loop-pending.reader) _ _ (watch g.K.Watcher.contents g.K.Watcher.was_shown first c.loop-pending.watcher) _ c.loop-pending.pending.count c.loop-pending.pending.bytes.items c.deref-then-at_end.result.now c.run_end-then-at_end.result
    (c.loop-pending.invariant.told first before) c.loop-pending.invariant.within read.0 (c.deref-then-at_end.ensures.value ∙ read.1) (c.run_end-then-at_end.ensures.told first following)

pub returns-then-at_end-clause-taken : goal.returns-then-at_end-clause-taken
returns-then-at_end-clause-taken g c =
    let read = at_end (g.R.ByteReader.remaining c.loop-pending.reader) (g.R.ByteReader.remaining c.read_more.new.reader) _ _ _ _ _ c.if-at_end.true c.in_ok-at_end.ensures.read in
    (c.loop-pending.pending.count + 0, takes_more _ (g.R.ByteReader.remaining c.loop-pending.reader) _ c.loop-pending.pending.count [] c.loop-pending.invariant.taken read.0.taken, omega (arith, c.loop-pending.invariant.within), λ last. absurd (not_past c.loop-pending.pending.count c.loop-pending.invariant.within (omega (arith, last))))

pub returns-in_err-run_given-clause-told : goal.returns-in_err-run_given-clause-told
returns-in_err-run_given-clause-told g c first quiet =
    let p = err_from_is_err_and c.from_residual-in_err-run_given.result c.from_residual-in_err-run_given.ensures.1 in
    let read = more_read (g.R.ByteReader.remaining c.loop-pending.reader) (g.R.ByteReader.remaining c.read_more.new.reader) _ _ _ _ _ c.if-at_end.false c.in_ok-at_end.ensures.read in
    let before = quiet_first _ c.loop-pending.self _ quiet c.loop-pending.invariant.later c.run_given.ensures.later in
    let following = quiet_second _ c.loop-pending.self _ quiet c.loop-pending.invariant.later c.run_given.ensures.later (c.loop-pending.invariant.running before) in
    let fed = run_fed _ (state_of c.loop-pending.self) _ (g.R.ByteReader.remaining c.loop-pending.reader) _ _ (watch g.K.Watcher.contents g.K.Watcher.was_shown first c.loop-pending.watcher) c.loop-pending.pending.count c.loop-pending.pending.bytes.items read.0 (c.loop-pending.invariant.told first before) read.1 in
    rw (p.1, p.2) (run_stopped 16777216 _ (state_of c.loop-pending.self) _ _ (g.R.ByteReader.remaining c.read_more.new.reader) _ (watch g.K.Watcher.contents g.K.Watcher.was_shown first c.loop-pending.watcher) _ (c.loop-pending.pending.count + length read.0) (c.loop-pending.pending.bytes.items ++ read.0) c.run_given.new.pending.bytes.items c.in_err-run_given.field-0.0
    fed (omega (arith, read.3, read.4))
    (subst (λ (l : List ℕ). RunsGiven l c.run_given.new.pending.bytes.items (state_of c.loop-pending.self) (state_of c.run_given.new.self) (watch g.K.Watcher.contents g.K.Watcher.was_shown first c.loop-pending.watcher) (watch g.K.Watcher.contents g.K.Watcher.was_shown first c.run_given.new.watcher) (Err c.in_err-run_given.field-0.0)) read.2 (c.in_err-run_given.ensures.told first following)))

pub returns-in_err-run_given-clause-taken : goal.returns-in_err-run_given-clause-taken
returns-in_err-run_given-clause-taken g c =
    let read = more_read (g.R.ByteReader.remaining c.loop-pending.reader) (g.R.ByteReader.remaining c.read_more.new.reader) _ _ _ _ _ c.if-at_end.false c.in_ok-at_end.ensures.read in
    (c.loop-pending.pending.count + length read.0, takes_more _ (g.R.ByteReader.remaining c.loop-pending.reader) _ c.loop-pending.pending.count read.0 c.loop-pending.invariant.taken read.1, omega (arith, read.3, read.4), λ last. absurd (not_past (c.loop-pending.pending.count + length read.0) (omega (arith, read.3, read.4)) last))

pub returns-in_err-at_end : goal.returns-in_err-at_end
returns-in_err-at_end g c =
    let p = err_from_is_err_and c.from_residual-in_err-at_end.result c.from_residual-in_err-at_end.ensures.1 in
    let lost = c.in_err-at_end.ensures.read in
    record {
      told = λ first quiet. elim lost.3 [
        | inl none ↦ rw (p.1, p.2.0 none.0) (run_cut 16777216 _ _ _ (g.R.ByteReader.remaining c.loop-pending.reader) _ _ _ c.loop-pending.pending.count c.loop-pending.pending.lines c.loop-pending.pending.bytes.items [] (c.loop-pending.invariant.told first quiet) c.loop-pending.invariant.waits.0 c.loop-pending.invariant.waits.1
            (subst (λ (l : List ℕ). Consumes (g.R.ByteReader.remaining c.loop-pending.reader) (g.R.ByteReader.remaining c.read_more.new.reader) l) none.1 lost.1) c.loop-pending.invariant.within (inl refl))
        | inr lack ↦ rw (p.1, p.2.1 lack) (run_unread 16777216 _ _ _ (g.R.ByteReader.remaining c.loop-pending.reader) _ _ _ c.loop-pending.pending.count c.loop-pending.pending.bytes.items lost.0 (c.loop-pending.invariant.told first quiet) lost.1 lost.2)
      ];
      later = c.loop-pending.invariant.later;
      cause = elim lost.3 [
        | inl none ↦ rw (p.1) (λ is. inl (c.in_err-at_end.ensures.cause none.0))
        | inr lack ↦ rw (p.1, p.2.1 lack) (search rules)
      ];
      reader = λ first follows. c.read_more.ensures.kept first (c.loop-pending.invariant.reader first follows);
      stopped = elim lost.3 [
        | inl none ↦ rw (p.1, p.2.0 none.0) (search rules)
        | inr lack ↦ rw (p.1, p.2.1 lack) (search rules)
      ];
      kept = c.loop-pending.invariant.kept;
      running = c.loop-pending.invariant.running;
      taken = (c.loop-pending.pending.count + length lost.0, takes_more _ (g.R.ByteReader.remaining c.loop-pending.reader) _ c.loop-pending.pending.count lost.0 c.loop-pending.invariant.taken lost.1, omega (arith, lost.2), λ last. absurd (not_past (c.loop-pending.pending.count + length lost.0) lost.2 last));
    }

pub loop-pending-preserved : goal.loop-pending-preserved
loop-pending-preserved g c =
    let read = more_read (g.R.ByteReader.remaining c.loop-pending.reader) (g.R.ByteReader.remaining c.read_more.new.reader) _ _ _ _ _ c.if-at_end.false c.in_ok-at_end.ensures.read in
    record {
      told = λ first quiet.
          let before = quiet_first _ c.loop-pending.self _ quiet c.loop-pending.invariant.later c.run_given.ensures.later in
          let following = quiet_second _ c.loop-pending.self _ quiet c.loop-pending.invariant.later c.run_given.ensures.later (c.loop-pending.invariant.running before) in
          let fed = run_fed _ (state_of c.loop-pending.self) _ (g.R.ByteReader.remaining c.loop-pending.reader) _ _ (watch g.K.Watcher.contents g.K.Watcher.was_shown first c.loop-pending.watcher) c.loop-pending.pending.count c.loop-pending.pending.bytes.items read.0 (c.loop-pending.invariant.told first before) read.1 in
          subst (λ n. IsRunTo (state_of c.args.self.now) (state_of c.run_given.new.self) (g.R.ByteReader.remaining c.args.reader.now) (g.R.ByteReader.remaining c.read_more.new.reader) (watch g.K.Watcher.contents g.K.Watcher.was_shown first c.args.watcher.now) (watch g.K.Watcher.contents g.K.Watcher.was_shown first c.run_given.new.watcher) n c.run_given.new.pending.bytes.items)
          (sym (c.run_given.ensures.count ∙ read.3))
          (run_on _ (state_of c.loop-pending.self) _ _ (g.R.ByteReader.remaining c.read_more.new.reader) _ (watch g.K.Watcher.contents g.K.Watcher.was_shown first c.loop-pending.watcher) _ (c.loop-pending.pending.count + length read.0) (c.loop-pending.pending.bytes.items ++ read.0) c.run_given.new.pending.bytes.items fed
          (subst (λ (l : List ℕ). RunsGiven l c.run_given.new.pending.bytes.items (state_of c.loop-pending.self) (state_of c.run_given.new.self) (watch g.K.Watcher.contents g.K.Watcher.was_shown first c.loop-pending.watcher) (watch g.K.Watcher.contents g.K.Watcher.was_shown first c.run_given.new.watcher) (Ok tt)) read.2 (c.in_ok-run_given.ensures.told first following)));
      flushed = c.in_ok-run_given.ensures.flushed;
      waits = c.in_ok-run_given.ensures.waits;
      taken = subst (λ n. TakesBytes (g.R.ByteReader.remaining c.args.reader.now) (g.R.ByteReader.remaining c.read_more.new.reader) n) (sym (c.run_given.ensures.count ∙ read.3)) (takes_more _ (g.R.ByteReader.remaining c.loop-pending.reader) _ c.loop-pending.pending.count read.0 c.loop-pending.invariant.taken read.1);
      within = omega (arith, c.run_given.ensures.count, read.4);
      piece = c.loop-pending.invariant.piece;
      later = later_trans _ _ _ c.loop-pending.invariant.later c.run_given.ensures.later;
      kept = λ first follows. c.run_given.ensures.kept first (c.loop-pending.invariant.kept first follows);
      reader = λ first follows. c.read_more.ensures.kept first (c.loop-pending.invariant.reader first follows);
      running = λ quiet.
          let before = quiet_first _ c.loop-pending.self _ quiet c.loop-pending.invariant.later c.run_given.ensures.later in
          c.run_given.ensures.running (quiet_second _ c.loop-pending.self _ quiet c.loop-pending.invariant.later c.run_given.ensures.later (c.loop-pending.invariant.running before));
    }
