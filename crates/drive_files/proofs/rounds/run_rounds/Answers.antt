use Rattle.std.proofs.Common.{◌≡◌, ◌∙◌, true, false, Some, None, Ok, Err, refl, ap, sym, subst}
use Rattle.hosts.specs.Streams.{output_text}
use Rattle.host_output.specs.Printing.{HasPrinted}
use Rattle.terminal8e.specs.Parts.{HasCome}
use Rattle.drive_files.specs.Consoles.{console_acts}
use Rattle.drive_files.specs.Rounds.{DoesBetween, SavedPlaces}
use Rattle.drive_files.specs.Inputs.{form_of, input_of}
use Rattle.drive_files.proofs.RoundLemmas.{part-comes, come-on, next-made, between-text, ended-rounds, broken-by-print, broken-between, broken-runs, pause-within, pause-less, none-is}
use Rattle.drive_files.proofs.rounds.run_rounds.Goals as goal

pub returns-in-Ok-Some : goal.returns-in-Ok-Some
returns-in-Ok-Some g c =
    let f = c.args.form.now in
    let part = c.make_round-given.result.2 in
    ended-rounds f c.args.console.now c.make_round-given.new.console c.args.places.now (c.loop-fault.places, c.loop-fault.last) _ (g.H.Host.history c.args.host) (g.H.Host.history c.loop-fault.host)
    (g.H.Host.history c.make_round-given.result.0) c.end_in_round.result c.loop-fault.sitting.steps c.unwrap_or-most.result c.make_round-given.result.1 c.make_round-given.new.sitting.absences (Ok c.in-Ok-Some.ended) c.unwrap_or-most.ensures
    c.loop-fault.invariant.within.0 c.loop-fault.invariant.made
    (part-comes (form_of f.is_raw) (input_of f.is_live) _ _ _ _ _ _ _ _ _ _ _ _ _ part (Ok (Some c.in-Ok-Some.ended)) c.loop-fault.invariant.input
    (c.in-Ok-Some.is ∙ ap (λ x. Ok x) (rw (c.in-Ok-Some.is) at c.in-Ok-Some.field-0-is)) (c.make_round-given.ensures.runs _ _ _ _) c.loop-fault.invariant.come)
    c.make_round-given.ensures.prints tt tt c.end_in_round.ensures.fault c.end_in_round.ensures.answer c.end_in_round.ensures.absences c.end_in_round.ensures.save

pub returns-in-Err : goal.returns-in-Err
returns-in-Err g c =
    let f = c.args.form.now in
    let part = c.make_round-given.result.2 in
    ended-rounds f c.args.console.now c.make_round-given.new.console c.args.places.now (c.loop-fault.places, c.loop-fault.last) _ (g.H.Host.history c.args.host) (g.H.Host.history c.loop-fault.host)
    (g.H.Host.history c.make_round-given.result.0) c.end_in_round-in-Err.result c.loop-fault.sitting.steps c.unwrap_or-most.result c.make_round-given.result.1 c.make_round-given.new.sitting.absences (Err c.in-Err.why) c.unwrap_or-most.ensures
    c.loop-fault.invariant.within.0 c.loop-fault.invariant.made
    (part-comes (form_of f.is_raw) (input_of f.is_live) _ _ _ _ _ _ _ _ _ _ _ _ _ part (Err c.in-Err.why) c.loop-fault.invariant.input c.in-Err.is
    (c.make_round-given.ensures.runs _ _ _ _) c.loop-fault.invariant.come)
    c.make_round-given.ensures.prints (rw (c.in-Err.is) at c.make_round-given.ensures.cause) (rw (c.in-Err.is) at c.make_round-given.ensures.failed)
    c.end_in_round-in-Err.ensures.fault c.end_in_round-in-Err.ensures.answer c.end_in_round-in-Err.ensures.absences c.end_in_round-in-Err.ensures.save

pub returns-then-is_some : goal.returns-then-is_some
returns-then-is_some g c =
    let f = c.args.form.now in
    let part = c.make_round-given.result.2 in
    let is : part ≡ Ok None = c.in-Ok-None.is ∙ ap (λ x. Ok x) (rw (c.in-Ok-None.is) at c.in-Ok-None.field-0-is) in
    let less = pause-less c.unwrap_or-most.result 1048576 c.soonest_pause-soonest.result c.loop-fault.sitting c.make_round-given.new.sitting part is c.make_round-given.ensures.pause in
    let come = part-comes (form_of f.is_raw) (input_of f.is_live) _ _ _ _ _ _ _ _ _ _ _ _ _ part (Ok None) c.loop-fault.invariant.input is (c.make_round-given.ensures.runs _ _ _ _) c.loop-fault.invariant.come in
    broken-by-print f c.args.console.now c.make_round-given.new.console c.args.places.now (c.loop-fault.places, c.loop-fault.last) _ (g.H.Host.history c.args.host) (g.H.Host.history c.loop-fault.host)
    (g.H.Host.history c.make_round-given.result.0) c.break_run.result c.loop-fault.sitting.steps c.make_round-given.new.sitting.steps c.make_round-given.result.1 less c.loop-fault.invariant.made
    (broken-runs (form_of f.is_raw) (input_of f.is_live) _ _ _ _ c.make_round-given.new.sitting _ _ _ _ _ _ (c.make_round-given.ensures.input ∙ c.loop-fault.invariant.input) (c.break_run.ensures.runs _ _ _ _ _ _) come)
    c.break_run.ensures.ended c.make_round-given.ensures.prints (sym c.is_some.ensures ∙ c.if-is_some.true) c.break_run.ensures.fault c.break_run.ensures.save

pub loop-fault-preserved : goal.loop-fault-preserved
loop-fault-preserved g c =
    let f = c.args.form.now in
    let part = c.make_round-given.result.2 in
    let before = g.H.Host.history c.make_round-given.result.0 in
    let after = g.H.Host.history c.pause.new.host in
    let is : part ≡ Ok None = c.in-Ok-None.is ∙ ap (λ x. Ok x) (rw (c.in-Ok-None.is) at c.in-Ok-None.field-0-is) in
    let less = pause-less c.unwrap_or-most.result 1048576 c.soonest_pause-soonest.result c.loop-fault.sitting c.make_round-given.new.sitting part is c.make_round-given.ensures.pause in
    let mid : SavedPlaces = (c.loop-fault.places, c.loop-fault.last) in
    let kept : SavedPlaces = (c.pause.new.places, c.pause.new.last) in
    let steps = c.make_round-given.new.sitting.steps in
    let come = part-comes (form_of f.is_raw) (input_of f.is_live) _ _ _ _ _ _ _ _ _ _ _ _ _ part (Ok None) c.loop-fault.invariant.input is (c.make_round-given.ensures.runs _ _ _ _) c.loop-fault.invariant.come in
    let there = subst (λ b. DoesBetween f c.steps-steps.result c.make_round-given.new.console mid kept before (Ok b) after) c.in-Ok-false.field-0-test (c.in-Ok-false.ensures {u = tt}).does in
    let does = subst (λ k. DoesBetween f k c.make_round-given.new.console mid kept before (Ok false) after) c.steps-steps.ensures there in
    let none = none-is c.make_round-given.result.1 (sym c.is_some.ensures ∙ c.if-is_some.false) in
    record {
      come = subst (λ s. HasCome console_acts (form_of f.is_raw) (input_of f.is_live) c.args.console.now s c.make_round-given.new.sitting (g.I.ByteReader.remaining c.args.keys.now)
          (g.I.ByteReader.remaining c.make_round-given.new.keys) (Some (output_text (g.H.Host.history c.args.host))) (Some (output_text after))) (sym c.pause.ensures.console)
          (come-on _ _ _ _ _ _ _ _ before after come (between-text f steps c.make_round-given.new.console mid kept before (Ok false) after does));
      input = c.make_round-given.ensures.input ∙ c.loop-fault.invariant.input;
      within = pause-within c.unwrap_or-most.result 1048576 c.soonest_pause-soonest.result c.loop-fault.sitting c.make_round-given.new.sitting part is c.make_round-given.ensures.pause;
      made = next-made f (form_of f.is_raw) (input_of f.is_live) _ _ c.loop-fault.sitting.steps _ _ _ _ _ _ _ _ _ _ before _ c.loop-fault.invariant.made less
          (subst (λ w. HasPrinted (g.H.Host.history c.loop-fault.host) before w) none c.make_round-given.ensures.prints) come does;
    }

pub returns-in-Ok-true : goal.returns-in-Ok-true
returns-in-Ok-true g c =
    let f = c.args.form.now in
    let part = c.make_round-given.result.2 in
    let before = g.H.Host.history c.make_round-given.result.0 in
    let after = g.H.Host.history c.pause.new.host in
    let is : part ≡ Ok None = c.in-Ok-None.is ∙ ap (λ x. Ok x) (rw (c.in-Ok-None.is) at c.in-Ok-None.field-0-is) in
    let less = pause-less c.unwrap_or-most.result 1048576 c.soonest_pause-soonest.result c.loop-fault.sitting c.make_round-given.new.sitting part is c.make_round-given.ensures.pause in
    let mid : SavedPlaces = (c.loop-fault.places, c.loop-fault.last) in
    let kept : SavedPlaces = (c.pause.new.places, c.pause.new.last) in
    let steps = c.make_round-given.new.sitting.steps in
    let come = part-comes (form_of f.is_raw) (input_of f.is_live) _ _ _ _ _ _ _ _ _ _ _ _ _ part (Ok None) c.loop-fault.invariant.input is (c.make_round-given.ensures.runs _ _ _ _) c.loop-fault.invariant.come in
    let there = subst (λ b. DoesBetween f c.steps-steps.result c.make_round-given.new.console mid kept before (Ok b) after) c.in-Ok-true.field-0-test (c.in-Ok-true.ensures {u = tt}).does in
    let does = subst (λ k. DoesBetween f k c.make_round-given.new.console mid kept before (Ok true) after) c.steps-steps.ensures there in
    let none = none-is c.make_round-given.result.1 (sym c.is_some.ensures ∙ c.if-is_some.false) in
    let on = come-on _ _ _ _ _ _ _ _ before after come (between-text f steps c.make_round-given.new.console mid kept before (Ok true) after does) in
    let now = subst (λ s. HasCome console_acts (form_of f.is_raw) (input_of f.is_live) c.args.console.now s c.make_round-given.new.sitting (g.I.ByteReader.remaining c.args.keys.now)
    (g.I.ByteReader.remaining c.make_round-given.new.keys) (Some (output_text (g.H.Host.history c.args.host))) (Some (output_text after))) (sym c.pause.ensures.console) on in
    broken-between f c.args.console.now c.pause.new.console c.args.places.now mid kept _ (g.H.Host.history c.args.host) (g.H.Host.history c.loop-fault.host) before after
    c.break_run-in-Ok-true.result c.loop-fault.sitting.steps steps (Ok true) less c.loop-fault.invariant.made
    (broken-runs (form_of f.is_raw) (input_of f.is_live) _ _ _ _ c.make_round-given.new.sitting _ _ _ _ _ _ (c.make_round-given.ensures.input ∙ c.loop-fault.invariant.input) (c.break_run-in-Ok-true.ensures.runs _ _ _ _ _ _) now)
    c.break_run-in-Ok-true.ensures.ended (subst (λ w. HasPrinted (g.H.Host.history c.loop-fault.host) before w) none c.make_round-given.ensures.prints)
    (subst (λ s. DoesBetween f steps s mid kept before (Ok true) after) (sym c.pause.ensures.console) does)
    (refl, c.break_run-in-Ok-true.ensures.save) c.break_run-in-Ok-true.ensures.fault

pub returns-in-Err-pause : goal.returns-in-Err-pause
returns-in-Err-pause g c =
    let f = c.args.form.now in
    let part = c.make_round-given.result.2 in
    let before = g.H.Host.history c.make_round-given.result.0 in
    let after = g.H.Host.history c.pause.new.host in
    let is : part ≡ Ok None = c.in-Ok-None.is ∙ ap (λ x. Ok x) (rw (c.in-Ok-None.is) at c.in-Ok-None.field-0-is) in
    let less = pause-less c.unwrap_or-most.result 1048576 c.soonest_pause-soonest.result c.loop-fault.sitting c.make_round-given.new.sitting part is c.make_round-given.ensures.pause in
    let mid : SavedPlaces = (c.loop-fault.places, c.loop-fault.last) in
    let kept : SavedPlaces = (c.pause.new.places, c.pause.new.last) in
    let steps = c.make_round-given.new.sitting.steps in
    let come = part-comes (form_of f.is_raw) (input_of f.is_live) _ _ _ _ _ _ _ _ _ _ _ _ _ part (Ok None) c.loop-fault.invariant.input is (c.make_round-given.ensures.runs _ _ _ _) c.loop-fault.invariant.come in
    let does = subst (λ k. DoesBetween f k c.make_round-given.new.console mid kept before (Err c.in-Err-pause.unsaved) after) c.steps-steps.ensures (c.in-Err-pause.ensures {u = tt}).does in
    let none = none-is c.make_round-given.result.1 (sym c.is_some.ensures ∙ c.if-is_some.false) in
    let on = come-on _ _ _ _ _ _ _ _ before after come (between-text f steps c.make_round-given.new.console mid kept before (Err c.in-Err-pause.unsaved) after does) in
    let now = subst (λ s. HasCome console_acts (form_of f.is_raw) (input_of f.is_live) c.args.console.now s c.make_round-given.new.sitting (g.I.ByteReader.remaining c.args.keys.now)
    (g.I.ByteReader.remaining c.make_round-given.new.keys) (Some (output_text (g.H.Host.history c.args.host))) (Some (output_text after))) (sym c.pause.ensures.console) on in
    broken-between f c.args.console.now c.pause.new.console c.args.places.now mid kept _ (g.H.Host.history c.args.host) (g.H.Host.history c.loop-fault.host) before after
    c.break_run-in-Err-pause.result c.loop-fault.sitting.steps steps (Err c.in-Err-pause.unsaved) less c.loop-fault.invariant.made
    (broken-runs (form_of f.is_raw) (input_of f.is_live) _ _ _ _ c.make_round-given.new.sitting _ _ _ _ _ _ (c.make_round-given.ensures.input ∙ c.loop-fault.invariant.input) (c.break_run-in-Err-pause.ensures.runs _ _ _ _ _ _) now)
    c.break_run-in-Err-pause.ensures.ended (subst (λ w. HasPrinted (g.H.Host.history c.loop-fault.host) before w) none c.make_round-given.ensures.prints)
    (subst (λ s. DoesBetween f steps s mid kept before (Err c.in-Err-pause.unsaved) after) (sym c.pause.ensures.console) does)
    c.break_run-in-Err-pause.ensures.save c.break_run-in-Err-pause.ensures.fault
