use Rattle.std.proofs.Common.{ℕ, List, [], length, refl, subst, arith}
use Rattle.std.proofs.lemmas.Result.{err_from_is_err_and}
use Rattle.bin_tape.specs.MapSteps.{HasReadTo}
use Rattle.bin_tape.proofs.MapLemmas.{first_and_others, ended}
use Rattle.bin_tape.proofs.maps.read_words.Goals as goal

pub loop-rest-init : goal.loop-rest-init
loop-rest-init c = record { before = []; split = refl; out = []; read = c.new-reader.ensures; holds = c.requires.none }

pub returns-in_err-take_frame : goal.returns-in_err-take_frame
returns-in_err-take_frame c =
    let p = err_from_is_err_and c.from_residual.result c.from_residual.ensures.1 in
    let rest = c.loop-rest.rest.now in
    rw (p.1, p.2)
    (c.in_err-take_frame.ensures _ _
    (subst (λ (left : List ℕ). HasReadTo c.args.frames.now left c.loop-rest.reader c.loop-rest.words)
    (first_and_others rest (length rest) c.in-len1-up.len_at_least refl)
    c.loop-rest.invariant))

pub returns-then-branch : goal.returns-then-branch
returns-then-branch c =
    let rest = c.loop-rest.rest.now in
    rw c.if-branch.true at
    (c.in_ok-take_frame.ensures _ _
    (subst (λ (left : List ℕ). HasReadTo c.args.frames.now left c.loop-rest.reader c.loop-rest.words)
    (first_and_others rest (length rest) c.in-len1-up.len_at_least refl)
    c.loop-rest.invariant))

pub loop-rest-preserved : goal.loop-rest-preserved
loop-rest-preserved c =
    let rest = c.loop-rest.rest.now in
    c.take_pairs-rest.ensures.read _
    (rw c.if-branch.false at
    (c.in_ok-take_frame.ensures _ _
    (subst (λ (left : List ℕ). HasReadTo c.args.frames.now left c.loop-rest.reader c.loop-rest.words)
    (first_and_others rest (length rest) c.in-len1-up.len_at_least refl)
    c.loop-rest.invariant)))

pub returns : goal.returns
returns c = ended c.args.frames.now c.loop-rest.rest.now c.loop-rest.reader c.loop-rest.words c.end.result (omega arith) c.loop-rest.invariant c.end.ensures
