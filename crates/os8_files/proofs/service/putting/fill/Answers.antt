use Rattle.std.proofs.Common.{◌++◌, ◌∙◌, ℕ, List, [], refl, sym, ap, subst, arith, drop, take-append-drop, append_assoc}
use Rattle.std.proofs.lemmas.Result.{err_from_is_err_and}
use Rattle.os8_files.specs.Calls.{HasWritten}
use Rattle.os8_files.proofs.PutLemmas.{filled_none, filled_more, filled_not, begun_now}
use Rattle.os8_files.proofs.service.putting.fill.Goals as goal

pub loop-written-init : goal.loop-written-init
loop-written-init g c = record {
  left = (omega (arith, c.requires.whole), omega arith);
  text = ([], c.requires.beginning.begun, refl, filled_none _ _ _ c.requires.beginning, c.requires.beginning.fits, c.requires.beginning.name);
  token = refl;
}

pub write-requires : goal.write-requires
write-requires g c = let t = c.loop-written.invariant.text in (_, begun_now _ t.1 t.0 _ _ t.3, t.5)

pub loop-written-preserved : goal.loop-written-preserved
loop-written-preserved g c =
    let t = c.loop-written.invariant.text in
    let prefix = c.split_at.result.0.now in
    record {
      left = (omega (arith, c.loop-written.invariant.left.0, c.split_at.ensures.back_len), omega (arith, c.loop-written-test.true));
      text = (
        t.0 ++ prefix,
        t.1,
        t.2 ∙ ap (λ (l : List ℕ). t.0 ++ l) (sym (take-append-drop 256 c.loop-written.rest.now) ∙ ap (λ (l : List ℕ). l ++ drop 256 c.loop-written.rest.now) (sym c.split_at.ensures.front) ∙ ap (λ (l : List ℕ). prefix ++ l) (sym c.split_at.ensures.back)) ∙ sym (append_assoc t.0 prefix _),
        filled_more _ t.1 t.0 prefix _ _ _ t.3 (subst (λ (l : List ℕ). HasWritten c.loop-written.files l c.write.new.self) c.copy_from_slice.ensures.after c.in_ok-write.ensures.call),
        t.4,
        t.5 ∙ sym c.in_ok-write.ensures.token,
      );
      token = c.in_ok-write.ensures.token ∙ c.loop-written.invariant.token;
    }

pub returns-in_err-write-clause-call : goal.returns-in_err-write-clause-call
returns-in_err-write-clause-call g c =
    let p = err_from_is_err_and c.from_residual.result c.from_residual.ensures.1 in
    let t = c.loop-written.invariant.text in
    rw (p.1, p.2) (filled_not _ t.1 t.0 c.copy_from_slice.new.self c.args.words.now _ _ _ _ c.in_err-write.field-0.0 c.requires.beginning.running t.3 t.4 c.loop-written-test.true c.in_err-write.ensures.call)
