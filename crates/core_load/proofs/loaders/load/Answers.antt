use Rattle.std.proofs.Common.{◌≡◌, ℕ, ◌<◌, suc, List, ◌∷◌, ◌++◌, length, take, drop, get_or, ap, sym, ◌∙◌, arith, subst}
use Rattle.std.proofs.lemmas.List.{take-append-drop, take_all}
use Rattle.std.proofs.Math.Seq.{drop-cons}
use Rattle.std.proofs.lemmas.Result.{err_from_is_err_and}
use Rattle.bin_tape.specs.Tape.{IsTape}
use Rattle.core_load.proofs.FedLemmas.{load_refused}
use Rattle.core_load.proofs.loaders.load.Goals as goal

split_at : (xs : List ℕ) (i : ℕ) → i < length xs → xs ≡ take i xs ++ get_or xs i 0 ∷ drop (suc i) xs
split_at xs i inside = sym (take-append-drop i xs) ∙ ap (λ l. take i xs ++ l) (drop-cons xs i 0 inside)

pub returns-in_err-push : goal.returns-in_err-push
returns-in_err-push c =
    let p = err_from_is_err_and c.from_residual.result c.from_residual.ensures.1 in rw (p.1, p.2)
    (load_refused c.args.frames.now (take c.loop-frame.frame-index c.args.frames.now) (drop (suc c.loop-frame.frame-index) c.args.frames.now) _ _ _ _ _
    (split_at c.args.frames.now c.loop-frame.frame-index c.loop-frame-test.true)
    (c.in_err-push.ensures _ c.loop-frame.invariant))

pub returns : goal.returns
returns c =
    let whole = c.in_ok-end.ensures _ c.loop-frame.invariant in
    record {
      items = whole.items;
      is_tape = subst (λ (frames : List ℕ). IsTape frames whole.items) (take_all c.loop-frame.frame-index c.args.frames.now (omega arith)) whole.is_tape;
      overlaid = c.lay.ensures _ whole.items c.loop-frame.invariant whole.is_tape;
    }
