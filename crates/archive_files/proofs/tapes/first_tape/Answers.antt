use Rattle.std.proofs.Common.{◌≡◌, ℕ, ◌<◌, suc, List, ◌∷◌, ◌++◌, length, take, drop, get_or, ap, sym, ◌∙◌, arith, subst}
use Rattle.std.proofs.lemmas.List.{take-append-drop}
use Rattle.std.proofs.Math.Seq.{drop-cons}
use Rattle.std.proofs.lemmas.List.{length-take-le}
use Rattle.std.proofs.lemmas.Result.{err_from_is_err_and}
use Rattle.bin_tape.specs.Fault.{IsFault}
use Rattle.archive_files.proofs.tapes.first_tape.Goals as goal

split_at : (xs : List ℕ) (i : ℕ) → i < length xs → xs ≡ take i xs ++ get_or xs i 0 ∷ drop (suc i) xs
split_at xs i inside = sym (take-append-drop i xs) ∙ ap (λ l. take i xs ++ l) (drop-cons xs i 0 inside)

pub returns-in_err-is_end : goal.returns-in_err-is_end
returns-in_err-is_end c =
    let p = err_from_is_err_and c.from_residual.result c.from_residual.ensures.1 in
    let frames = c.args.frames.now in
    let place = c.loop-place.place in
    rw (p.1, p.2)
    (subst (λ (l : List ℕ). IsFault l c.in_err-is_end.field-0.0) (sym (split_at frames place c.loop-place-test.true))
    (c.in_err-is_end.ensures (take place frames) c.loop-place.invariant (drop (suc place) frames)))

pub returns-then-branch : goal.returns-then-branch
returns-then-branch c =
    let frames = c.args.frames.now in
    let place = c.loop-place.place in
    let tape = rw c.if-branch.true at (c.in_ok-is_end.ensures (take place frames) c.loop-place.invariant) in
    record {
      before = take place frames;
      frame = get_or frames place 0;
      following = drop (suc place) frames;
      items = tape.0.0;
      file_is = split_at frames place c.loop-place-test.true;
      is_tape = tape.0.1;
      none_before = tape.1;
      count_is = let size = length-take-le place frames (omega (arith, c.loop-place-test.true)) in omega (arith, size);
    }
