use Rattle.std.proofs.Common.{◌+◌, ◌++◌, ◌∙◌, List, ℕ, ap, sym, subst, inl, inr, arith, length, length-append, append-nil}
use Rattle.std.specs.Io.KnownBytes.{Consumes}
use Rattle.std.proofs.lemmas.Result.{err_from_is_err_and}
use Rattle.std.proofs.lemmas.List.{length-take}
use Rattle.script8.proofs.ByteLemmas.{consumes_more}
use Rattle.script8.proofs.readings.read_within.Goals as goal

pub slice_bounds-read_piece-end : goal.slice_bounds-read_piece-end
slice_bounds-read_piece-end g c = omega (arith, length-take c.min-room.result c.deref_mut.result.now, c.min-room.ensures, c.deref_mut.ensures.len, c.loop-bytes.invariant.piece)

pub returns-in_err-read_piece-clause-read : goal.returns-in_err-read_piece-clause-read
returns-in_err-read_piece-clause-read g c =
    let p = err_from_is_err_and c.from_residual-in_err-read_piece.result c.from_residual-in_err-read_piece.ensures.1 in
    let last = c.in_err-read_piece.ensures.read in
    let before = c.loop-bytes.bytes.items in
    rw (p.1, p.2)
    (elim last.4 [
      | inl is ↦ inl (
        is.0,
        subst (λ (l : List ℕ). Consumes (g.R.ByteReader.remaining c.args.reader.now) (g.R.ByteReader.remaining c.read_piece.new.reader) l) (ap (λ l. before ++ l) is.1 ∙ append-nil before ∙ sym last.2) (consumes_more _ _ _ before last.0 c.loop-bytes.invariant.taken last.1),
        omega (arith, ap length last.2, c.loop-bytes.invariant.within),
      )
      | inr is ↦ inr (
        is,
        (
          length before + length last.0,
          record {
            bytes = before ++ last.0;
            taken = consumes_more _ _ _ before last.0 c.loop-bytes.invariant.taken last.1;
            count_is = length-append before last.0;
          },
          omega (arith, last.3, length-take c.min-room.result c.deref_mut.result.now, c.min-room.ensures, c.len-in-loop-bytes.ensures, c.loop-bytes.invariant.within),
        ),
      )
    ])
