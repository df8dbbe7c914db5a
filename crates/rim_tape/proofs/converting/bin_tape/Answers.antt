use Rattle.std.proofs.Common.{ℕ, List, [], append-nil, ap, sym, subst, ◌∙◌}
use Rattle.bin_tape.specs.Pairs.{ArePairs, IsTapeOf}
use Rattle.bin_tape.specs.Writing.{tape_of}
use Rattle.rim_tape.proofs.converting.bin_tape.Goals as goal

pub returns : goal.returns
returns c =
    let pairs = c.in_ok-pairs.pairs.items in
    record {
      pairs = pairs;
      is_rim = c.in_ok-pairs.ensures;
      is_bin =
          subst (λ (frames : List ℕ). IsTapeOf frames pairs)
          (append-nil (tape_of pairs) ∙ sym (c.in_ok-bin.ensures.tape ∙ ap tape_of c.deref.ensures.value))
          (c.written_tape.ensures pairs []
          (subst (λ (given : List (ℕ × ℕ)). ArePairs given) c.deref.ensures.value c.in_ok-bin.ensures.pairs)
          c.in_ok-pairs.ensures.some);
    }
