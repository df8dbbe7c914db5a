use Rattle.std.proofs.Common.{ℕ, List, [], length, ◌<◌, append-nil, ap, sym, subst, ◌∙◌}
use Rattle.bin_tape.specs.Pairs.{ArePairs, IsTapeOf}
use Rattle.bin_tape.specs.Writing.{tape_of}
use Rattle.core_image.proofs.ReadLemmas.{image_has_word}
use Rattle.core_image.proofs.converting.bin_tape.Goals as goal

pub tape_of-requires : goal.tape_of-requires
tape_of-requires c =
    subst (λ (given : List (ℕ × ℕ)). 0 < length given) (sym c.deref.ensures.value) (image_has_word _ _ _ _ c.in_ok-image.ensures)

pub returns : goal.returns
returns c =
    let pairs = c.in_ok-image.image.pairs.items in
    record {
      pairs = pairs;
      status = c.in_ok-image.image.status;
      is_image = c.in_ok-image.ensures;
      is_bin =
          subst (λ (frames : List ℕ). IsTapeOf frames pairs)
          (append-nil (tape_of pairs) ∙ sym (c.in_ok-bin.ensures.tape ∙ ap tape_of c.deref.ensures.value))
          (c.written_tape.ensures pairs []
          (subst (λ (given : List (ℕ × ℕ)). ArePairs given) c.deref.ensures.value c.in_ok-bin.ensures.pairs)
          (image_has_word _ _ _ _ c.in_ok-image.ensures));
    }
