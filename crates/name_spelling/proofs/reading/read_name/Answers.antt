use Rattle.std.proofs.Common.{refl, ap}
use Rattle.std.specs.Prelude.{Some}
use Rattle.name_spelling.proofs.reading.read_name.Goals as goal

pub returns-in_err-words : goal.returns-in_err-words
returns-in_err-words c =
    rw (c.from_residual.ensures, ← c.dot_in.ensures.place, ← c.split_at.ensures.front, ← c.stem_in.ensures, c.in_err-words.was) refl

pub returns : goal.returns
returns c =
    rw
    (← c.dot_in.ensures.place, ← c.split_at.ensures.front, ← c.split_at.ensures.back, ← c.stem_in.ensures, ← c.extension_in.ensures, c.in_ok-words.was, c.in_ok-extension.was)
    (ap (λ n. Some n) c.of.ensures.number)
