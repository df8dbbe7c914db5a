use Rattle.std.proofs.Common.{refl}
use Rattle.os8_dir.proofs.NameLemmas.{parsed_name-joined}
use Rattle.os8_dir.proofs.SpelledLemmas.{named}
use Rattle.os8_dir.proofs.names.Name.parse.Goals as goal

pub returns-in_err-prefix : goal.returns-in_err-prefix
returns-in_err-prefix c = record {
  name = rw (c.from_residual.ensures, parsed_name-joined c.args.text.now, ← c.dot_in.ensures.place, ← c.split_at.ensures.front, ← c.packed_within.ensures.number, c.in_err-prefix.was) refl;
  named = rw c.from_residual.ensures tt;
}

pub returns-in_err-following : goal.returns-in_err-following
returns-in_err-following c = record {
  name = rw (c.from_residual-in_err-following.ensures, parsed_name-joined c.args.text.now, ← c.dot_in.ensures.place, ← c.split_at.ensures.front, ← c.split_at.ensures.back, ← c.packed_within.ensures.number, ← c.packed_extension.ensures.number, c.in_ok-prefix.was, c.in_err-following.was) refl;
  named = rw c.from_residual-in_err-following.ensures tt;
}

pub returns : goal.returns
returns c = record {
  name = rw (parsed_name-joined c.args.text.now, ← c.dot_in.ensures.place, ← c.split_at.ensures.front, ← c.split_at.ensures.back, ← c.packed_within.ensures.number, ← c.packed_extension.ensures.number, c.in_ok-prefix.was, c.in_ok-following.was) refl;
  named = named c.args.text.now _ (rw (parsed_name-joined c.args.text.now, ← c.dot_in.ensures.place, ← c.split_at.ensures.front, ← c.split_at.ensures.back, ← c.packed_within.ensures.number, ← c.packed_extension.ensures.number, c.in_ok-prefix.was, c.in_ok-following.was) refl);
}
