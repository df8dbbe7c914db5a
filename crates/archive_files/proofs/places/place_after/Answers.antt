use Rattle.std.proofs.Common.{refl}
use Rattle.std.proofs.lemmas.Bool.{ne_eqb}
use Rattle.archive_files.proofs.PlaceLemmas.{following-byte, following-lf}
use Rattle.archive_files.proofs.places.place_after.Goals as goal

pub returns-then-byte-eq-LF-clause-place : goal.returns-then-byte-eq-LF-clause-place
returns-then-byte-eq-LF-clause-place c = rw c.if-byte-eq-LF.true (λ before is. following-lf before c.args.place _ refl refl is)

pub returns-clause-place : goal.returns-clause-place
returns-clause-place c = λ before is. following-byte before c.args.byte c.args.place _ (ne_eqb c.args.byte 10 c.if-byte-eq-LF.false) refl refl is
