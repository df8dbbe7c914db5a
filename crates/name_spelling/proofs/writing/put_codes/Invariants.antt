use Rattle.std.proofs.Common.{◌≡◌, ◌≤◌, ◌+◌, ◌*◌, ◌++◌, length}
use Rattle.arrayvec.specs.ArrayVec.{array_vec_len}
use Rattle.name_spelling.specs.Spelling.{spelled_codes}
use Rattle.name_spelling.proofs.writing.put_codes.Given as goal

abbrev pub invariant-loop-rest : goal.invariant-loop-rest
invariant-loop-rest l = record {
  text : l.line.items ++ spelled_codes l.rest ≡ l.fn.line.items ++ spelled_codes l.fn.codes;
  short : array_vec_len l.line + 3 * length l.rest ≤ array_vec_len l.fn.line + 3 * length l.fn.codes;
}

abbrev pub decreases-loop-rest : goal.decreases-loop-rest
decreases-loop-rest l = length l.rest
