use Rattle.std.proofs.Common.{◌≡◌, ◌+◌, ◌++◌, true, length, map}
use Rattle.char_pack.specs.Texts.{is_storable}
use Rattle.archive_files.specs.HostTexts.{file_text}
use Rattle.archive_files.proofs.texts.with_top_bits.Given as goal

abbrev pub invariant-loop-rest : goal.invariant-loop-rest
invariant-loop-rest l = record {
  frames : l.frames.items ++ map (λ c. 128 + c) (file_text l.rest) ≡ map (λ c. 128 + c) (file_text l.fn.text);
  storable : is_storable l.rest ≡ true;
}

abbrev pub decreases-loop-rest : goal.decreases-loop-rest
decreases-loop-rest l = length l.rest
