use Rattle.std.proofs.Common.{◌≡◌, ◌++◌, true, length}
use Rattle.char_pack.specs.StoreSteps.{packed_text}
use Rattle.char_pack.specs.Texts.{is_storable}
use Rattle.char_pack.specs.declared.storing.Held.TheVariants.{Nothing}
use Rattle.char_pack.proofs.storing.push_text.Given as goal

abbrev pub invariant-loop-rest : goal.invariant-loop-rest
invariant-loop-rest l = record {
  words : l.words.items ++ packed_text l.held l.rest ≡ l.fn.words.items ++ packed_text Nothing l.fn.host;
  storable : is_storable l.rest ≡ true;
}

abbrev pub decreases-loop-rest : goal.decreases-loop-rest
decreases-loop-rest l = length l.rest
