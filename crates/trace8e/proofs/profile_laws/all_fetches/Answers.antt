use Rattle.std.proofs.Common.{refl, sym}
use Rattle.cpu8.specs.State.{next_cell}
use Rattle.pdp8e.specs.Terminal.{later}
use Rattle.trace8e.proofs.CountLemmas.{count-here, count-other, count-still}
use Rattle.trace8e.proofs.profile_laws.all_fetches.Goals as goal

pub returns : goal.returns
returns c = record {
  counted = λ k t fetch. count-here k t (next_cell (later k t).machine.processor.base) fetch refl;
  others = λ k t cell apart. count-other k t cell (λ same. apart (sym same));
  interrupts = λ k t cell none. count-still k t cell none;
}
