-- What is there.
use Rattle.command_table.proofs.Names.{◌≡◌, Some}

pub some_eq : {X : Type 0} (x y : X) → Some x ≡ Some y → x ≡ y
some_eq x y same = cc
