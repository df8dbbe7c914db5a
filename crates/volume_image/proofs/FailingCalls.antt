-- Which call fails, counted from the first.
use Rattle.std.proofs.Common.{zero, suc, refl, ap, arith, rules}
use Rattle.volume_image.specs.Fuse.{OneCallFails, NoCallFails}

pub no_call_fails : NoCallFails
no_call_fails zero = refl
no_call_fails (suc calls) = no_call_fails calls

pub one_call_fails : OneCallFails
one_call_fails zero zero = search rules
one_call_fails zero (suc passes) = search rules
one_call_fails (suc calls) zero = rw (no_call_fails calls) (search rules)
one_call_fails (suc calls) (suc passes) =
    let same = one_call_fails calls passes in
    (λ h. ap suc (same.0 h), λ e. same.1 (omega arith))
