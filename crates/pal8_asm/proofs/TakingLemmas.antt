-- Statements, one at a time.
use Rattle.std.proofs.Common.{◌≡◌, true, false, if◌then◌else◌, is_some, Option, None, Ok, Err, List, ap, ◌∙◌}
use Rattle.pal8_asm.specs.Sources.{Entry, Remainder, Statement, with_next, with_selected, with_skipped}
use Rattle.pal8_places.specs.Brackets.{is_selected}
use Rattle.pal8_asm.specs.Steps.{TakesStatement}
use Rattle.pal8_asm.specs.Assembling.{Progress, Takes}
use Rattle.pal8_asm.specs.declared.faults.AsmFault.{AsmFault}
use Rattle.pal8_asm.specs.declared.faults.AsmFault.TheVariants.{At, Memory}
use Rattle.pal8_asm.specs.declared.faults.Place.{Place}
use Rattle.pal8_asm.specs.declared.walks.Walk.{Walk}

-- a selected statement that has a fault
pub take_fails : (s : Statement) (before : Remainder) (walk : Walk) (entries : List Entry) (end : Option Place) (new : Progress) (fault : AsmFault)
    → is_some before.end ≡ false → is_selected before.brackets ≡ true
    → TakesStatement (with_selected s record { standing = before.standing; entries = before.entries; brackets = before.brackets; end = None }) (Err fault) walk entries end
    → Takes (with_next s (Ok before)) (Err fault) new
take_fails s before walk entries end new (At code place) none selected takes =
    ap (λ b. if b then Ok before else (if is_selected before.brackets then with_selected s before else Ok (with_skipped s before))) none
    ∙ ap (λ b. if b then with_selected s before else Ok (with_skipped s before)) selected ∙ takes
take_fails s before walk entries end new Memory none selected takes = tt
