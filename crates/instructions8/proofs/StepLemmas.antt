-- A step does each word of an instruction as its row.
use Rattle.std.proofs.Common.{◌≡◌, ℕ, ◌+◌, ◌*◌, ◌<◌, None, refl, ◌∙◌}
use Rattle.cpu8.specs.State.{State}
use Rattle.cpu8.specs.Transfer.{cdf_row, cif_row}
use Rattle.cpu8.specs.Step.{after_instruction, step}
use Rattle.cpu8.specs.Laws.{IsNextWord}
use Rattle.cpu8.specs.declared.outcomes.Stepped.TheVariants.{Ran}
use Rattle.instructions8.specs.Instructions.{instructions, Each}
use Rattle.instructions8.specs.Steps.{IsDone}
use Rattle.instructions8.proofs.RowLemmas.{◌⊗◌, of_fields}

stepped : (word : ℕ) (s : State) → IsNextWord word s → step s ≡ after_instruction s word
unfolding step
stepped word s next = rw (next.running, next.undisturbed, next.fetches) refl

cdf : (field : ℕ) → field < 8 → (s : State) → IsNextWord (0o6201 + 0o10 * field) s → step s ≡ (cdf_row s field, Ran None)
unfolding after_instruction
cdf = of_fields (λ field. (s : State) → IsNextWord (0o6201 + 0o10 * field) s → step s ≡ (cdf_row s field, Ran None)) (stepped 0o6201, stepped 0o6211, stepped 0o6221, stepped 0o6231, stepped 0o6241, stepped 0o6251, stepped 0o6261, stepped 0o6271)

cif : (field : ℕ) → field < 8 → (s : State) → IsNextWord (0o6202 + 0o10 * field) s → step s ≡ (cif_row s field, Ran None)
unfolding after_instruction
cif = of_fields (λ field. (s : State) → IsNextWord (0o6202 + 0o10 * field) s → step s ≡ (cif_row s field, Ran None)) (stepped 0o6202, stepped 0o6212, stepped 0o6222, stepped 0o6232, stepped 0o6242, stepped 0o6252, stepped 0o6262, stepped 0o6272)

pub done : Each IsDone instructions
unfolding instructions after_instruction
done =
    (λ word s top next. stepped word s next ∙ rw top refl)
    ⊗ (λ word s top next. stepped word s next ∙ rw top refl)
    ⊗ (λ word s top next. stepped word s next ∙ rw top refl)
    ⊗ (λ word s top next. stepped word s next ∙ rw top refl)
    ⊗ (λ word s top next. stepped word s next ∙ rw top refl)
    ⊗ (λ word s top next. stepped word s next ∙ rw top refl)
    ⊗ record { bits_are = refl; steps = stepped 0o7000 }
    ⊗ record { bits_are = refl; steps = stepped 0o7001 }
    ⊗ record { bits_are = refl; steps = stepped 0o7004 }
    ⊗ record { bits_are = refl; steps = stepped 0o7006 }
    ⊗ record { bits_are = refl; steps = stepped 0o7010 }
    ⊗ record { bits_are = refl; steps = stepped 0o7012 }
    ⊗ record { bits_are = refl; steps = stepped 0o7020 }
    ⊗ record { bits_are = refl; steps = stepped 0o7040 }
    ⊗ record { bits_are = refl; steps = stepped 0o7041 }
    ⊗ record { bits_are = refl; steps = stepped 0o7100 }
    ⊗ record { bits_are = refl; steps = stepped 0o7120 }
    ⊗ (record { bits_are = refl; steps = stepped 0o7200 }, record { bits_are = refl; steps = stepped 0o7600 })
    ⊗ record { bits_are = refl; steps = stepped 0o7204 }
    ⊗ record { bits_are = refl; steps = stepped 0o7240 }
    ⊗ record { bits_are = refl; steps = stepped 0o7402 }
    ⊗ record { bits_are = refl; steps = stepped 0o7404 }
    ⊗ record { bits_are = refl; steps = stepped 0o7410 }
    ⊗ record { bits_are = refl; steps = stepped 0o7420 }
    ⊗ record { bits_are = refl; steps = stepped 0o7430 }
    ⊗ record { bits_are = refl; steps = stepped 0o7440 }
    ⊗ record { bits_are = refl; steps = stepped 0o7450 }
    ⊗ record { bits_are = refl; steps = stepped 0o7500 }
    ⊗ record { bits_are = refl; steps = stepped 0o7510 }
    ⊗ record { bits_are = refl; steps = stepped 0o7604 }
    ⊗ stepped 0o6001
    ⊗ stepped 0o6002
    ⊗ stepped 0o6011
    ⊗ stepped 0o6012
    ⊗ stepped 0o6014
    ⊗ stepped 0o6021
    ⊗ stepped 0o6022
    ⊗ stepped 0o6024
    ⊗ stepped 0o6026
    ⊗ stepped 0o6031
    ⊗ stepped 0o6032
    ⊗ stepped 0o6034
    ⊗ stepped 0o6036
    ⊗ stepped 0o6041
    ⊗ stepped 0o6042
    ⊗ stepped 0o6044
    ⊗ stepped 0o6046
    ⊗ cdf
    ⊗ cif
    ⊗ stepped 0o6214
    ⊗ stepped 0o6224
    ⊗ stepped 0o6234
    ⊗ stepped 0o6244
    ⊗ tt
