-- The cells of a step's stores.
use Rattle.std.proofs.Common.{◌≡◌, ℕ, ◌/◌, Bool, true, false, nat_eq, if◌then◌else◌, List, [], ◌∷◌, ◌++◌, map, refl, ap, ◌∙◌}
use Rattle.std.proofs.lemmas.Bool.{ne_eqb}
use Rattle.std.proofs.lemmas.List.{map-append}
use Rattle.cpu8.specs.State.{State, grants_interrupt, place}
use Rattle.cpu8.specs.Decoding.{operation_of}
use Rattle.cpu8.specs.Reference.{effective_address, operand_place, next_operand}
use Rattle.cpu8.specs.Step.{next_word}
use Rattle.cpu8.specs.Stores.{Store, stores, index_stores, instruction_stores}

abbrev pub cells_of : List Store → List ℕ
cells_of list = map (λ store. store.cell) list

pub stores-stopped : (s : State) → s.running ≡ false → cells_of (stores s) ≡ []
stores-stopped s stopped = rw stopped refl

pub stores-interrupt : (s : State) → s.running ≡ true → grants_interrupt s ≡ true → cells_of (stores s) ≡ 0 ∷ []
stores-interrupt s runs granted = ap (λ b. cells_of (let xs : List Store = if b then (if grants_interrupt s then record { cell = 0; word = s.pc } ∷ []
    else instruction_stores (operation_of (next_word s)) s (next_word s)) else [] in xs)) runs
    ∙ ap (λ b. cells_of (let xs : List Store = if b then record { cell = 0; word = s.pc } ∷ []
    else instruction_stores (operation_of (next_word s)) s (next_word s) in xs)) granted

pub stores-instruction : (s : State) → s.running ≡ true → grants_interrupt s ≡ false
    → cells_of (stores s) ≡ cells_of (instruction_stores (operation_of (next_word s)) s (next_word s))
stores-instruction s runs granted = ap (λ b. cells_of (let xs : List Store = if b then (if grants_interrupt s then record { cell = 0; word = s.pc } ∷ []
    else instruction_stores (operation_of (next_word s)) s (next_word s)) else [] in xs)) runs
    ∙ ap (λ b. cells_of (let xs : List Store = if b then record { cell = 0; word = s.pc } ∷ []
    else instruction_stores (operation_of (next_word s)) s (next_word s) in xs)) granted

-- ## By the operation

pub index-0 : (s : State) (w : ℕ) → w / 0o1000 ≡ 0 → cells_of (instruction_stores (operation_of w) s w) ≡ cells_of (index_stores s w)
index-0 s w e = rw e refl

pub index-1 : (s : State) (w : ℕ) → w / 0o1000 ≡ 1 → cells_of (instruction_stores (operation_of w) s w) ≡ cells_of (index_stores s w)
index-1 s w e = rw e refl

pub index-5 : (s : State) (w : ℕ) → w / 0o1000 ≡ 5 → cells_of (instruction_stores (operation_of w) s w) ≡ cells_of (index_stores s w)
index-5 s w e = rw e refl

pub operand-2 : (s : State) (w : ℕ) → w / 0o1000 ≡ 2 → cells_of (instruction_stores (operation_of w) s w) ≡ cells_of (index_stores s w) ++ operand_place s w ∷ []
operand-2 s w e = rw e (map-append (λ store. store.cell) (index_stores s w) (record { cell = operand_place s w; word = next_operand s w } ∷ []))

pub operand-3 : (s : State) (w : ℕ) → w / 0o1000 ≡ 3 → cells_of (instruction_stores (operation_of w) s w) ≡ cells_of (index_stores s w) ++ operand_place s w ∷ []
operand-3 s w e = rw e (map-append (λ store. store.cell) (index_stores s w) (record { cell = operand_place s w; word = s.ac } ∷ []))

pub entry-4 : (s : State) (w : ℕ) → w / 0o1000 ≡ 4
    → cells_of (instruction_stores (operation_of w) s w) ≡ cells_of (index_stores s w) ++ place s.instruction_buffer (effective_address s w) ∷ []
entry-4 s w e = rw e (map-append (λ store. store.cell) (index_stores s w) (record { cell = place s.instruction_buffer (effective_address s w); word = _ } ∷ []))

no-cells : (s : State) (w : ℕ) → nat_eq (w / 0o1000) 0 ≡ false → nat_eq (w / 0o1000) 1 ≡ false → nat_eq (w / 0o1000) 2 ≡ false → nat_eq (w / 0o1000) 3 ≡ false
    → nat_eq (w / 0o1000) 4 ≡ false → nat_eq (w / 0o1000) 5 ≡ false → (b : Bool) → nat_eq (w / 0o1000) 6 ≡ b → cells_of (instruction_stores (operation_of w) s w) ≡ []
no-cells s w e0 e1 e2 e3 e4 e5 true e6 = rw (e0, e1, e2, e3, e4, e5, e6) refl
no-cells s w e0 e1 e2 e3 e4 e5 false e6 = rw (e0, e1, e2, e3, e4, e5, e6) refl

not-eq : (a b : ℕ) → (a ≡ b → ⊥) → nat_eq a b ≡ false
not-eq a b differ = ne_eqb a b differ

pub none-else : (s : State) (w r : ℕ) → r ≡ w / 0o1000 → (r ≡ 0 → ⊥) → (r ≡ 1 → ⊥) → (r ≡ 2 → ⊥) → (r ≡ 3 → ⊥) → (r ≡ 4 → ⊥) → (r ≡ 5 → ⊥)
    → cells_of (instruction_stores (operation_of w) s w) ≡ []
none-else s w r e n0 n1 n2 n3 n4 n5 =
    no-cells s w (not-eq (w / 0o1000) 0 (λ i. n0 (e ∙ i))) (not-eq (w / 0o1000) 1 (λ i. n1 (e ∙ i))) (not-eq (w / 0o1000) 2 (λ i. n2 (e ∙ i)))
    (not-eq (w / 0o1000) 3 (λ i. n3 (e ∙ i))) (not-eq (w / 0o1000) 4 (λ i. n4 (e ∙ i))) (not-eq (w / 0o1000) 5 (λ i. n5 (e ∙ i))) (nat_eq (w / 0o1000) 6) refl
