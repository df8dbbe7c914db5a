-- A machine that runs makes its step.
use Rattle.std.proofs.Common.{◌≡◌, ℕ, ◌/◌, ◌%◌, Bool, true, false, nat_eq, if◌then◌else◌, None, refl}
use Rattle.cpu8.specs.State.{State, grants_interrupt}
use Rattle.cpu8.specs.Decoding.{operation_of, is_group_1, is_group_2, has_hlt}
use Rattle.cpu8.specs.Operate.{is_group1_unassigned, unassigned_row, group1_done, group1_row, group2_done, group2_row, operate_row}
use Rattle.cpu8.specs.Transfer.{transfer_row}
use Rattle.cpu8.specs.Step.{row, after_instruction, next_word, after_interrupt, step}
use Rattle.cpu8.specs.declared.outcomes.Stepped.{Stepped}
use Rattle.cpu8.specs.declared.outcomes.Stepped.TheVariants.{Stopped, Interrupted, Ran, Halted, Unassigned}

abbrev pub is_stop : Stepped → Bool
is_stop Stopped = true
is_stop Interrupted = false
is_stop (Ran printed) = false
is_stop Halted = false
is_stop (Unassigned word) = false

-- what is no stop
record Goes (r : State × Stepped) : Type 0 where
  goes : is_stop r.1 ≡ false

either : (b : Bool) (x y : State × Stepped) → Goes x → Goes y → Goes (if b then x else y)
either true x y hx hy = hx
either false x y hx hy = hy

halting : (x : State) (halts : Bool) → Goes (x, if halts then Halted else Ran None)
halting x true = record { goes = refl }
halting x false = record { goes = refl }

operate-goes : (s : State) (w : ℕ) → Goes (operate_row s w)
operate-goes s w =
    either (is_group_1 w) (group1_row s w) (if is_group_2 w then group2_row s w else unassigned_row s w)
    (either (is_group1_unassigned w) (unassigned_row s w) (group1_done s w, Ran None) (record { goes = refl }) (record { goes = refl }))
    (either (is_group_2 w) (group2_row s w) (unassigned_row s w) (halting (group2_done s w) (has_hlt w)) (record { goes = refl }))

-- by cases on the tests of an instruction's word
device-3 : (s : State) (w : ℕ) → nat_eq (w / 0o10 % 0o100) 0 ≡ false → nat_eq (w / 0o10 % 0o100) 3 ≡ false → nat_eq (w / 0o10 % 0o100) 4 ≡ false
    → (b : Bool) → nat_eq (w / 0o100 % 8) 2 ≡ b → Goes (transfer_row s w)
device-3 s w e0 e1 e2 true e3 = rw (e0, e1, e2, e3) (record { goes = refl })
device-3 s w e0 e1 e2 false e3 = rw (e0, e1, e2, e3) (record { goes = refl })

device-2 : (s : State) (w : ℕ) → nat_eq (w / 0o10 % 0o100) 0 ≡ false → nat_eq (w / 0o10 % 0o100) 3 ≡ false
    → (b : Bool) → nat_eq (w / 0o10 % 0o100) 4 ≡ b → Goes (transfer_row s w)
device-2 s w e0 e1 true e2 = rw (e0, e1, e2) (record { goes = refl })
device-2 s w e0 e1 false e2 = device-3 s w e0 e1 e2 (nat_eq (w / 0o100 % 8) 2) refl

device-1 : (s : State) (w : ℕ) → nat_eq (w / 0o10 % 0o100) 0 ≡ false → (b : Bool) → nat_eq (w / 0o10 % 0o100) 3 ≡ b → Goes (transfer_row s w)
device-1 s w e0 true e1 = rw (e0, e1) (record { goes = refl })
device-1 s w e0 false e1 = device-2 s w e0 e1 (nat_eq (w / 0o10 % 0o100) 4) refl

device-0 : (s : State) (w : ℕ) (b : Bool) → nat_eq (w / 0o10 % 0o100) 0 ≡ b → Goes (transfer_row s w)
device-0 s w true e0 = rw e0 (record { goes = refl })
device-0 s w false e0 = device-1 s w e0 (nat_eq (w / 0o10 % 0o100) 3) refl

transfer-goes : (s : State) (w : ℕ) → Goes (transfer_row s w)
transfer-goes s w = device-0 s w (nat_eq (w / 0o10 % 0o100) 0) refl

row-6 : (s : State) (w : ℕ) → nat_eq (w / 0o1000) 0 ≡ false → nat_eq (w / 0o1000) 1 ≡ false → nat_eq (w / 0o1000) 2 ≡ false → nat_eq (w / 0o1000) 3 ≡ false → nat_eq (w / 0o1000) 4 ≡ false → nat_eq (w / 0o1000) 5 ≡ false → (b : Bool) → nat_eq (w / 0o1000) 6 ≡ b → Goes (row (operation_of w) s w)
row-6 s w e0 e1 e2 e3 e4 e5 true e6 = rw (e0, e1, e2, e3, e4, e5, e6) (transfer-goes s w)
row-6 s w e0 e1 e2 e3 e4 e5 false e6 = rw (e0, e1, e2, e3, e4, e5, e6) (operate-goes s w)

row-5 : (s : State) (w : ℕ) → nat_eq (w / 0o1000) 0 ≡ false → nat_eq (w / 0o1000) 1 ≡ false → nat_eq (w / 0o1000) 2 ≡ false → nat_eq (w / 0o1000) 3 ≡ false → nat_eq (w / 0o1000) 4 ≡ false → (b : Bool) → nat_eq (w / 0o1000) 5 ≡ b → Goes (row (operation_of w) s w)
row-5 s w e0 e1 e2 e3 e4 true e5 = rw (e0, e1, e2, e3, e4, e5) (record { goes = refl })
row-5 s w e0 e1 e2 e3 e4 false e5 = row-6 s w e0 e1 e2 e3 e4 e5 (nat_eq (w / 0o1000) 6) refl

row-4 : (s : State) (w : ℕ) → nat_eq (w / 0o1000) 0 ≡ false → nat_eq (w / 0o1000) 1 ≡ false → nat_eq (w / 0o1000) 2 ≡ false → nat_eq (w / 0o1000) 3 ≡ false → (b : Bool) → nat_eq (w / 0o1000) 4 ≡ b → Goes (row (operation_of w) s w)
row-4 s w e0 e1 e2 e3 true e4 = rw (e0, e1, e2, e3, e4) (record { goes = refl })
row-4 s w e0 e1 e2 e3 false e4 = row-5 s w e0 e1 e2 e3 e4 (nat_eq (w / 0o1000) 5) refl

row-3 : (s : State) (w : ℕ) → nat_eq (w / 0o1000) 0 ≡ false → nat_eq (w / 0o1000) 1 ≡ false → nat_eq (w / 0o1000) 2 ≡ false → (b : Bool) → nat_eq (w / 0o1000) 3 ≡ b → Goes (row (operation_of w) s w)
row-3 s w e0 e1 e2 true e3 = rw (e0, e1, e2, e3) (record { goes = refl })
row-3 s w e0 e1 e2 false e3 = row-4 s w e0 e1 e2 e3 (nat_eq (w / 0o1000) 4) refl

row-2 : (s : State) (w : ℕ) → nat_eq (w / 0o1000) 0 ≡ false → nat_eq (w / 0o1000) 1 ≡ false → (b : Bool) → nat_eq (w / 0o1000) 2 ≡ b → Goes (row (operation_of w) s w)
row-2 s w e0 e1 true e2 = rw (e0, e1, e2) (record { goes = refl })
row-2 s w e0 e1 false e2 = row-3 s w e0 e1 e2 (nat_eq (w / 0o1000) 3) refl

row-1 : (s : State) (w : ℕ) → nat_eq (w / 0o1000) 0 ≡ false → (b : Bool) → nat_eq (w / 0o1000) 1 ≡ b → Goes (row (operation_of w) s w)
row-1 s w e0 true e1 = rw (e0, e1) (record { goes = refl })
row-1 s w e0 false e1 = row-2 s w e0 e1 (nat_eq (w / 0o1000) 2) refl

row-0 : (s : State) (w : ℕ) → (b : Bool) → nat_eq (w / 0o1000) 0 ≡ b → Goes (row (operation_of w) s w)
row-0 s w true e0 = rw e0 (record { goes = refl })
row-0 s w false e0 = row-1 s w e0 (nat_eq (w / 0o1000) 1) refl

chosen-goes : (s : State) (b : Bool) → b ≡ true
    → Goes (if b then (if grants_interrupt s then (after_interrupt s, Interrupted) else row (operation_of (next_word s)) s (next_word s)) else (s, Stopped))
chosen-goes s true h =
    either (grants_interrupt s) (after_interrupt s, Interrupted) (row (operation_of (next_word s)) s (next_word s)) (record { goes = refl })
    (row-0 s (next_word s) (nat_eq (next_word s / 0o1000) 0) refl)
chosen-goes s false h = cc

-- a step of a machine that runs is no stop
pub step-goes : (s : State) → s.running ≡ true → is_stop (step s).1 ≡ false
unfolding step after_instruction
step-goes s runs = (chosen-goes s s.running runs).goes
