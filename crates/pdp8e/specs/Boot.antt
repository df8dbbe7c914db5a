-- The boot of a disk (RK8-E, Small Computer Handbook).
use Rattle.std.specs.Prelude.{ℕ, ◌+◌, None, List, slice_set}
use Rattle.rk8e.specs.State.{DiskState}
use Rattle.pdp8e.specs.State.{Pdp8e, new_machine, after_start}
use Rattle.pdp8e.specs.Step.{at_beginning}
use Rattle.pdp8e.specs.Runs.{after_keys}

-- the bootstrap: DLAG at 00030, and at 00031 a JMP to itself
abbrev pub with_bootstrap : List ℕ → List ℕ
with_bootstrap core = slice_set (slice_set core 0o30 0o6743) 0o31 0o5031

-- A machine that is to boot from drive 0 starts at the bootstrap. DLAG reads sector 0 to the cells from 00000 on, as all registers
-- are 0.
abbrev pub booting : List ℕ → DiskState → Pdp8e
booting core disk = after_start (new_machine (with_bootstrap core) disk) 0o30

-- it, after as many instructions as the transfer takes and the DLAG, in the beginning of the next step
abbrev pub after_boot : List ℕ → DiskState → Pdp8e
after_boot core disk = at_beginning (after_keys (λ _. None) (disk.control.disk_time + 1) (booting core disk))
