-- The KM8-E memory extension and its user mode, 6200 to 6277 (Small Computer Handbook).
use Rattle.std.specs.Prelude.{ℕ, Bool, true, false, nat_eq, if◌then◌else◌, bit_or}
use Rattle.cpu8.specs.Decoding.{pulses_of, field_of}
use Rattle.cpu8.specs.Reference.{after_fetch}
use Rattle.cpu8.specs.Transfer.{after_skip, rdf_row, rif_row}
use Rattle.cpu8.specs.Transfer as Pdp8i
use Rattle.cpu8e.specs.State.{State8e, with_base, save_field}

-- CINT (6204): the user request goes
abbrev pub cint_row : State8e → State8e
cint_row s = record s { base = after_fetch s.base; user_request = false }

-- RIB (6234): the save field is or'ed into AC, all seven bits
abbrev pub rib_row : State8e → State8e
rib_row s = with_base s (record (after_fetch s.base) { ac = bit_or s.base.ac (save_field s) })

-- RMF (6244): as on the 8/I, and the user buffer becomes the saved user flag
abbrev pub rmf_row : State8e → State8e
rmf_row s = record s { base = Pdp8i.rmf_row s.base; user_buffer = s.saved_user_flag }

-- SINT (6254): skips where the user request is set
abbrev pub sint_row : State8e → State8e
sint_row s = with_base s (after_skip s.base s.user_request)

-- CUF (6264) and SUF (6274): the user buffer becomes 0 or 1, and interrupts are held off
abbrev pub user_buffer_row : State8e → Bool → State8e
user_buffer_row s flag = record s { base = record (after_fetch s.base) { held_off = true }; user_buffer = flag }

-- the instructions 62N4, by N
abbrev pub read_row : State8e → ℕ → State8e
read_row s n =
    if nat_eq n 0 then cint_row s
    else if nat_eq n 1 then with_base s (rdf_row s.base)
    else if nat_eq n 2 then with_base s (rif_row s.base)
    else if nat_eq n 3 then rib_row s
    else if nat_eq n 4 then rmf_row s
    else if nat_eq n 5 then sint_row s
    else user_buffer_row s (nat_eq n 7)

-- the others are as on the 8/I
abbrev pub fields_row : State8e → ℕ → State8e
fields_row s w =
    if nat_eq (pulses_of w) 4 then read_row s (field_of w)
    else with_base s (Pdp8i.fields_row s.base w)
