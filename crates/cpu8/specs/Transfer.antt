-- The IOT instructions: interrupts, Teletype, extended memory (Small Computer Handbook). Codes that are not named here
-- do nothing (this project's profile).
use Rattle.std.specs.Prelude.{ℕ, ◌+◌, ◌*◌, ◌/◌, ◌%◌, Bool, true, false, nat_eq, if◌then◌else◌, bit_or, None}
use Rattle.tty8.specs.Teletype.{keyboard_skips, keyboard_ac, keyboard_pulsed, printer_skips, character_of_pulse, printer_pulsed}
use Rattle.cpu8.specs.State.{State}
use Rattle.cpu8.specs.Reference.{after_fetch}
use Rattle.cpu8.specs.Decoding.{pulses_of, device_of, field_of}
use Rattle.cpu8.specs.declared.decoding.Device.{Device}
use Rattle.cpu8.specs.declared.decoding.Device.TheVariants.{Interrupts, Keyboard, Printer, Fields, Other}
use Rattle.cpu8.specs.declared.outcomes.Stepped.{Stepped}
use Rattle.cpu8.specs.declared.outcomes.Stepped.TheVariants.{Ran}

-- ## Interrupts

-- ION: where interrupts are off they go on, and wait for one more instruction; where they are on they stay so, and no
-- new waiting begins (this project's profile)
abbrev pub ion_row : State → State
ion_row s = if s.interrupts_on then after_fetch s else record (after_fetch s) { interrupts_on = true; waiting = true }

-- IOF: interrupts go off
abbrev pub iof_row : State → State
iof_row s = record (after_fetch s) { interrupts_on = false }

-- 6001 is ION, 6002 is IOF
abbrev pub interrupts_row : State → ℕ → State
interrupts_row s w =
    if nat_eq (pulses_of w) 1 then ion_row s
    else if nat_eq (pulses_of w) 2 then iof_row s
    else after_fetch s

-- ## Teletype

-- PC goes on by one, or by two where the instruction skips
abbrev pub after_skip : State → Bool → State
after_skip s skips = record (after_fetch s) { pc = (s.pc + (if skips then 2 else 1)) % 0o10000 }

abbrev pub keyboard_row : State → ℕ → State
keyboard_row s w = record (after_skip s (keyboard_skips s.teletype (pulses_of w))) {
  ac = keyboard_ac s.teletype (pulses_of w) s.ac;
  teletype = keyboard_pulsed s.teletype (pulses_of w);
}

abbrev pub printer_row : State → ℕ → State × Stepped
printer_row s w = (
  record (after_skip s (printer_skips s.teletype (pulses_of w))) {
    teletype = printer_pulsed s.teletype (pulses_of w);
  },
  Ran (character_of_pulse (pulses_of w) s.ac),
)

-- ## Extended memory

-- CDF (62N1): the data field becomes N
abbrev pub cdf_row : State → ℕ → State
cdf_row s n = record (after_fetch s) { data_field = n }

-- CIF (62N2): the instruction buffer becomes N, and interrupts are held off
abbrev pub cif_row : State → ℕ → State
cif_row s n = record (after_fetch s) { instruction_buffer = n; held_off = true }

-- CDF CIF (62N3) is both
abbrev pub cdf_cif_row : State → ℕ → State
cdf_cif_row s n = record (cif_row s n) { data_field = n }

-- RDF (6214): the data field is or'ed into AC bits 6 to 8
abbrev pub rdf_row : State → State
rdf_row s = record (after_fetch s) { ac = bit_or s.ac (8 * s.data_field) }

-- RIF (6224): the instruction field is or'ed into AC bits 6 to 8
abbrev pub rif_row : State → State
rif_row s = record (after_fetch s) { ac = bit_or s.ac (8 * s.instruction_field) }

-- RIB (6234): the save field is or'ed into AC bits 6 to 11, the saved instruction field in bits 6 to 8
abbrev pub rib_row : State → State
rib_row s = record (after_fetch s) { ac = bit_or s.ac s.save_field }

-- RMF (6244): the instruction buffer and the data field become the saved ones, and interrupts are held off
abbrev pub rmf_row : State → State
rmf_row s = record (after_fetch s) {
  instruction_buffer = s.save_field / 8;
  data_field = s.save_field % 8;
  held_off = true;
}

abbrev pub read_row : State → ℕ → State
read_row s n =
    if nat_eq n 1 then rdf_row s
    else if nat_eq n 2 then rif_row s
    else if nat_eq n 3 then rib_row s
    else if nat_eq n 4 then rmf_row s
    else after_fetch s

abbrev pub fields_row : State → ℕ → State
fields_row s w =
    if nat_eq (pulses_of w) 1 then cdf_row s (field_of w)
    else if nat_eq (pulses_of w) 2 then cif_row s (field_of w)
    else if nat_eq (pulses_of w) 3 then cdf_cif_row s (field_of w)
    else if nat_eq (pulses_of w) 4 then read_row s (field_of w)
    else after_fetch s

-- ## All devices

abbrev pub device_row : Device → State → ℕ → State × Stepped
device_row Interrupts s w = (interrupts_row s w, Ran None)
device_row Keyboard s w = (keyboard_row s w, Ran None)
device_row Printer s w = printer_row s w
device_row Fields s w = (fields_row s w, Ran None)
device_row Other s w = (after_fetch s, Ran None)

abbrev pub transfer_row : State → ℕ → State × Stepped
transfer_row s w = device_row (device_of w) s w
