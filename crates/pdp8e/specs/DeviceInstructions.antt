-- The instructions of reader (601x), punch (602x), clock (613x) and line printer (666x), by their last octal digit (Small Computer
-- Handbook). 6135 to 6137 are those of the PDP-8/A's clock, as in SIMH's PDP-8.
use Rattle.std.specs.Prelude.{ℕ, ◌/◌, ◌%◌, Bool, true, false, ◌&&◌, ◌||◌, not, nat_eq, if◌then◌else◌, bit_or, Some}
use Rattle.pdp8e.specs.Devices.{ReaderState, WriterState, ClockState, DevicesState}

abbrev pub is_reader_word : ℕ → Bool
is_reader_word w = nat_eq (w / 8) 0o601

abbrev pub is_punch_word : ℕ → Bool
is_punch_word w = nat_eq (w / 8) 0o602

abbrev pub is_clock_word : ℕ → Bool
is_clock_word w = nat_eq (w / 8) 0o613

abbrev pub is_printer_word : ℕ → Bool
is_printer_word w = nat_eq (w / 8) 0o666

-- an IOT of one of them
abbrev pub is_device_word : ℕ → Bool
is_device_word w = is_reader_word w || (is_punch_word w || (is_clock_word w || is_printer_word w))

-- ## Reader

-- RPE (6010): PE becomes 1. RRB (6012): the flag becomes 0. RFC (6014) and RCC (6016): so too, and the next frame is asked for.
abbrev pub reader_row : DevicesState → ℕ → DevicesState
reader_row d pulses =
    if nat_eq pulses 0 then record d { tape_enabled = true }
    else if nat_eq pulses 2 then record d { reader = record d.reader { flag = false } }
    else if nat_eq pulses 4 || nat_eq pulses 6 then record d { reader = record d.reader { asked = true; flag = false } }
    else d

-- RRB and RCC or the buffer into AC
abbrev pub reader_ac : ReaderState → ℕ → ℕ → ℕ
reader_ac r pulses ac = if nat_eq pulses 2 || nat_eq pulses 6 then bit_or ac r.buffer else ac

-- ## Punch and line printer

-- PCF (6022) and PCLF (6662): the flag becomes 0. PPC (6024) and PSTB (6664): this is written. PLS (6026) and 6666: both.
abbrev pub writer_row : WriterState → ℕ → ℕ → WriterState
writer_row w pulses character =
    if nat_eq pulses 2 then record w { flag = false }
    else if nat_eq pulses 4 then record w { writing = Some character }
    else if nat_eq pulses 6 then record { writing = Some character; flag = false }
    else w

-- PCE (6020): PE becomes 0. The punch takes AC bits 4 to 11.
abbrev pub punch_row : DevicesState → ℕ → ℕ → DevicesState
punch_row d pulses ac =
    if nat_eq pulses 0 then record d { tape_enabled = false }
    else record d { punch = writer_row d.punch pulses (ac % 0o400) }

-- PSIE (6665): LE becomes 1. PCIE (6667): LE becomes 0. The line printer takes AC bits 5 to 11.
abbrev pub printer_row : DevicesState → ℕ → ℕ → DevicesState
printer_row d pulses ac =
    if nat_eq pulses 5 then record d { printer_enabled = true }
    else if nat_eq pulses 7 then record d { printer_enabled = false }
    else record d { printer = writer_row d.printer pulses (ac % 0o200) }

-- ## Clock

-- CLEI (6131) and CLDI (6132): CE becomes 1, or 0. CLSC (6133) and 6136: the flag becomes 0. 6135: CE becomes AC bit 11.
abbrev pub clock_row : ClockState → ℕ → ℕ → ClockState
clock_row c pulses ac =
    if nat_eq pulses 1 then record c { enabled = true }
    else if nat_eq pulses 2 then record c { enabled = false }
    else if nat_eq pulses 3 || nat_eq pulses 6 then record c { flag = false }
    else if nat_eq pulses 5 then record c { enabled = nat_eq (ac % 2) 1 }
    else c

-- ## All four

abbrev pub devices_row : DevicesState → ℕ → ℕ → DevicesState
devices_row d w ac =
    if is_reader_word w then reader_row d (w % 8)
    else if is_punch_word w then punch_row d (w % 8) ac
    else if is_clock_word w then record d { clock = clock_row d.clock (w % 8) ac }
    else printer_row d (w % 8) ac

abbrev pub devices_ac : DevicesState → ℕ → ℕ → ℕ
devices_ac d w ac = if is_reader_word w then reader_ac d.reader (w % 8) ac else ac

-- RSF (6011), PSF (6021) and PSKF (6661) skip where the flag is 1, and so do CLSC and 6137. PSKE (6663) skips where the line printer
-- has no paper.
abbrev pub devices_skip : DevicesState → ℕ → Bool
devices_skip d w =
    if is_reader_word w then nat_eq (w % 8) 1 && d.reader.flag
    else if is_punch_word w then nat_eq (w % 8) 1 && d.punch.flag
    else if is_clock_word w then (nat_eq (w % 8) 3 || nat_eq (w % 8) 7) && d.clock.flag
    else (nat_eq (w % 8) 1 && d.printer.flag) || (nat_eq (w % 8) 3 && not d.has_paper)
