-- Calls of the monitor by `JMS I`, as far as the words of a program show them (OS/8 Software Support Manual).
use Rattle.std.specs.Prelude.{ℕ, suc, zero, ◌+◌, ◌-◌, ◌/◌, ◌%◌, Bool, true, false, ◌&&◌, ◌||◌, not, nat_eq, nat_lt, nat_le, if◌then◌else◌, is_some, List, Option, Some, None}
use Rattle.word12.specs.declared.sizes.TheConstants.{CORE}
use Rattle.cpu8.specs.Decoding.{is_group_1, is_group_2, has_cla, has_cma, has_rar, has_ral, iac_of, has_osr, has_hlt}
use Rattle.flow8.specs.Exits.{cell_after, referred_cell}
use Rattle.pointer_flow.specs.States.{jump_field}
use Rattle.pointer_flow.specs.Programs.{Program, cell_before, cells_from, is_auto_index, is_listed, is_number, is_some_below, place_in}
use Rattle.pointer_flow.specs.declared.calls.Call.{Call}
use Rattle.pointer_flow.specs.declared.calls.Call.TheVariants.{Usr, SystemHandler, Handler}
use Rattle.pointer_flow.specs.declared.calls.CallForm.{CallForm}
use Rattle.pointer_flow.specs.declared.states.State.{State}

-- ## The table

-- So many words stand after the JMS, of which the monitor writes the last so many. After them are so many cells in which the program goes
-- on: none, the normal return, or the error return and the normal one.
abbrev pub form : ℕ → ℕ → ℕ → CallForm
form words gets returns = record { words = words; gets = gets; returns = returns }

-- The USR's functions, in octal. FETCH and INQUIRE take the name of a device where AC is clear, else AC has its number.
abbrev pub usr_form : Bool → ℕ → CallForm
usr_form is_clear function =
    -- stored later
    if nat_eq function 0 then form 1 0 1
    -- FETCH
    else if nat_eq function 1 then (if is_clear then form 4 2 2 else form 2 1 2)
    -- LOOKUP
    else if nat_eq function 2 then form 3 2 2
    -- ENTER
    else if nat_eq function 3 then form 3 2 2
    -- CLOSE
    else if nat_eq function 4 then form 3 0 2
    -- DECODE
    else if nat_eq function 5 then form 3 0 1
    -- CHAIN
    else if nat_eq function 6 then form 2 0 0
    -- ERROR
    else if nat_eq function 7 then form 2 0 0
    -- USRIN
    else if nat_eq function 0o10 then form 1 0 1
    -- USROUT
    else if nat_eq function 0o11 then form 1 0 1
    -- INQUIRE
    else if nat_eq function 0o12 then (if is_clear then form 4 2 2 else form 2 1 2)
    -- RESET
    else form 2 0 1

-- a handler's: the function, the buffer's address and the first block
abbrev pub call_form : Bool → Call → CallForm
call_form is_clear (Usr function) = usr_form is_clear function
call_form is_clear SystemHandler = form 3 0 2
call_form is_clear Handler = form 3 0 2

-- ## Whether AC is clear at a call

-- CDF 62N1, CIF 62N2 or both, 62N3 (Small Computer Handbook)
abbrev pub changes_fields : ℕ → Bool
changes_fields word = nat_eq (word / 0o100) 0o62 && (nat_lt 0 (word % 8) && nat_lt (word % 8) 4)

-- AC is 0 after the instruction, whatever it was before: DCA, CLA of group 1 with nothing that changes AC then, or of group 2 without OSR and HLT
abbrev pub clears_ac : ℕ → Bool
clears_ac word =
    if nat_eq (word / 0o1000) 3 then true
    else if nat_eq (word / 0o1000) 7 then (
    if is_group_1 word then has_cla word && not (has_cma word || (has_rar word || (has_ral word || nat_eq (iac_of word) 1)))
    else if is_group_2 word then has_cla word && not (has_osr word || has_hlt word)
    else false)
    else false

abbrev pub is_clear_after : Option ℕ → Bool → Bool
is_clear_after None before = false
is_clear_after (Some word) before = if changes_fields word then before else clears_ac word

-- AC is clear at a cell by one of so many words before it, of which all after that one change fields
abbrev pub is_clear_by : (ℕ → Option ℕ) → ℕ → ℕ → Bool
is_clear_by words zero cell = false
is_clear_by words (suc count) cell = is_clear_after (words (cell_before cell)) (is_clear_by words count (cell_before cell))

-- four words that change fields may stand between
abbrev pub is_ac_clear : (ℕ → Option ℕ) → ℕ → Bool
is_ac_clear words cell = is_clear_by words 5 cell

-- ## Cells that hold the entry of a handler

-- JMS through a pointer, 4400 to 4777
abbrev pub is_jms_pointer : ℕ → Bool
is_jms_pointer word = nat_eq (word / 0o400) 0o11

-- JMS through a pointer to the USR, in whatever field
abbrev pub may_call_usr : (ℕ → Option ℕ) → ℕ → Option ℕ → Bool
may_call_usr words cell None = false
may_call_usr words cell (Some word) = is_jms_pointer word
    && (is_number (words (referred_cell cell word)) 0o7700 || is_number (words (referred_cell cell word)) 0o200)

-- a FETCH in a cell gets the entry in the last of its words
abbrev pub fetches_into : (ℕ → Option ℕ) → ℕ → ℕ → Bool
fetches_into words entry cell = may_call_usr words cell (words cell) && (is_number (words (cell_after 1 cell)) 1
    && nat_eq (cell_after (usr_form (is_ac_clear words cell) 1).words cell) entry)

abbrev pub is_entry : (ℕ → Option ℕ) → ℕ → Bool
is_entry words entry = is_some_below (fetches_into words entry) CORE

-- a direct TAD of an entry
abbrev pub takes_entry : (ℕ → Option ℕ) → ℕ → Option ℕ → Bool
takes_entry words cell None = false
takes_entry words cell (Some word) = nat_eq (word / 0o400) 2 && is_entry words (referred_cell cell word)

-- a direct DCA stores in a cell
abbrev pub stores_in : ℕ → ℕ → Option ℕ → Bool
stores_in named cell None = false
stores_in named cell (Some word) = nat_eq (word / 0o400) 6 && nat_eq (referred_cell cell word) named

-- a DCA in a cell stores what the TAD before it took
abbrev pub copies_entry : (ℕ → Option ℕ) → ℕ → ℕ → Bool
copies_entry words named cell = stores_in named cell (words cell) && takes_entry words (cell_before cell) (words (cell_before cell))

-- it was said to be one, a FETCH gets an entry in it, or one is copied to it
abbrev pub is_handler_cell : Program → ℕ → Bool
is_handler_cell p cell = is_listed cell p.handlers || (is_entry p.words cell || is_some_below (copies_entry p.words cell) CORE)

-- ## What is a call

-- the USR's entry: 17700, or 10200 once USRIN brought it into core; its function is 0 where that is stored later
abbrev pub usr_call : Option ℕ → Bool → Option ℕ → Option Call
usr_call called is_given None = None
usr_call called is_given (Some function) =
    if is_number called 0o17700 || is_number called 0o10200 then (
    if nat_eq function 0 then (if is_given then None else Some (Usr 0))
    else if nat_le function 0o13 then Some (Usr function) else None)
    else None

abbrev pub system_handler_call : Option ℕ → Bool → Option Call
system_handler_call called is_given = if is_number called 0o7607 && not is_given then Some SystemHandler else None

abbrev pub first_call : Option Call → Option Call → Option Call
first_call None other = other
first_call (Some call) other = Some call

abbrev pub is_given_at : (ℕ → Option ℕ) → Option ℕ → Bool
is_given_at words None = false
is_given_at words (Some cell) = is_some (words cell)

-- the call of a JMS by the word of its pointer, which leads to a cell: the USR's, the system handler's, or that of a handler
abbrev pub call_to : Program → State → ℕ → Option ℕ → Option Call
call_to p s pointer called =
    first_call (usr_call called (is_given_at p.words called) (p.words (cell_after 1 s.cell)))
    (first_call (system_handler_call called (is_given_at p.words called)) (if is_handler_cell p pointer then Some Handler else None))

-- The call that an instruction of this word is in a state, if it is one. By the word that the tape gives the pointer, whatever the program
-- stores there.
abbrev pub call_of : Program → State → ℕ → Option Call
call_of p s word =
    if is_jms_pointer word && (is_some (p.words (referred_cell s.cell word)) && not (is_auto_index (referred_cell s.cell word)))
    then call_to p s (referred_cell s.cell word) (place_in (jump_field s.cell s.buffer) (p.words (referred_cell s.cell word)))
    else None

-- the form of a call in a cell
abbrev pub form_at : (ℕ → Option ℕ) → ℕ → Call → CallForm
form_at words cell call = call_form (is_ac_clear words cell) call

-- the cells in which the program goes on after it
abbrev pub call_returns : ℕ → CallForm → List ℕ
call_returns cell form = cells_from cell (form.words + 1) form.returns

-- the words that the monitor writes
abbrev pub call_gets : ℕ → CallForm → List ℕ
call_gets cell form = cells_from cell (form.words + 1 - form.gets) form.gets
