-- The value of terms, from left to right (PAL8, in this project's profile).
use Rattle.std.specs.Prelude.{ℕ, ◌+◌, ◌-◌, ◌*◌, ◌/◌, ◌%◌, nat_eq, nat_lt, bit_and, bit_or, Bool, true, false, ◌||◌, if◌then◌else◌, Option, Some, None, Result, Ok, Err, List, [], ◌∷◌}
use Rattle.word12.specs.declared.sizes.TheConstants.{PAGE}
use Rattle.pal8_lex.specs.declared.tokens.Operator.{Operator}
use Rattle.pal8_lex.specs.declared.tokens.Operator.TheVariants.{Plus, Minus, Or, And, Times, Divide}
use Rattle.pal8_grammar.specs.declared.steps.Step.{Step}
use Rattle.pal8_grammar.specs.declared.steps.Step.TheVariants as step
use Rattle.pal8_values.specs.declared.sums.Sum.{Sum}
use Rattle.pal8_values.specs.declared.sums.Spot.{Spot}
use Rattle.pal8_values.specs.declared.faults.ValueFault.{ValueFault}
use Rattle.pal8_values.specs.declared.faults.ValueFault.TheVariants.{UA, PF, DZ, IR}

-- what names stand for
abbrev pub Meanings : Type 0
Meanings = ℕ → Option ℕ

-- Each operator gives twelve bits: sum, difference and product modulo 0o10000, inclusive or, and, and the quotient without remainder.
abbrev pub join_values : Operator → ℕ → ℕ → ℕ
join_values Plus a b = (a + b) % 0o10000
join_values Minus a b = (a + 0o10000 - b) % 0o10000
join_values Or a b = bit_or a b
join_values And a b = bit_and a b
join_values Times a b = a * b % 0o10000
join_values Divide a b = a / b

-- there is no quotient by 0
abbrev pub is_undivided : Operator → ℕ → Bool
is_undivided Plus b = false
is_undivided Minus b = false
is_undivided Or b = false
is_undivided And b = false
is_undivided Times b = false
is_undivided Divide b = nat_eq b 0

-- no term yet: the first one is added to 0
abbrev pub empty : Sum
empty = record { is_reference = false; operation = 0; is_indirect = false; total = 0; sign = Plus }

-- one term more, joined by the sign before it
abbrev pub with_value : ℕ → Sum → Result Sum ValueFault
with_value v s =
    if is_undivided s.sign v then Err DZ
    else Ok record s { total = join_values s.sign s.total v }

abbrev pub with_known : ℕ → Option ℕ → Sum → Result Sum ValueFault
with_known name None s = Err (UA name)
with_known name (Some v) s = with_value v s

-- what `.` stands for: the place, if neither that nor the location is past 7777
abbrev pub here_of : Spot → Option ℕ
here_of spot = if nat_lt 0o7777 spot.location || nat_lt 0o7777 spot.here then None else Some spot.here

abbrev pub with_place : Option ℕ → Sum → Result Sum ValueFault
with_place None s = Err PF
with_place (Some place) s = with_value place s

-- no reference began: the name of the operation is the first term, which comes next
abbrev pub without_operation : Sum → Sum
without_operation s = record { is_reference = false; operation = 0; is_indirect = false; total = s.total; sign = s.sign }

-- a permanent name has its value where the source gives it none
abbrev pub meaning_or : ℕ → Option ℕ → ℕ
meaning_or value None = value
meaning_or value (Some v) = v

-- a step that neither opens nor closes a literal
abbrev pub with_plain : Meanings → Spot → Step → Sum → Result Sum ValueFault
with_plain known spot (step.Operation word) s = Ok record { is_reference = true; operation = word; is_indirect = false; total = s.total; sign = s.sign }
with_plain known spot step.Alone s = Ok (without_operation s)
with_plain known spot step.Indirect s = Ok record s { is_indirect = true }
with_plain known spot (step.Name name) s = with_known name (known name) s
with_plain known spot (step.Permanent name value) s = with_value (meaning_or value (known name)) s
with_plain known spot (step.Number word) s = with_value word s
with_plain known spot step.Here s = with_place (here_of spot) s
with_plain known spot (step.Sign op) s = Ok record s { sign = op }
with_plain known spot (step.Open pool) s = Ok s
with_plain known spot step.Close s = Ok s

-- ## Memory references

-- What stands in a memory reference for an address. Below 0200 it is its offset on page zero, and on the page of the place its offset
-- with 0200. No other address is reached.
abbrev pub offset_of : ℕ → ℕ → Option ℕ
offset_of here address =
    if nat_lt address PAGE then Some address
    else (if nat_eq (address / PAGE) (here / PAGE) then Some (address % PAGE + 0o200) else None)

-- `I` is 0400
abbrev pub indirect_bit : Bool → ℕ
indirect_bit false = 0
indirect_bit true = 0o400

abbrev pub reference_word : ℕ → Bool → ℕ → ℕ
reference_word operation is_indirect offset = bit_or (bit_or operation (indirect_bit is_indirect)) offset

-- ## Values without literals, as definitions and places have them

abbrev pub direct_by : ℕ → Bool → Option ℕ → Result ℕ ValueFault
direct_by operation is_indirect None = Err IR
direct_by operation is_indirect (Some offset) = Ok (reference_word operation is_indirect offset)

abbrev pub direct : ℕ → Bool → Sum → Result ℕ ValueFault
direct here false s = Ok s.total
direct here true s = direct_by s.operation s.is_indirect (offset_of here s.total)

-- the value of terms: a reference there makes no link
abbrev pub direct_value : ℕ → Result Sum ValueFault → Result ℕ ValueFault
direct_value here (Err fault) = Err fault
direct_value here (Ok s) = direct here s.is_reference s

abbrev pub with_plain_if : Meanings → Spot → Step → Result Sum ValueFault → Result Sum ValueFault
with_plain_if known spot step (Err fault) = Err fault
with_plain_if known spot step (Ok s) = with_plain known spot step s

-- steps more, up to the first fault
abbrev pub with_plains : Meanings → Spot → List Step → Result Sum ValueFault → Result Sum ValueFault
with_plains known spot [] s = s
with_plains known spot (step ∷ others) s = with_plains known spot others (with_plain_if known spot step s)

-- the value of steps at a place, or its first fault from the left
abbrev pub early_value : Meanings → Spot → List Step → Result ℕ ValueFault
early_value known spot steps = direct_value spot.here (with_plains known spot steps (Ok empty))
