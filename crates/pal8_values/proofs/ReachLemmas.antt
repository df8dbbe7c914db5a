-- What the reference of a word reaches.
use Rattle.std.proofs.Common.{◌≡◌, ℕ, zero, suc, ◌+◌, ◌-◌, ◌*◌, ◌/◌, ◌%◌, ◌<◌, ◌≤◌, ◌⊎◌, inl, inr, Bool, true, false, if◌then◌else◌, Option, Some, None, Result, Ok, Err, length, List, [], ◌∷◌, ◌++◌, refl, sym, ap, subst, ◌∙◌, arith}
use Rattle.std.specs.Prelude.{nat_eq, nat_le, nat_lt, bit_or}
use Rattle.std.specs.Int.Bits.{or_zero_l, or_zero_r}
use Rattle.std.proofs.lemmas.Nat.{or_mod}
use Rattle.std.proofs.lemmas.Grind.{numeral_or}
use Rattle.std.proofs.lemmas.Bool.Decides.{nat_tests}
use Rattle.word12.specs.declared.sizes.TheConstants.{FIELD, PAGE}
use Rattle.pal8_lex.specs.declared.tokens.Pool.{Pool}
use Rattle.pal8_lex.specs.declared.tokens.Pool.TheVariants.{Own, Zero}
use Rattle.pal8_pools.specs.Asks.{item_of, Ask, cell_in, pool_of, rank}
use Rattle.pal8_pools.specs.Pooled.{with_punched}
use Rattle.pal8_grammar.specs.declared.steps.Step.{Step}
use Rattle.pal8_grammar.specs.declared.steps.Step.TheVariants as step
use Rattle.pal8_values.specs.Sums.{Meanings, empty, indirect_bit, offset_of, reference_word, with_plain, with_value}
use Rattle.pal8_values.specs.Words.{AskResult, Evaluation, ask_of, evaluation, full, is_through, is_torn, page_of, page_start, value_by, value_of, with_ask, with_cell, with_cell_of, with_close, with_link, with_link_if, with_literal, with_step, with_step_if, with_steps, word_in, word_of_reference, word_value}
use Rattle.pal8_values.specs.Laws.{LinksAreReached, LiteralsAreReached, ReachesLink, ReachesLiteral, closes_all, depth_after, reached_address}
use Rattle.pal8_values.specs.declared.sums.Sum.{Sum}
use Rattle.pal8_values.specs.declared.sums.Spot.{Spot}
use Rattle.pal8_values.specs.declared.frames.Frame.{Frame}
use Rattle.pal8_values.specs.declared.faults.ValueFault.{ValueFault}
use Rattle.pal8_values.specs.declared.faults.ValueFault.TheVariants.{RL}

-- ## The bits of a reference

-- the low eight bits of a word that an offset is or'ed to are that offset
low_bits : (m offset : ℕ) → m % 0o400 ≡ 0 → offset < 0o400 → bit_or m offset % 0o400 ≡ offset
low_bits m offset clear small =
    or_mod m offset 8 ∙ ap (λ n. bit_or n (offset % 0o400)) clear ∙ or_zero_l (offset % 0o400) ∙ omega (arith, small)

clear_with : (m : ℕ) (is_indirect : Bool) → m % 0o400 ≡ 0 → bit_or m (indirect_bit is_indirect) % 0o400 ≡ 0
clear_with m false clear = ap (λ n. n % 0o400) (or_zero_r m) ∙ clear
clear_with m true clear = or_mod m 0o400 8 ∙ ap (λ n. bit_or n 0) clear

word_bits : (m : ℕ) (is_indirect : Bool) (offset : ℕ) → m % 0o400 ≡ 0 → offset < 0o400 → reference_word m is_indirect offset % 0o400 ≡ offset
word_bits m is_indirect offset clear small = low_bits (bit_or m (indirect_bit is_indirect)) offset (clear_with m is_indirect clear) small

offset_bits : (word offset : ℕ) → word % 0o400 ≡ offset → word % 0o200 ≡ offset % 0o200
offset_bits word offset is = omega (arith, is)

page_bits : (word offset : ℕ) → word % 0o400 ≡ offset → word / 0o200 % 2 ≡ offset / 0o200
page_bits word offset is = omega (arith, is)

-- what a word with this offset reaches
reached_by : (here word offset : ℕ) → word % 0o400 ≡ offset → reached_address here word ≡ (if nat_eq (offset / PAGE) 0 then 0 else here / PAGE * PAGE) + offset % PAGE
reached_by here word offset is =
    ap (λ n. (if nat_eq n 0 then 0 else here / PAGE * PAGE) + word % PAGE) (page_bits word offset is)
    ∙ ap (λ n. (if nat_eq (offset / PAGE) 0 then 0 else here / PAGE * PAGE) + n) (offset_bits word offset is)

abbrev the_offset : ℕ → Option ℕ → ℕ
the_offset other None = other
the_offset other (Some offset) = offset

-- the word of a reference reaches its address
addressed : (here address m : ℕ) (is_indirect : Bool) (offset : ℕ) → m % 0o400 ≡ 0 → offset_of here address ≡ Some offset
    → reached_address here (reference_word m is_indirect offset) ≡ address
addressed here address m is_indirect offset clear = by_zero (nat_lt address PAGE) refl
  where
    low : (word : ℕ) → word % 0o400 ≡ offset → address ≡ offset → nat_lt address PAGE ≡ true → reached_address here word ≡ address
    low word is same small =
        reached_by here word offset is
        ∙ ap (λ n. (if nat_eq n 0 then 0 else here / PAGE * PAGE) + offset % PAGE) (page_zero address offset same small)
        ∙ offset_itself address offset same small
      where
        page_zero : (address offset : ℕ) → address ≡ offset → nat_lt address PAGE ≡ true → offset / PAGE ≡ 0
        page_zero address offset same small = grind (arith, nat_tests, same, small)

        offset_itself : (address offset : ℕ) → address ≡ offset → nat_lt address PAGE ≡ true → 0 + offset % PAGE ≡ address
        offset_itself address offset same small = grind (arith, nat_tests, same, small)

    high : (word : ℕ) → word % 0o400 ≡ offset → address % PAGE + 0o200 ≡ offset → nat_eq (address / PAGE) (here / PAGE) ≡ true → reached_address here word ≡ address
    high word is same near =
        reached_by here word offset is
        ∙ ap (λ n. (if nat_eq n 0 then 0 else here / PAGE * PAGE) + offset % PAGE) (one address offset same)
        ∙ whole address here offset same near
      where
        one : (address offset : ℕ) → address % PAGE + 0o200 ≡ offset → offset / PAGE ≡ 1
        one address offset same = omega (arith, same)

        page_is : (a b : ℕ) → nat_eq a b ≡ true → a ≡ b
        page_is a b is = grind (arith, nat_tests, is)

        sum_is : (address page offset : ℕ) → address % PAGE + 0o200 ≡ offset → address / PAGE ≡ page → page * PAGE + offset % PAGE ≡ address
        sum_is address page offset same is = omega (arith, same, is)

        whole : (address here offset : ℕ) → address % PAGE + 0o200 ≡ offset → nat_eq (address / PAGE) (here / PAGE) ≡ true → here / PAGE * PAGE + offset % PAGE ≡ address
        whole address here offset same near = sum_is address (here / PAGE) offset same (page_is (address / PAGE) (here / PAGE) near)

    by_page : (test : Bool) → nat_eq (address / PAGE) (here / PAGE) ≡ test → (if test then Some (address % PAGE + 0o200) else None) ≡ Some offset
        → reached_address here (reference_word m is_indirect offset) ≡ address
    by_page true near is =
        high (reference_word m is_indirect offset) (word_bits m is_indirect offset clear (small address offset is_same)) is_same near
      where
        is_same : address % PAGE + 0o200 ≡ offset
        is_same = ap (the_offset 0) is

        small : (address offset : ℕ) → address % PAGE + 0o200 ≡ offset → offset < 0o400
        small address offset same = omega (arith, same)
    by_page false far is = absurd cc

    by_zero : (test : Bool) → nat_lt address PAGE ≡ test
        → (if test then Some address else (if nat_eq (address / PAGE) (here / PAGE) then Some (address % PAGE + 0o200) else None)) ≡ Some offset
        → reached_address here (reference_word m is_indirect offset) ≡ address
    by_zero true is_small is =
        low (reference_word m is_indirect offset) (word_bits m is_indirect offset clear (small address offset is_same is_small)) is_same is_small
      where
        is_same : address ≡ offset
        is_same = ap (the_offset 0) is

        small : (address offset : ℕ) → address ≡ offset → nat_lt address PAGE ≡ true → offset < 0o400
        small address offset same below = grind (arith, nat_tests, same, below)
    by_zero false large is = by_page (nat_eq (address / PAGE) (here / PAGE)) refl is

-- an address on page zero, or on the page of a place, is within reach there
in_reach : (here address : ℕ) → (address < PAGE) ⊎ (address / PAGE ≡ here / PAGE) → (offset : ℕ) × (offset_of here address ≡ Some offset)
in_reach here address (inl small) = (address, ap (λ test. if test then Some address else (if nat_eq (address / PAGE) (here / PAGE) then Some (address % PAGE + 0o200) else None)) (is_less address PAGE small))
  where
    is_less : (a b : ℕ) → a < b → nat_lt a b ≡ true
    is_less a b small = grind (arith, nat_tests, small)
in_reach here address (inr near) = by_zero (nat_lt address PAGE) refl
  where
    is_same : (a b : ℕ) → a ≡ b → nat_eq a b ≡ true
    is_same a b same = grind (arith, nat_tests, same)

    by_zero : (test : Bool) → nat_lt address PAGE ≡ test → (offset : ℕ) × (offset_of here address ≡ Some offset)
    by_zero true is = (address, ap (λ test. if test then Some address else (if nat_eq (address / PAGE) (here / PAGE) then Some (address % PAGE + 0o200) else None)) is)
    by_zero false is = (
      address % PAGE + 0o200,
      ap (λ test. if test then Some address else (if nat_eq (address / PAGE) (here / PAGE) then Some (address % PAGE + 0o200) else None)) is
          ∙ ap (λ test. if test then Some (address % PAGE + 0o200) else None) (is_same (address / PAGE) (here / PAGE) near),
    )

-- the address of a literal's cell is within reach, and has twelve bits
cell_in_reach : (pool : Pool) (here cell : ℕ) → (page_start pool here + cell % PAGE < PAGE) ⊎ ((page_start pool here + cell % PAGE) / PAGE ≡ here / PAGE)
cell_in_reach Own here cell = inr (omega arith)
cell_in_reach Zero here cell = inl (omega arith)

cell_is_address : (pool : Pool) (here cell : ℕ) → here < 0o10000 → (0 + (page_start pool here + cell % PAGE)) % 0o10000 ≡ page_start pool here + cell % PAGE
cell_is_address Own here cell small = omega (arith, small)
cell_is_address Zero here cell small = omega arith

-- ## Asks

-- the cell that an ask gets, which is the newest then
pub record IsCell (spot : Spot) (pool : Pool) (value : ℕ) (asks punched : List Ask) (address : ℕ) (after after_punched : List Ask) : Type 0 where
  pub address_is : address ≡ page_start pool spot.here + cell_in after (ask_of spot pool value) % PAGE
  pub on_page : cell_in after (ask_of spot pool value) / PAGE ≡ FIELD / PAGE * spot.field + page_of pool spot.location
  pub asks_last : after ≡ ask_of spot pool value ∷ asks
  pub punched_last : after_punched ≡ with_punched spot.is_punched (ask_of spot pool value) punched

abbrev GetsCell : Spot → Pool → ℕ → List Ask → List Ask → AskResult → Type 0
GetsCell spot pool value asks punched (Err fault) = Unit {0}
GetsCell spot pool value asks punched (Ok (address, after, after_punched)) = IsCell spot pool value asks punched address after after_punched

module _ (spot : Spot) (pool : Pool) (value : ℕ) (asks punched : List Ask) where
  abbrev own_ask : Ask
  own_ask = ask_of spot pool value

  -- a cell that isn't too far from the end of its page is on that page
  on_page : (f p r : ℕ) → r ≤ 0o177 → (FIELD * f + PAGE * p + 0o177 - r) / PAGE ≡ FIELD / PAGE * f + p
  on_page f p r small = omega (arith, small)

  no_more : (a b : ℕ) → nat_le a b ≡ true → a ≤ b
  no_more a b is = grind (arith, nat_tests, is)

  abbrev own_rank : ℕ
  own_rank = rank (pool_of (own_ask ∷ asks) own_ask.field own_ask.page) (item_of own_ask)

  by_room : (test : Bool) → nat_le own_rank 0o177 ≡ test → GetsCell spot pool value asks punched
      (if test then Ok (page_start pool spot.here + cell_in (own_ask ∷ asks) own_ask % PAGE, own_ask ∷ asks, with_punched spot.is_punched own_ask punched)
      else Err (full own_ask.page))
  by_room true is = record {
    address_is = refl;
    on_page = on_page spot.field (page_of pool spot.location) own_rank (no_more own_rank 0o177 is);
    asks_last = refl;
    punched_last = refl;
  }
  by_room false is = tt

  by_shift : (test : Bool) → GetsCell spot pool value asks punched (if test then Err RL else with_cell_of spot pool own_ask asks punched)
  by_shift true = tt
  by_shift false = by_room (nat_le own_rank 0o177) refl

  gets_cell : GetsCell spot pool value asks punched (with_ask spot pool value asks punched)
  gets_cell = by_shift (is_torn pool spot)

-- ## Steps within a literal

abbrev lifted : List Frame → Evaluation → Evaluation
lifted outer e = record { sum = e.sum; frames = e.frames ++ outer; asks = e.asks; punched = e.punched }

-- the same, with these values around it
abbrev lift : List Frame → Result Evaluation ValueFault → Result Evaluation ValueFault
lift outer (Err fault) = Err fault
lift outer (Ok e) = Ok (lifted outer e)

abbrev HasDepth : ℕ → Result Evaluation ValueFault → Type 0
HasDepth depth (Err fault) = Unit {0}
HasDepth depth (Ok e) = length e.frames ≡ depth

module _ (outer : List Frame) where
  plain_lift : (frames : List Frame) (asks punched : List Ask) (r : Result Sum ValueFault)
      → evaluation (frames ++ outer) asks punched r ≡ lift outer (evaluation frames asks punched r)
  plain_lift frames asks punched (Err fault) = refl
  plain_lift frames asks punched (Ok s) = refl

  cell_lift : (frame : Frame) (others : List Frame) (r : AskResult) → with_cell frame (others ++ outer) r ≡ lift outer (with_cell frame others r)
  cell_lift frame others (Err fault) = refl
  cell_lift frame others (Ok (cell, asks, punched)) = plain_lift others asks punched (with_value cell frame.sum)

  literal_lift : (spot : Spot) (frame : Frame) (others : List Frame) (r : AskResult)
      → with_literal spot frame (others ++ outer) r ≡ lift outer (with_literal spot frame others r)
  literal_lift spot frame others (Err fault) = refl
  literal_lift spot frame others (Ok (value, asks, punched)) = cell_lift frame others (with_ask spot frame.pool value asks punched)

plain_depth : (frames : List Frame) (asks punched : List Ask) (r : Result Sum ValueFault) (depth : ℕ) → length frames ≡ depth
    → HasDepth depth (evaluation frames asks punched r)
plain_depth frames asks punched (Err fault) depth is = tt
plain_depth frames asks punched (Ok s) depth is = is

cell_depth : (frame : Frame) (others : List Frame) (r : AskResult) (depth : ℕ) → length others ≡ depth → HasDepth depth (with_cell frame others r)
cell_depth frame others (Err fault) depth is = tt
cell_depth frame others (Ok (cell, asks, punched)) depth is = plain_depth others asks punched (with_value cell frame.sum) depth is

literal_depth : (spot : Spot) (frame : Frame) (others : List Frame) (r : AskResult) (depth : ℕ) → length others ≡ depth
    → HasDepth depth (with_literal spot frame others r)
literal_depth spot frame others (Err fault) depth is = tt
literal_depth spot frame others (Ok (value, asks, punched)) depth is = cell_depth frame others (with_ask spot frame.pool value asks punched) depth is

abbrev the_depth : Option ℕ → ℕ
the_depth None = 0
the_depth (Some depth) = depth

suc_same : (a b : ℕ) → suc a ≡ suc b → a ≡ b
suc_same a b same = omega (arith, same)

-- what a step does within a literal
record StepsWithin (known : Meanings) (spot : Spot) (outer : List Frame) (s : Step) (e : Evaluation) (depth : ℕ) : Type 0 where
  pub same : with_step known spot s (lifted outer e) ≡ lift outer (with_step known spot s e)
  pub has_depth : HasDepth depth (with_step known spot s e)

module _ (known : Meanings) (spot : Spot) (outer : List Frame) where
  plain_within : (s : Step) (e : Evaluation) (before depth : ℕ) → length e.frames ≡ before → Some before ≡ Some depth
      → ((f : List Frame) → with_step known spot s record { sum = e.sum; frames = f; asks = e.asks; punched = e.punched } ≡ evaluation f e.asks e.punched (with_plain known spot s e.sum))
      → StepsWithin known spot outer s e depth
  plain_within s e before depth is same steps = record {
    same = steps (e.frames ++ outer) ∙ plain_lift outer e.frames e.asks e.punched (with_plain known spot s e.sum) ∙ ap (lift outer) (sym (steps e.frames));
    has_depth = subst (HasDepth depth) (sym (steps e.frames)) (plain_depth e.frames e.asks e.punched (with_plain known spot s e.sum) depth (is ∙ ap the_depth same));
  }

  close_within : (frames : List Frame) (sum : Sum) (asks punched : List Ask) (before depth : ℕ) → length frames ≡ before → depth_after step.Close before ≡ Some depth
      → StepsWithin known spot outer step.Close record { sum = sum; frames = frames; asks = asks; punched = punched } depth
  close_within [] sum asks punched zero depth is same = absurd cc
  close_within [] sum asks punched (suc before) depth is same = absurd cc
  close_within (frame ∷ others) sum asks punched zero depth is same = absurd cc
  close_within (frame ∷ others) sum asks punched (suc before) depth is same = record {
    same = literal_lift outer spot frame others (value_of spot sum asks punched);
    has_depth = literal_depth spot frame others (value_of spot sum asks punched) depth (suc_same (length others) before is ∙ ap the_depth same);
  }

  within : (s : Step) (e : Evaluation) (before depth : ℕ) → length e.frames ≡ before → depth_after s before ≡ Some depth → StepsWithin known spot outer s e depth
  within (step.Operation word) e before depth is same = plain_within (step.Operation word) e before depth is same (λ f. refl)
  within step.Alone e before depth is same = plain_within step.Alone e before depth is same (λ f. refl)
  within step.Indirect e before depth is same = plain_within step.Indirect e before depth is same (λ f. refl)
  within (step.Name name) e before depth is same = plain_within (step.Name name) e before depth is same (λ f. refl)
  within (step.Permanent name value) e before depth is same = plain_within (step.Permanent name value) e before depth is same (λ f. refl)
  within (step.Number word) e before depth is same = plain_within (step.Number word) e before depth is same (λ f. refl)
  within step.Here e before depth is same = plain_within step.Here e before depth is same (λ f. refl)
  within (step.Sign op) e before depth is same = plain_within (step.Sign op) e before depth is same (λ f. refl)
  within (step.Open pool) e before depth is same = record { same = refl; has_depth = ap suc is ∙ ap the_depth same }
  within step.Close e before depth is same = close_within e.frames e.sum e.asks e.punched before depth is same

  after_fault : (steps : List Step) (fault : ValueFault) → with_steps known spot steps (Err fault) ≡ Err fault
  after_fault [] fault = refl
  after_fault (s ∷ others) fault = after_fault others fault

  -- the steps of a literal come to what they come to by themselves, and leave none open
  pub record AllWithin (steps : List Step) (r : Result Evaluation ValueFault) : Type 0 where
    pub same : with_steps known spot steps (lift outer r) ≡ lift outer (with_steps known spot steps r)
    pub closed : HasDepth 0 (with_steps known spot steps r)

  fault_within : (steps : List Step) (fault : ValueFault) → AllWithin steps (Err fault)
  fault_within steps fault = record {
    same = after_fault steps fault ∙ ap (lift outer) (sym (after_fault steps fault));
    closed = subst (HasDepth 0) (sym (after_fault steps fault)) tt;
  }

  all_within : (steps : List Step) (depth : ℕ) (r : Result Evaluation ValueFault) → HasDepth depth r → closes_all steps (Some depth) ≡ true → AllWithin steps r
  all_within steps depth (Err fault) has closes = fault_within steps fault
  all_within [] depth (Ok e) has closes = record { same = refl; closed = has ∙ is_zero depth closes }
    where
      is_zero : (n : ℕ) → nat_eq n 0 ≡ true → n ≡ 0
      is_zero n is = grind (arith, nat_tests, is)
  all_within (s ∷ others) depth (Ok e) has closes =
      by_depth (depth_after s depth) refl closes (λ after one rest. all_within others after (with_step known spot s e) one rest)
    where
      by_depth : (after : Option ℕ) → depth_after s depth ≡ after → closes_all others after ≡ true
          → ((n : ℕ) → HasDepth n (with_step known spot s e) → closes_all others (Some n) ≡ true → AllWithin others (with_step known spot s e))
          → AllWithin (s ∷ others) (Ok e)
      by_depth None is none go_on = absurd cc
      by_depth (Some after) is rest go_on =
          let one = within s e depth after has is in
          let more = go_on after one.has_depth rest in
          record {
            same = ap (with_steps known spot others) one.same ∙ more.same;
            closed = more.closed;
          }

steps_after : (known : Meanings) (spot : Spot) (first second : List Step) (r : Result Evaluation ValueFault)
    → with_steps known spot (first ++ second) r ≡ with_steps known spot second (with_steps known spot first r)
steps_after known spot [] second r = refl
steps_after known spot (s ∷ first) second r = steps_after known spot first second (with_step_if known spot s r)

-- ## Literals

none_is : (offset : Option ℕ) (n : ℕ) → offset ≡ None → offset ≡ Some n → ⊥
none_is (Some m) n none is = absurd cc
none_is None n none is = absurd cc

abbrev the_word : {A : Type 0} → A → Result A ValueFault → A
the_word other (Err fault) = other
the_word other (Ok it) = it

-- an answer is this one, part by part
pub record IsAnswer (r : ℕ × List Ask × List Ask) (word : ℕ) (after after_punched : List Ask) : Type 0 where
  pub word_is : r.0 ≡ word
  pub asks_are : r.1 ≡ after
  pub punched_are : r.2 ≡ after_punched

abbrev answered : ℕ → List Ask → List Ask → AskResult
answered word asks punched = Ok (word, asks, punched)

is_answer : (a word : ℕ) (b after c after_punched : List Ask) → answered a b c ≡ answered word after after_punched → IsAnswer (a, b, c) word after after_punched
is_answer a word b after c after_punched is =
    let same = ap (the_word (a, b, c)) is in record { word_is = ap (λ r. r.0) same; asks_are = ap (λ r. r.1) same; punched_are = ap (λ r. r.2) same }

module _ (known : Meanings) (spot : Spot) (operation : ℕ) (is_indirect : Bool) (pool : Pool) (inside : List Step) (asks punched : List Ask)
    (word : ℕ) (after after_punched : List Ask) (clear : operation % 0o400 ≡ 0) (here_small : spot.here < 0o10000) where
  abbrev Wanted : Type 0
  Wanted = ReachesLiteral known spot pool inside asks punched word after after_punched

  abbrev whole : AskResult
  whole = Ok (word, after, after_punched)

  -- the operation, before its address
  abbrev begun : Sum
  begun = record { is_reference = true; operation = operation; is_indirect = is_indirect; total = 0; sign = empty.sign }

  abbrev around : Frame
  around = record { pool = pool; sum = begun }

  abbrev start : List Frame → Evaluation
  start frames = record { sum = empty; frames = frames; asks = asks; punched = punched }

  abbrev through : Bool
  through = is_through record begun { total = 0 }

  by_offset : (value : ℕ) (asked asked_punched : List Ask) (address : ℕ) (found found_punched : List Ask)
      → word_value known spot inside asks punched ≡ Ok (value, asked, asked_punched) → IsCell spot pool value asked asked_punched address found found_punched
      → (total : ℕ) → total ≡ address → (offset : Option ℕ) → offset_of spot.here total ≡ offset → (reach : (n : ℕ) × (offset ≡ Some n))
      → word_of_reference spot operation (is_through record begun { total = total }) offset total found found_punched ≡ whole → Wanted
  by_offset value asked asked_punched address found found_punched is_value cell total total_is (Some offset) offset_is reach is =
      let answer = is_answer (reference_word operation (is_through record begun { total = total }) offset) word found after found_punched after_punched is in
      record {
        value = value;
        asked = asked;
        asked_punched = asked_punched;
        is_value = is_value;
        asks_last = sym answer.asks_are ∙ cell.asks_last;
        punched_last = sym answer.punched_are ∙ cell.punched_last;
        reaches = record {
          at_offset =
              ap (reached_address spot.here) (sym answer.word_is)
              ∙ addressed spot.here total operation (is_through record begun { total = total }) offset clear offset_is
              ∙ total_is ∙ cell.address_is ∙ ap (λ l. page_start pool spot.here + cell_in l (ask_of spot pool value) % PAGE) answer.asks_are;
          on_page = ap (λ l. cell_in l (ask_of spot pool value) / PAGE) (sym answer.asks_are) ∙ cell.on_page;
        };
      }
  by_offset value asked asked_punched address found found_punched is_value cell total total_is None offset_is reach is = absurd (none_is None reach.0 refl reach.1)

  by_cell : (value : ℕ) (asked asked_punched : List Ask) → word_value known spot inside asks punched ≡ Ok (value, asked, asked_punched)
      → (r : AskResult) → GetsCell spot pool value asked asked_punched r → word_in spot (with_cell around [] r) ≡ whole → Wanted
  by_cell value asked asked_punched is_value (Err fault) gets is = absurd cc
  by_cell value asked asked_punched is_value (Ok (address, found, found_punched)) gets is =
      let total_is : (0 + address) % 0o10000 ≡ address =
      ap (λ n. (0 + n) % 0o10000) gets.address_is
      ∙ cell_is_address pool spot.here (cell_in found (ask_of spot pool value)) here_small ∙ sym gets.address_is in
      let reach = in_reach spot.here ((0 + address) % 0o10000) (near address (cell_in found (ask_of spot pool value)) total_is gets.address_is) in
      by_offset value asked asked_punched address found found_punched is_value gets ((0 + address) % 0o10000) total_is
      (offset_of spot.here ((0 + address) % 0o10000)) refl reach is
    where
      near : (address cell : ℕ) → (0 + address) % 0o10000 ≡ address → address ≡ page_start pool spot.here + cell % PAGE
          → ((0 + address) % 0o10000 < PAGE) ⊎ ((0 + address) % 0o10000 / PAGE ≡ spot.here / PAGE)
      near address cell total_is address_is =
          subst (λ n. (n < PAGE) ⊎ (n / PAGE ≡ spot.here / PAGE)) (sym (total_is ∙ address_is)) (cell_in_reach pool spot.here cell)

  by_value : (r : AskResult) → word_value known spot inside asks punched ≡ r → word_in spot (with_literal spot around [] r) ≡ whole → Wanted
  by_value (Err fault) is_value is = absurd cc
  by_value (Ok (value, asked, asked_punched)) is_value is =
      by_cell value asked asked_punched is_value (with_ask spot pool value asked asked_punched) (gets_cell spot pool value asked asked_punched) is

  by_inside : (r : Result Evaluation ValueFault) → with_steps known spot inside (Ok (start [])) ≡ r → HasDepth 0 r
      → word_in spot (with_step_if known spot step.Close (lift (around ∷ []) r)) ≡ whole → Wanted
  by_inside (Err fault) inside_is closed is = absurd cc
  by_inside (Ok e) inside_is closed is = by_frames e.frames refl closed is
    where
      by_frames : (frames : List Frame) → e.frames ≡ frames → length frames ≡ 0
          → word_in spot (with_close spot (frames ++ (around ∷ [])) e.sum e.asks e.punched) ≡ whole → Wanted
      by_frames [] frames_are none is = by_value (value_of spot e.sum e.asks e.punched) (ap (word_in spot) inside_is) is
      by_frames (frame ∷ others) frames_are none is = absurd cc

  from_start : closes_all inside (Some 0) ≡ true
      → word_in spot (with_steps known spot (inside ++ (step.Close ∷ [])) (Ok (start (around ∷ [])))) ≡ whole → Wanted
  from_start closes is =
      let parts = all_within known spot (around ∷ []) inside 0 (Ok (start [])) refl closes in
      by_inside (with_steps known spot inside (Ok (start []))) refl parts.closed
      (sym (ap (word_in spot) (steps_after known spot inside (step.Close ∷ []) (Ok (start (around ∷ [])))
      ∙ ap (with_step_if known spot step.Close) parts.same)) ∙ is)

pub literals_are_reached : LiteralsAreReached
literals_are_reached known spot operation false pool inside asks punched word after after_punched clear small closes is =
    from_start known spot operation false pool inside asks punched word after after_punched clear small closes is
literals_are_reached known spot operation true pool inside asks punched word after after_punched clear small closes is =
    from_start known spot operation true pool inside asks punched word after after_punched clear small closes is

-- ## Links

-- an offset with the bit of `I` has that bit
link_bit : (m offset : ℕ) → m % 0o400 ≡ 0 → 0o200 ≤ offset → offset < 0o400 → reference_word m true offset / 0o400 % 2 ≡ 1
link_bit m offset clear above below = by_bits (bit_or m 0o400) (or_mod m 0o400 9 ∙ by_low (m % 0o1000) (low_is m clear))
  where
    low_is : (m : ℕ) → m % 0o400 ≡ 0 → (m % 0o1000 ≡ 0) ⊎ (m % 0o1000 ≡ 0o400)
    low_is m clear = grind (arith, clear)

    by_low : (n : ℕ) → (n ≡ 0) ⊎ (n ≡ 0o400) → bit_or n 0o400 ≡ 0o400
    by_low n (inl is) = ap (λ k. bit_or k 0o400) is
    by_low n (inr is) = ap (λ k. bit_or k 0o400) is

    bit_of : (n : ℕ) → n % 0o1000 ≡ 0o400 + offset → n / 0o400 % 2 ≡ 1
    bit_of n is = omega (arith, is, above, below)

    same_offset : (offset : ℕ) → offset < 0o400 → offset % 0o1000 ≡ offset
    same_offset offset below = omega (arith, below)

    by_bits : (n : ℕ) → n % 0o1000 ≡ 0o400 → bit_or n offset / 0o400 % 2 ≡ 1
    by_bits n is =
        bit_of (bit_or n offset) (or_mod n offset 9 ∙ ap (λ k. bit_or k (offset % 0o1000)) is ∙ ap (bit_or 0o400) (same_offset offset below) ∙ numeral_or 0o377 offset refl below)

module _ (spot : Spot) (operation address : ℕ) (asks punched : List Ask) (word : ℕ) (after after_punched : List Ask) (clear : operation % 0o400 ≡ 0) where
  abbrev link_whole : AskResult
  link_whole = Ok (word, after, after_punched)

  from_cell : (r : AskResult) → GetsCell spot Own address asks punched r → with_link operation r ≡ link_whole
      → ReachesLink spot address asks punched word after after_punched
  from_cell (Err fault) gets is = absurd cc
  from_cell (Ok (cell, found, found_punched)) gets is =
      let answer = is_answer (reference_word operation true (cell % PAGE + 0o200)) word found after found_punched after_punched is in
      record {
        asks_last = sym answer.asks_are ∙ gets.asks_last;
        punched_last = sym answer.punched_are ∙ gets.punched_last;
        is_indirect = ap (λ n. n / 0o400 % 2) (sym answer.word_is) ∙ link_bit operation (cell % PAGE + 0o200) clear (above cell) (below cell);
        reaches = record {
          at_offset =
              ap (reached_address spot.here) (sym answer.word_is)
              ∙ reached_by spot.here (reference_word operation true (cell % PAGE + 0o200)) (cell % PAGE + 0o200)
              (word_bits operation true (cell % PAGE + 0o200) clear (below cell))
              ∙ at_offset spot.here cell (cell_in found (ask_of spot Own address)) gets.address_is
              ∙ ap (λ l. page_start Own spot.here + cell_in l (ask_of spot Own address) % PAGE) answer.asks_are;
          on_page = ap (λ l. cell_in l (ask_of spot Own address) / PAGE) (sym answer.asks_are) ∙ gets.on_page;
        };
      }
    where
      above : (cell : ℕ) → 0o200 ≤ cell % PAGE + 0o200
      above cell = omega arith

      below : (cell : ℕ) → cell % PAGE + 0o200 < 0o400
      below cell = omega arith

      one : (cell : ℕ) → (cell % PAGE + 0o200) / PAGE ≡ 1
      one cell = omega arith

      offset_is : (here address cell : ℕ) → address ≡ here / PAGE * PAGE + cell % PAGE → (address % PAGE + 0o200) % PAGE ≡ cell % PAGE
      offset_is here address cell is = omega (arith, is)

      at_offset : (here address cell : ℕ) → address ≡ page_start Own here + cell % PAGE
          → (if nat_eq ((address % PAGE + 0o200) / PAGE) 0 then 0 else here / PAGE * PAGE) + (address % PAGE + 0o200) % PAGE ≡ page_start Own here + cell % PAGE
      at_offset here address cell is =
          ap (λ n. (if nat_eq n 0 then 0 else here / PAGE * PAGE) + (address % PAGE + 0o200) % PAGE) (one address)
          ∙ ap (λ n. here / PAGE * PAGE + n) (offset_is here address cell is)

  from_link : (may_link : Bool) → with_link_if spot operation address may_link asks punched ≡ link_whole → ReachesLink spot address asks punched word after after_punched
  from_link false is = absurd cc
  from_link true is = from_cell (with_ask spot Own address asks punched) (gets_cell spot Own address asks punched) is

  from_offset : (is_indirect : Bool) (offset : Option ℕ) → offset ≡ None → word_of_reference spot operation is_indirect offset address asks punched ≡ link_whole
      → ReachesLink spot address asks punched word after after_punched
  from_offset is_indirect (Some offset) none is = absurd cc
  from_offset true None none is = absurd cc
  from_offset false None none is = from_link spot.may_link is

from_reference : (spot : Spot) (e : Evaluation) (word : ℕ) (after after_punched : List Ask) → e.sum.operation % 0o400 ≡ 0 → offset_of spot.here e.sum.total ≡ None
    → (is_reference : Bool) → is_reference ≡ true → value_by spot is_reference e.sum e.asks e.punched ≡ Ok (word, after, after_punched)
    → ReachesLink spot e.sum.total e.asks e.punched word after after_punched
from_reference spot e word after after_punched clear none true same is =
    from_offset spot e.sum.operation e.sum.total e.asks e.punched word after after_punched clear (is_through e.sum) (offset_of spot.here e.sum.total) none is
from_reference spot e word after after_punched clear none false same is = absurd cc

pub links_are_reached : LinksAreReached
links_are_reached known spot steps asks punched e word after after_punched evaluates is_reference clear none is =
    from_reference spot e word after after_punched clear none e.sum.is_reference is_reference (ap (word_in spot) (sym evaluates) ∙ is)
