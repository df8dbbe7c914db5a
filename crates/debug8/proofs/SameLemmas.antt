-- Snapshots with the same text.
use Rattle.std.proofs.Common.{◌≡◌, ℕ, zero, suc, ◌+◌, ◌/◌, ◌%◌, ◌<◌, Bool, true, false, length, List, [], ◌∷◌, ◌++◌, append_assoc, refl, ap, sym, ◌∙◌, arith}
use Rattle.word12.specs.Octal.{octal4}
use Rattle.tty8.specs.Teletype.{TeletypeState}
use Rattle.cpu8.specs.State.{State, with_core}
use Rattle.debug8.specs.Snapshot.{octal1, octal2, octal3, KeyValue, digits, truth, members, shown_text, member_text, later_text, object_text, snapshot}
use Rattle.debug8.specs.Laws.{HasRegisters}

-- ## Lists

abbrev head : List ℕ → ℕ
head [] = 0
head (x ∷ l) = x

abbrev tail : List ℕ → List ℕ
tail [] = []
tail (x ∷ l) = l

record SameParts (a b x y : List ℕ) : Type 0 where
  prefix : a ≡ b
  rest : x ≡ y

append_same : (a b x y : List ℕ) → length a ≡ length b → a ++ x ≡ b ++ y → SameParts a b x y
append_same [] [] x y n e = record { prefix = refl; rest = e }
append_same [] (q ∷ b) x y n e = absurd (omega (arith, n))
append_same (p ∷ a) [] x y n e = absurd (omega (arith, n))
append_same (p ∷ a) (q ∷ b) x y n e =
    let same = append_same a b x y (omega (arith, n)) (ap tail e) in
    record { prefix = ap (λ h. h ∷ a) (ap head e) ∙ ap (λ l. q ∷ l) same.prefix; rest = same.rest }

-- ## Members

-- digits as many, or truth values
abbrev IsLike : KeyValue → KeyValue → Type 0
IsLike (digits a) (digits b) = length a ≡ length b
IsLike (digits a) (truth b) = ⊥
IsLike (truth a) (digits b) = ⊥
IsLike (truth a) (truth b) = Unit {0}

record SameShown (v w : KeyValue) (x y : List ℕ) : Type 0 where
  shown : v ≡ w
  rest : x ≡ y

apart : ◌≡◌ {A = ℕ} 116 102 → ⊥
apart e = omega (arith, e)

shown_same : (v w : KeyValue) (x y : List ℕ) → IsLike v w → shown_text v ++ x ≡ shown_text w ++ y → SameShown v w x y
shown_same (digits a) (digits b) x y n e =
    let same = append_same a b (34 ∷ x) (34 ∷ y) n (sym (append_assoc a (34 ∷ []) x) ∙ ap tail e ∙ append_assoc b (34 ∷ []) y) in
    record { shown = ap digits same.prefix; rest = ap tail same.rest }
shown_same (digits a) (truth b) x y n e = absurd n
shown_same (truth a) (digits b) x y n e = absurd n
shown_same (truth true) (truth true) x y n e = record { shown = refl; rest = ap (λ l. tail (tail (tail (tail l)))) e }
shown_same (truth false) (truth false) x y n e = record { shown = refl; rest = ap (λ l. tail (tail (tail (tail (tail l))))) e }
shown_same (truth true) (truth false) x y n e = absurd (apart (ap head e))
shown_same (truth false) (truth true) x y n e = absurd (apart (sym (ap head e)))

record IsLikeMember (m n : List ℕ × KeyValue) : Type 0 where
  key : m.0 ≡ n.0
  like : IsLike m.1 n.1

parted : (key : List ℕ) (v : KeyValue) (x : List ℕ) → tail (member_text (key, v) ++ x) ≡ key ++ 34 ∷ 58 ∷ (shown_text v ++ x)
parted key v x = append_assoc key (34 ∷ 58 ∷ shown_text v) x

member_same : (m n : List ℕ × KeyValue) (x y : List ℕ) → IsLikeMember m n → member_text m ++ x ≡ member_text n ++ y → SameShown m.1 n.1 x y
member_same m n x y alike e =
    let same = append_same m.0 n.0 (34 ∷ 58 ∷ (shown_text m.1 ++ x)) (34 ∷ 58 ∷ (shown_text n.1 ++ y)) (ap length alike.key)
    (sym (parted m.0 m.1 x) ∙ ap tail e ∙ parted n.0 n.1 y) in
    shown_same m.1 n.1 x y alike.like (ap (λ l. tail (tail l)) same.rest)

abbrev AreLike : List (List ℕ × KeyValue) → List (List ℕ × KeyValue) → Type 0
AreLike [] [] = Unit {0}
AreLike [] (n ∷ ns) = ⊥
AreLike (m ∷ ms) [] = ⊥
AreLike (m ∷ ms) (n ∷ ns) = IsLikeMember m n × AreLike ms ns

-- what a member has, by its place
abbrev value_at : ℕ → List (List ℕ × KeyValue) → KeyValue
value_at k [] = truth false
value_at zero (m ∷ ms) = m.1
value_at (suc k) (m ∷ ms) = value_at k ms

value_by : (m n : List ℕ × KeyValue) (ms ns : List (List ℕ × KeyValue)) → m.1 ≡ n.1 → ((k : ℕ) → value_at k ms ≡ value_at k ns)
    → (k : ℕ) → value_at k (m ∷ ms) ≡ value_at k (n ∷ ns)
value_by m n ms ns first later zero = first
value_by m n ms ns first later (suc k) = later k

later_same : (ms ns : List (List ℕ × KeyValue)) (x y : List ℕ) → AreLike ms ns → later_text ms ++ x ≡ later_text ns ++ y
    → (k : ℕ) → value_at k ms ≡ value_at k ns
later_same [] [] x y like e = λ k. refl
later_same [] (n ∷ ns) x y like e = absurd like
later_same (m ∷ ms) [] x y like e = absurd like
later_same (m ∷ ms) (n ∷ ns) x y like e =
    let same = member_same m n (later_text ms ++ x) (later_text ns ++ y) like.0
    (sym (append_assoc (member_text m) (later_text ms) x) ∙ ap tail e ∙ append_assoc (member_text n) (later_text ns) y) in
    value_by m n ms ns same.shown (later_same ms ns x y like.1 same.rest)

first_same : (m n : List ℕ × KeyValue) (ms ns : List (List ℕ × KeyValue)) → IsLikeMember m n → AreLike ms ns
    → member_text m ++ (later_text ms ++ 125 ∷ []) ≡ member_text n ++ (later_text ns ++ 125 ∷ [])
    → (k : ℕ) → value_at k (m ∷ ms) ≡ value_at k (n ∷ ns)
first_same m n ms ns alike like e =
    let same = member_same m n (later_text ms ++ 125 ∷ []) (later_text ns ++ 125 ∷ []) alike e in
    value_by m n ms ns same.shown (later_same ms ns (125 ∷ []) (125 ∷ []) like same.rest)

object_same : (ms ns : List (List ℕ × KeyValue)) → AreLike ms ns → object_text ms ≡ object_text ns → (k : ℕ) → value_at k ms ≡ value_at k ns
object_same [] [] like e = λ k. refl
object_same [] (n ∷ ns) like e = absurd like
object_same (m ∷ ms) [] like e = absurd like
object_same (m ∷ ms) (n ∷ ns) like e = first_same m n ms ns like.0 like.1 (ap tail e)

digits_of : KeyValue → List ℕ
digits_of (digits ds) = ds
digits_of (truth b) = []

truth_of : KeyValue → Bool
truth_of (digits ds) = false
truth_of (truth b) = b

same_digits : (a b : List ℕ) → digits a ≡ digits b → a ≡ b
unfolding digits_of
same_digits a b e = ap digits_of e

same_truth : (a b : Bool) → truth a ≡ truth b → a ≡ b
unfolding truth_of
same_truth a b e = ap truth_of e

-- ## Numbers by their digits

same1 : (a b : ℕ) → a < 8 → b < 8 → octal1 a ≡ octal1 b → a ≡ b
same1 a b small low e = let last : 48 + a % 8 ≡ 48 + b % 8 = ap head e in omega (arith, small, low, last)

same2 : (a b : ℕ) → a < 64 → b < 64 → octal2 a ≡ octal2 b → a ≡ b
same2 a b small low e =
    let first : 48 + a / 8 % 8 ≡ 48 + b / 8 % 8 = ap head e in
    let last : 48 + a % 8 ≡ 48 + b % 8 = ap (λ l. head (tail l)) e in
    omega (arith, small, low, first, last)

same3 : (a b : ℕ) → a < 512 → b < 512 → octal3 a ≡ octal3 b → a ≡ b
same3 a b small low e =
    let first : 48 + a / 64 % 8 ≡ 48 + b / 64 % 8 = ap head e in
    let last = same2 (a % 64) (b % 64) (omega arith) (omega arith) (in_two a ∙ ap tail e ∙ sym (in_two b)) in
    omega (arith, small, low, first, last)
  where
    in_two : (n : ℕ) → octal2 (n % 64) ≡ octal2 n
    in_two n =
        let high : 48 + n % 64 / 8 % 8 ≡ 48 + n / 8 % 8 = omega arith in
        let low : 48 + n % 64 % 8 ≡ 48 + n % 8 = omega arith in
        ap (λ d. d ∷ (48 + n % 64 % 8) ∷ []) high ∙ ap (λ d. (48 + n / 8 % 8) ∷ d ∷ []) low

same4 : (a b : ℕ) → a < 4096 → b < 4096 → octal4 a ≡ octal4 b → a ≡ b
same4 a b small low e =
    let first : 48 + a / 512 % 8 ≡ 48 + b / 512 % 8 = ap head e in
    let second : 48 + a / 64 % 8 ≡ 48 + b / 64 % 8 = ap (λ l. head (tail l)) e in
    let third : 48 + a / 8 % 8 ≡ 48 + b / 8 % 8 = ap (λ l. head (tail (tail l))) e in
    let last : 48 + a % 8 ≡ 48 + b % 8 = ap (λ l. head (tail (tail (tail l)))) e in
    omega (arith, small, low, first, second, third, last)

-- ## States

like_members : (a b : State) → (k : ℕ) → snapshot a ≡ snapshot b → value_at k (members a) ≡ value_at k (members b)
unfolding snapshot
like_members a b k e = object_same (members a) (members b) (record { key = refl; like = refl }, (record { key = refl; like = tt }, (record { key = refl; like = refl }, (record { key = refl; like = tt }, (record { key = refl; like = refl }, (record { key = refl; like = refl }, (record { key = refl; like = tt }, (record { key = refl; like = tt }, (record { key = refl; like = refl }, (record { key = refl; like = refl }, (record { key = refl; like = refl }, (record { key = refl; like = tt }, (record { key = refl; like = tt }, (record { key = refl; like = refl }, (record { key = refl; like = refl }, (record { key = refl; like = tt }, tt)))))))))))))))) e k

printer : ℕ → Bool → Bool → Bool → TeletypeState
printer buffer keyboard_flag printer_flag busy = record { buffer = buffer; keyboard_flag = keyboard_flag; printer_flag = printer_flag; busy = busy }

same_teletype : (a b : State) → HasRegisters a → HasRegisters b → snapshot a ≡ snapshot b → a.teletype ≡ b.teletype
unfolding printer
same_teletype a b here there e =
    let same_buffer = same3 a.teletype.buffer b.teletype.buffer (omega (arith, here.buffer)) (omega (arith, there.buffer)) (same_digits _ _ (like_members a b 8 e)) in
    let same_keyboard_flag = same_truth a.teletype.keyboard_flag b.teletype.keyboard_flag (like_members a b 7 e) in
    let same_printer_flag = same_truth a.teletype.printer_flag b.teletype.printer_flag (like_members a b 11 e) in
    let same_busy = same_truth a.teletype.busy b.teletype.busy (like_members a b 1 e) in
    ap (λ x. printer x a.teletype.keyboard_flag a.teletype.printer_flag a.teletype.busy) same_buffer
    ∙ ap (λ x. printer b.teletype.buffer x a.teletype.printer_flag a.teletype.busy) same_keyboard_flag
    ∙ ap (λ x. printer b.teletype.buffer b.teletype.keyboard_flag x a.teletype.busy) same_printer_flag
    ∙ ap (λ x. printer b.teletype.buffer b.teletype.keyboard_flag b.teletype.printer_flag x) same_busy

pub same_state : (a b : State) → HasRegisters a → HasRegisters b → snapshot a ≡ snapshot b → with_core a [] ≡ with_core b []
same_state a b here there e =
    let same_l = same1 a.l b.l (omega (arith, here.l)) (omega (arith, there.l)) (same_digits _ _ (like_members a b 9 e)) in
    let same_ac = same4 a.ac b.ac here.ac there.ac (same_digits _ _ (like_members a b 0 e)) in
    let same_pc = same4 a.pc b.pc here.pc there.pc (same_digits _ _ (like_members a b 10 e)) in
    let same_instruction_field = same1 a.instruction_field b.instruction_field here.instruction_field there.instruction_field (same_digits _ _ (like_members a b 5 e)) in
    let same_instruction_buffer = same1 a.instruction_buffer b.instruction_buffer here.instruction_buffer there.instruction_buffer (same_digits _ _ (like_members a b 4 e)) in
    let same_data_field = same1 a.data_field b.data_field here.data_field there.data_field (same_digits _ _ (like_members a b 2 e)) in
    let same_save_field = same2 a.save_field b.save_field here.save_field there.save_field (same_digits _ _ (like_members a b 13 e)) in
    let same_switches = same4 a.switches b.switches here.switches there.switches (same_digits _ _ (like_members a b 14 e)) in
    let same_running = same_truth a.running b.running (like_members a b 12 e) in
    let same_interrupts_on = same_truth a.interrupts_on b.interrupts_on (like_members a b 6 e) in
    let same_waiting = same_truth a.waiting b.waiting (like_members a b 15 e) in
    let same_held_off = same_truth a.held_off b.held_off (like_members a b 3 e) in
    let same_printer = same_teletype a b here there e in
    cc
