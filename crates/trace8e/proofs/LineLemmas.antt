-- The line of a step, by what stood before it.
use Rattle.std.proofs.Common.{◌≡◌, ℕ, ◌+◌, zero, suc, Bool, Option, Some, None, option_to_list, List, [], ◌∷◌, ◌++◌, append-nil, append_assoc, add-one, refl, ap, sym, subst, ◌∙◌, arith}
use Rattle.word12.specs.Octal.{octal4, octal5}
use Rattle.cpu8.specs.State.{State, next_cell}
use Rattle.cpu8.specs.Step.{next_word}
use Rattle.cpu8e.specs.State.{State8e}
use Rattle.cpu8.specs.declared.outcomes.Stepped.{Stepped}
use Rattle.cpu8.specs.declared.outcomes.Stepped.TheVariants.{Stopped, Interrupted, Ran, Halted, Unassigned}
use Rattle.tape_source.specs.Lines.{with_lead}
use Rattle.rk8e.specs.declared.moves.Moved.{Moved}
use Rattle.pdp8e.specs.State.{Pdp8e}
use Rattle.pdp8e.specs.Step.{after_beginning, rest_of_step, step}
use Rattle.pdp8e.specs.Runs.{with_printer_done}
use Rattle.pdp8e.specs.Terminal.{Terminal, later, next, after_attention, after_step, at_step, in_step, move_at, out_of_step}
use Rattle.trace8.specs.Stores.{changing_cells}
use Rattle.trace8.specs.Trace.{change_text, changes_text, printed_text}
use Rattle.trace8e.specs.Names.{instruction_of_8e}
use Rattle.pdp8e.specs.Transfers.{moved_text}
use Rattle.trace8e.specs.Trace.{instruction_text, next_line, registers_text, step_line, step_text, trace_lines}
use Rattle.trace8.specs.StoresSteps.{change_line, word_at}
use Rattle.trace8e.specs.StoresSteps.{IsBefore, change_lines, instruction_line, trace_line, step_report}
use Rattle.trace8e.specs.declared.stores.Before.{Before}

-- ## One line

told-instruction : (tagged : ℕ → Bool) (s : State) (b : Before) → IsBefore s b → instruction_line tagged b ≡ instruction_text tagged s
told-instruction tagged s b is =
    ap (λ c. octal5 c ++ 0o40 ∷ octal4 b.word ++ with_lead 9 (instruction_of_8e tagged c b.word)) is.cell
    ∙ ap (λ w. octal5 (next_cell s) ++ 0o40 ∷ octal4 w ++ with_lead 9 (instruction_of_8e tagged (next_cell s) w)) is.word

told-step : (tagged : ℕ → Bool) (s : State) (b : Before) (did : Stepped) → IsBefore s b → step_report tagged b did ≡ step_text tagged s did
told-step tagged s b Stopped is = told-instruction tagged s b is
told-step tagged s b Interrupted is = refl
told-step tagged s b (Ran printed) is = told-instruction tagged s b is
told-step tagged s b Halted is = told-instruction tagged s b is
told-step tagged s b (Unassigned word) is = told-instruction tagged s b is

told-cells : (old new : List ℕ) (pointer stored : Option ℕ)
    → change_line pointer (word_at old pointer) new ++ change_line stored (word_at old stored) new
    ≡ changes_text old new (option_to_list pointer ++ option_to_list stored)
told-cells old new None None = refl
told-cells old new None (Some at) = sym (append-nil (change_text old new at))
told-cells old new (Some cell) None = refl
told-cells old new (Some cell) (Some at) = ap (λ l. change_text old new cell ++ l) (sym (append-nil (change_text old new at)))

told-changes : (s : State) (b : Before) (did : Stepped) (new : List ℕ) → IsBefore s b
    → change_lines b did new ≡ changes_text s.core new (changing_cells s (next_word s) did)
told-changes s b Stopped new is = refl
told-changes s b Interrupted new is =
    ap (λ word. change_line (Some 0) word new) is.first_word ∙ sym (append-nil (change_text s.core new 0))
told-changes s b (Ran printed) new is =
    ap (λ word. change_line b.pointer word new ++ change_line b.stored_cell b.stored_word new) is.pointer_word
    ∙ ap (λ word. change_line b.pointer (word_at s.core b.pointer) new ++ change_line b.stored_cell word new) is.stored_word
    ∙ told-cells s.core new b.pointer b.stored_cell
    ∙ ap (λ cells. changes_text s.core new cells) is.cells
told-changes s b Halted new is = refl
told-changes s b (Unassigned word) new is = refl

told-line : (tagged : ℕ → Bool) (s : State8e) (b : Before) (did : Stepped) (s' : State8e) → IsBefore s.base b
    → trace_line tagged b did s' ≡ step_line tagged s did s'
told-line tagged s b did s' is =
    ap (λ l. l ++ registers_text s' ++ change_lines b did s'.base.core ++ printed_text did ++ 10 ∷ []) (told-step tagged s.base b did is)
    ∙ ap (λ l. step_text tagged s.base did ++ registers_text s' ++ l ++ printed_text did ++ 10 ∷ []) (told-changes s.base b did s'.base.core is)

-- ## A step, by its parts

-- the rest of a step is that of the whole
pub rest-of : ((m : Pdp8e) → step m ≡ rest_of_step (after_beginning m)) → (t : Terminal) → rest_of_step (at_step t) ≡ after_step t
rest-of parts t = sym (parts (with_printer_done (after_attention t).machine))

pub next-of : ((m : Pdp8e) → step m ≡ rest_of_step (after_beginning m)) → (t : Terminal) → out_of_step (in_step t) ≡ next t
next-of parts t = ap (λ (r : Pdp8e × Stepped). let u : Terminal = record (in_step t) { machine = r.0 } in u) (rest-of parts t)

told-next : (tagged : ℕ → Bool) (t : Terminal) (b : Before) (did : Stepped) (s' : State8e) → IsBefore (at_step t).processor.base b
    → did ≡ (after_step t).1 → s' ≡ (after_step t).0.processor → moved_text (move_at t) ++ trace_line tagged b did s' ≡ next_line tagged t
unfolding next_line
told-next tagged t b did s' is did_is machine_is =
    ap (λ l. moved_text (move_at t) ++ l)
    (told-line tagged (at_step t).processor b did s' is
    ∙ ap (λ d. step_line tagged (at_step t).processor d s') did_is
    ∙ ap (λ x. step_line tagged (at_step t).processor (after_step t).1 x) machine_is)

-- the lines that a step appends
pub appended : ((m : Pdp8e) → step m ≡ rest_of_step (after_beginning m)) → (tagged : ℕ → Bool) (t t1 t2 : Terminal) (m m' : Pdp8e) (s s' : State8e) (b : Before) (did : Stepped) (moved : Option Moved)
    → (lines lines1 lines' : List ℕ) → moved ≡ move_at t → t1 ≡ in_step t → m ≡ t1.machine → s ≡ m.processor → IsBefore s.base b → t2 ≡ out_of_step t1 → did ≡ (rest_of_step t1.machine).1
    → m' ≡ t2.machine → s' ≡ m'.processor → lines1 ≡ lines ++ moved_text moved → lines' ≡ lines1 ++ trace_line tagged b did s' → lines' ≡ lines ++ next_line tagged t
appended parts tagged t t1 t2 m m' s s' b did moved lines lines1 lines' moves begins at sees is ends done left seen first line =
    let before : IsBefore (at_step t).processor.base b =
    subst (λ (u : State8e). IsBefore u.base b) (sees ∙ ap (λ (x : Pdp8e). x.processor) at ∙ ap (λ (x : Terminal). x.machine.processor) begins) is in
    let after : t2 ≡ next t = ends ∙ ap (λ (x : Terminal). out_of_step x) begins ∙ next-of parts t in
    line
    ∙ ap (λ l. l ++ trace_line tagged b did s') (first ∙ ap (λ (x : Option Moved). lines ++ moved_text x) moves)
    ∙ append_assoc lines (moved_text (move_at t)) (trace_line tagged b did s')
    ∙ ap (λ l. lines ++ l)
    (told-next tagged t b did s' before (done ∙ ap (λ (x : Terminal). (rest_of_step x.machine).1) begins ∙ ap (λ (r : Pdp8e × Stepped). r.1) (rest-of parts t))
    (seen ∙ ap (λ (x : Pdp8e). x.processor) left ∙ ap (λ (x : Terminal). x.machine.processor) after))

-- ## Lines

pub lines-none : (tagged : ℕ → Bool) (t : Terminal) → trace_lines tagged 0 t ≡ []
unfolding trace_lines
lines-none tagged t = refl

pub lines-next : (tagged : ℕ → Bool) (k : ℕ) (t : Terminal) → trace_lines tagged (k + 1) t ≡ trace_lines tagged k t ++ next_line tagged (later k t)
unfolding trace_lines
lines-next tagged k t = rw add-one refl

pub lines-add : ((a b : ℕ) (t : Terminal) → later (a + b) t ≡ later b (later a t)) → (tagged : ℕ → Bool) (a b : ℕ) (t : Terminal)
    → trace_lines tagged (a + b) t ≡ trace_lines tagged a t ++ trace_lines tagged b (later a t)
lines-add adds tagged a zero t =
    let e : a + 0 ≡ a = omega arith in
    ap (λ k. trace_lines tagged k t) e
    ∙ sym (append-nil (trace_lines tagged a t))
    ∙ ap (λ l. trace_lines tagged a t ++ l) (sym (lines-none tagged (later a t)))
lines-add adds tagged a (suc b) t =
    let e : a + suc b ≡ a + b + 1 = omega arith in
    let f : b + 1 ≡ suc b = omega arith in
    ap (λ k. trace_lines tagged k t) e
    ∙ lines-next tagged (a + b) t
    ∙ ap (λ l. l ++ next_line tagged (later (a + b) t)) (lines-add adds tagged a b t)
    ∙ ap (λ x. (trace_lines tagged a t ++ trace_lines tagged b (later a t)) ++ next_line tagged x) (adds a b t)
    ∙ append_assoc (trace_lines tagged a t) (trace_lines tagged b (later a t)) (next_line tagged (later b (later a t)))
    ∙ ap (λ l. trace_lines tagged a t ++ l) (sym (lines-next tagged b (later a t)))
    ∙ ap (λ k. trace_lines tagged a t ++ trace_lines tagged k (later a t)) f
