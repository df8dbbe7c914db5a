-- Quick steps of a run.
use Rattle.std.proofs.Common.{◌≡◌, ℕ, zero, suc, ◌+◌, ◌-◌, ◌/◌, ◌%◌, ◌<◌, ◌≤◌, Bool, true, false, true≢false, ◌&&◌, ◌||◌, not, nat_eq, nat_le, nat_lt, if◌then◌else◌, None, add-one, refl, ap, sym, subst, ◌∙◌, arith, below_more}
use Rattle.std.proofs.lemmas.Bool.{and_parts, eqb-true}
use Rattle.std.proofs.lemmas.Bool.Decides.{nat_tests}
use Rattle.cpu8.specs.State.{State}
use Rattle.cpu8.specs.Decoding.{field_of, is_group_1, is_group_2, has_hlt}
use Rattle.cpu8.specs.Operate as Operate8i
use Rattle.cpu8.specs.Transfer as Transfer8i
use Rattle.cpu8.specs.Step as Step8i
use Rattle.cpu8.specs.declared.outcomes.Stepped.{Stepped}
use Rattle.cpu8.specs.declared.outcomes.Stepped.TheVariants.{Ran}
use Rattle.cpu8e.specs.State.{State8e, as_8i, with_base, is_requested, grants_interrupt, printer_done}
use Rattle.cpu8e.specs.Console.{nothing_row}
use Rattle.cpu8e.specs.Operate.{is_privileged, bsw_result, group1_row, refusal_of, group2_row, group3_done, operate_row}
use Rattle.cpu8e.specs.Step.{is_reference, is_jump, is_transfer, jump_row, device_row, transfer_row, after_instruction, next_word, step}
use Rattle.cpu8e.specs.Runs.{printing_step, after_keys, after}
use Rattle.cpu8e.specs.Unasked.{changes_fields, is_quick_transfer, is_quick_operate, is_quick, may_ask, IsUnasked, AreUnasked}
use Rattle.cpu8e.specs.QuickSteps.{is_for_user, is_quiet, Stays, Does}
use Rattle.cpu8e.proofs.CommonLemmas.{either, within}
use Rattle.cpu8e.proofs.UserLemmas.{refers, small}

-- ## A quiet machine

neither : (a b : Bool) → a || b ≡ false → (a ≡ false) × (b ≡ false)
neither true b h = absurd (true≢false h)
neither false b h = (refl, h)

not_true : (b : Bool) → not b ≡ true → b ≡ false
not_true true h = absurd (true≢false (sym h))
not_true false h = refl

pub record QuietParts (s : State8e) : Type 0 where
  pub running : s.base.running ≡ true
  pub requests : (s.base.interrupts_on && is_requested s) ≡ false
  pub busy : s.base.teletype.busy ≡ false
  pub user_flag : s.user_flag ≡ false
  pub user_buffer : s.user_buffer ≡ false

pub quiet-parts : (s : State8e) → is_quiet s ≡ true → QuietParts s
quiet-parts s h =
    let a = and_parts s.base.running _ h in
    let b = and_parts (not (s.base.interrupts_on && is_requested s)) _ a.1 in
    let c = and_parts (not s.base.teletype.busy) (not (is_for_user s)) b.1 in
    let user = neither s.user_flag s.user_buffer (not_true (is_for_user s) c.1) in
    record {
      running = a.0;
      requests = not_true (s.base.interrupts_on && is_requested s) b.0;
      busy = not_true s.base.teletype.busy c.0;
      user_flag = user.0;
      user_buffer = user.1;
    }

none-granted : (on waits held requests : Bool) → (on && requests) ≡ false → (on && (not waits && (not held && requests))) ≡ false
none-granted false waits held requests h = refl
none-granted true waits held true h = absurd (true≢false h)
none-granted true true held false h = refl
none-granted true false true false h = refl
none-granted true false false false h = refl

-- a step of it is its next instruction
pub printing_step-quiet : (s : State8e) → is_quiet s ≡ true → printing_step s ≡ after_instruction s (next_word s)
unfolding step
printing_step-quiet s h =
    let parts = quiet-parts s h in
    let none : grants_interrupt s ≡ false = none-granted s.base.interrupts_on s.base.waiting s.base.held_off (is_requested s) parts.requests in
    ap (λ b. step (if b then printer_done s else s)) parts.busy ∙ rw (parts.running, none) refl

pub stays-same : (s : State8e) → Stays s s
stays-same s = record {
  running = refl;
  interrupts_on = refl;
  teletype = refl;
  user_flag = refl;
  user_buffer = refl;
  user_request = refl;
  console_enabled = refl;
  device_request = refl;
}

pub stays-on : (first old new : State8e) → Stays first old → Stays old new → Stays first new
stays-on first old new before now = record {
  running = now.running ∙ before.running;
  interrupts_on = now.interrupts_on ∙ before.interrupts_on;
  teletype = now.teletype ∙ before.teletype;
  user_flag = now.user_flag ∙ before.user_flag;
  user_buffer = now.user_buffer ∙ before.user_buffer;
  user_request = now.user_request ∙ before.user_request;
  console_enabled = now.console_enabled ∙ before.console_enabled;
  device_request = now.device_request ∙ before.device_request;
}

pub stays-quiet : (old new : State8e) → is_quiet old ≡ true → Stays old new → is_quiet new ≡ true
stays-quiet old new h stays =
    rw (stays.running, stays.interrupts_on, stays.teletype, stays.user_flag, stays.user_buffer, stays.user_request, stays.console_enabled, stays.device_request) h

-- ## What an instruction of a quick word does

-- it prints nothing, goes on, and leaves a quiet machine quiet
record IsMade (s : State8e) (r : State8e × Stepped) : Type 0 where
  answer : r.1 ≡ Ran None
  stays : Stays s r.0

made : (s : State8e) (b : Bool) (x y : State8e × Stepped) → (b ≡ true → IsMade s x) → (b ≡ false → IsMade s y) → IsMade s (if b then x else y)
made s true x y hx hy = hx refl
made s false x y hx hy = hy refl

-- the 8/I in it ends so
with-base : (s : State8e) (new : State) → new.running ≡ s.base.running → new.interrupts_on ≡ s.base.interrupts_on → new.teletype ≡ s.base.teletype
    → Stays s (with_base s new)
with-base s new running interrupts teletype = record {
  running = running;
  interrupts_on = interrupts;
  teletype = teletype;
  user_flag = refl;
  user_buffer = refl;
  user_request = refl;
  console_enabled = refl;
  device_request = refl;
}

refers-answer-at : (s : State) (w q : ℕ) → w / 0o1000 ≡ q → nat_le q 5 ≡ true → (Step8i.after_instruction s w).1 ≡ Ran None
unfolding Step8i.after_instruction
refers-answer-at s w zero e h = rw e refl
refers-answer-at s w (suc zero) e h = rw e refl
refers-answer-at s w (suc (suc zero)) e h = rw e refl
refers-answer-at s w (suc (suc (suc zero))) e h = rw e refl
refers-answer-at s w (suc (suc (suc (suc zero)))) e h = rw e refl
refers-answer-at s w (suc (suc (suc (suc (suc zero))))) e h = rw e refl
refers-answer-at s w (suc (suc (suc (suc (suc (suc q)))))) e h =
    let b = within (suc (suc (suc (suc (suc (suc q)))))) 5 h in absurd (omega (arith, b))

refers-answer : (s : State) (w : ℕ) → is_jump w ≡ true → (Step8i.after_instruction s w).1 ≡ Ran None
refers-answer s w h = refers-answer-at s w (w / 0o1000) refl h

reference-made : (s : State8e) (w : ℕ) → is_reference w ≡ true → IsMade s (as_8i s (Step8i.after_instruction s.base w))
reference-made s w h =
    let jumps = small (w / 0o1000) h in
    let r = refers s.base w jumps in
    record {
      answer = refers-answer s.base w jumps;
      stays = with-base s (Step8i.after_instruction s.base w).0 r.running r.interrupts_on r.teletype;
    }

jump-made : (s : State8e) (w : ℕ) → s.user_flag ≡ false → s.user_buffer ≡ false → is_jump w ≡ true → IsMade s (jump_row s w)
jump-made s w flag buffer h =
    let r = refers s.base w h in
    record {
      answer = refers-answer s.base w h;
      stays = record {
        running = r.running;
        interrupts_on = r.interrupts_on;
        teletype = r.teletype;
        user_flag = buffer ∙ sym flag;
        user_buffer = refl;
        user_request = refl;
        console_enabled = refl;
        device_request = refl;
      };
    }

-- ## IOTs

ksf-made : (s : State8e) → IsMade s (device_row s 0o6031)
ksf-made s = record { answer = refl; stays = with-base s (Transfer8i.keyboard_row s.base 0o6031) refl refl refl }

tsf-made : (s : State8e) → IsMade s (device_row s 0o6041)
tsf-made s = record { answer = refl; stays = with-base s (Transfer8i.printer_row s.base 0o6041).0 refl refl refl }

rdf-made : (s : State8e) → IsMade s (device_row s 0o6214)
rdf-made s = record { answer = refl; stays = with-base s (Transfer8i.rdf_row s.base) refl refl refl }

rif-made : (s : State8e) → IsMade s (device_row s 0o6224)
rif-made s = record { answer = refl; stays = with-base s (Transfer8i.rif_row s.base) refl refl refl }

apart : (n k : ℕ) → k < n → nat_eq n k ≡ false
apart n k h = grind (arith, nat_tests)

last_pulses : (n : ℕ) → (nat_le 1 n && nat_le n 3) ≡ true → nat_eq n 1 ≡ false → nat_eq n 2 ≡ false → n ≡ 3
last_pulses n h not_1 not_2 =
    let parts = and_parts (nat_le 1 n) (nat_le n 3) h in grind (arith, nat_tests, parts)

fields-made : (s : State8e) (w : ℕ) → changes_fields w ≡ true → IsMade s (device_row s w)
fields-made s w h =
    let parts = and_parts (nat_eq (w / 0o100) 0o62) (nat_le 1 (w % 8) && nat_le (w % 8) 3) h in
    let top : w / 0o100 ≡ 0o62 = eqb-true (w / 0o100) 0o62 parts.0 in
    let above : 4 < w / 0o10 % 0o100 = omega (arith, top) in
    let not_0 : nat_eq (w / 0o10 % 0o100) 0 ≡ false = apart (w / 0o10 % 0o100) 0 (omega (arith, above)) in
    let not_3 : nat_eq (w / 0o10 % 0o100) 3 ≡ false = apart (w / 0o10 % 0o100) 3 (omega (arith, above)) in
    let not_4 : nat_eq (w / 0o10 % 0o100) 4 ≡ false = apart (w / 0o10 % 0o100) 4 above in
    either (nat_eq (w % 8) 1)
    (λ cdf. rw (not_0, not_3, not_4, top, eqb-true (w % 8) 1 cdf)
    (record { answer = refl; stays = with-base s (Transfer8i.cdf_row s.base (field_of w)) refl refl refl }))
    (λ not_cdf. either (nat_eq (w % 8) 2)
    (λ cif. rw (not_0, not_3, not_4, top, eqb-true (w % 8) 2 cif)
    (record { answer = refl; stays = with-base s (Transfer8i.cif_row s.base (field_of w)) refl refl refl }))
    (λ not_cif. rw (not_0, not_3, not_4, top, last_pulses (w % 8) parts.1 not_cdf not_cif)
    (record { answer = refl; stays = with-base s (Transfer8i.cdf_cif_row s.base (field_of w)) refl refl refl })))

transfer-made : (s : State8e) (w : ℕ) → is_quick_transfer w ≡ true → IsMade s (device_row s w)
transfer-made s w h = either (nat_eq w 0o6031)
    (λ yes. subst (λ n. IsMade s (device_row s n)) (sym (eqb-true w 0o6031 yes)) (ksf-made s))
    (λ not_ksf. either (nat_eq w 0o6041)
    (λ yes. subst (λ n. IsMade s (device_row s n)) (sym (eqb-true w 0o6041 yes)) (tsf-made s))
    (λ not_tsf. either (nat_eq w 0o6214)
    (λ yes. subst (λ n. IsMade s (device_row s n)) (sym (eqb-true w 0o6214 yes)) (rdf-made s))
    (λ not_rdf. either (nat_eq w 0o6224)
    (λ yes. subst (λ n. IsMade s (device_row s n)) (sym (eqb-true w 0o6224 yes)) (rif-made s))
    (λ not_rif. fields-made s w (rw (not_ksf, not_tsf, not_rdf, not_rif) at h)))))

-- ## Operates

group1-made : (s : State8e) (w : ℕ) → IsMade s (group1_row s w)
group1-made s w = made s (Operate8i.is_group1_unassigned w) (with_base s (bsw_result s.base w), Ran None) (as_8i s (Operate8i.group1_row s.base w))
    (λ _. record { answer = refl; stays = with-base s (bsw_result s.base w) refl refl refl })
    (λ no. rw no (record { answer = refl; stays = with-base s (Operate8i.group1_done s.base w) refl refl refl }))

group2-made : (s : State8e) (w : ℕ) → s.user_flag ≡ false → has_hlt w ≡ false → IsMade s (group2_row s w)
group2-made s w flag goes = made s (s.user_flag && is_privileged w) (refusal_of s w, Ran None) (as_8i s (Operate8i.group2_row s.base w))
    (λ user. absurd (true≢false (sym (and_parts s.user_flag (is_privileged w) user).0 ∙ flag)))
    (λ _. record { answer = rw goes refl; stays = with-base s (Operate8i.group2_done s.base w) (rw goes refl) refl refl })

group3-made : (s : State8e) (w : ℕ) → IsMade s (group3_done s w, Ran None)
group3-made s w = record {
  answer = refl;
  stays = record {
    running = refl;
    interrupts_on = refl;
    teletype = refl;
    user_flag = refl;
    user_buffer = refl;
    user_request = refl;
    console_enabled = refl;
    device_request = refl;
  };
}

operate-made : (s : State8e) (w : ℕ) → s.user_flag ≡ false → is_quick_operate w ≡ true → IsMade s (operate_row s w)
operate-made s w flag h =
    made s (is_group_1 w) (group1_row s w) (if is_group_2 w then group2_row s w else (group3_done s w, Ran None))
    (λ _. group1-made s w)
    (λ not_1. made s (is_group_2 w) (group2_row s w) (group3_done s w, Ran None)
    (λ two. group2-made s w flag (not_true (has_hlt w) (rw (not_1, two) at h)))
    (λ _. group3-made s w))

-- ## All words

low-jump : (w : ℕ) → w < 0o6000 → is_jump w ≡ true
low-jump w h = grind (arith, nat_tests)

-- references to memory and jumps are quick
pub low-quick : (w : ℕ) → w < 0o6000 → is_quick w ≡ true
low-quick w h = rw (low-jump w h) refl

instruction-made : (s : State8e) (w : ℕ) → s.user_flag ≡ false → s.user_buffer ≡ false → is_quick w ≡ true → IsMade s (after_instruction s w)
unfolding after_instruction
instruction-made s w flag buffer h =
    made s (is_reference w) (as_8i s (Step8i.after_instruction s.base w)) _
    (λ yes. reference-made s w yes)
    (λ _. made s (is_jump w) (jump_row s w) _
    (λ yes. jump-made s w flag buffer yes)
    (λ no_jump. made s (is_transfer w) (transfer_row s w) (operate_row s w)
    (λ yes. made s s.user_flag (record (nothing_row s) { user_request = true }, Ran None) (device_row s w)
    (λ user. absurd (true≢false (sym user ∙ flag)))
    (λ _. transfer-made s w (rw (no_jump, yes) at h)))
    (λ no. operate-made s w flag (rw (no_jump, no) at h))))

pub does : (s new : State8e) (w : ℕ) → is_quiet s ≡ true → is_quick w ≡ true → new ≡ (after_instruction s w).0 → Does s w new
does s new w quiet quick state =
    let parts = quiet-parts s quiet in
    let m = instruction-made s w parts.user_flag parts.user_buffer quick in
    record {
      state = state;
      answer = sym m.answer;
      word = quick;
      stays = subst (λ x. Stays s x) (sym state) m.stays;
    }

-- ## One step more

pub after-none : (s : State8e) → after 0 s ≡ s
unfolding after_keys
after-none s = refl

pub after-next : (k : ℕ) (s : State8e) → after (k + 1) s ≡ (printing_step (after k s)).0
unfolding after_keys
after-next k s = rw add-one refl

pub after-quick : (k : ℕ) (s old new : State8e) → old ≡ after k s → is_quiet old ≡ true → Does old (next_word old) new → new ≡ after (k + 1) s
after-quick k s old new at h does =
    does.state ∙ (ap (λ p. p.0) (sym (printing_step-quiet old h)) ∙ (ap (λ x. (printing_step x).0) at ∙ sym (after-next k s)))

pub none-unasked : (looks : Bool) (s : State8e) → AreUnasked looks s 0
none-unasked looks s m below = absurd (omega (arith, below))

pub unasked-next : (looks : Bool) (k : ℕ) (s old new : State8e) → old ≡ after k s → is_quiet old ≡ true → may_ask looks old ≡ false
    → Stays s old → Does old (next_word old) new → AreUnasked looks s k → AreUnasked looks s (k + 1)
unasked-next looks k s old new at h asks stays does before = below_more _ _ before (record {
  answer = ap (λ x. (printing_step x).1) (sym at) ∙ (ap (λ p. p.1) (printing_step-quiet old h) ∙ sym does.answer);
  word = ap (λ x. is_quick (next_word x)) (sym at) ∙ does.word;
  asks = ap (λ x. may_ask looks x) (sym at) ∙ asks;
  interrupts = ap (λ x. x.base.interrupts_on) (sym at) ∙ stays.interrupts_on;
  console = ap (λ x. x.console_enabled) (sym at) ∙ stays.console_enabled;
})

-- ## Steps after steps

pub after-sum : (a b : ℕ) (s : State8e) → after b (after a s) ≡ after (a + b) s
unfolding after_keys
after-sum a zero s =
    let none : a ≡ a + 0 = omega arith in ap (λ k. after k s) none
after-sum a (suc b) s =
    let one : suc (a + b) ≡ a + suc b = omega arith in
    ap (λ x. (printing_step x).0) (after-sum a b s) ∙ ap (λ k. after k s) one

pub after-more : (a b : ℕ) (s old new : State8e) → old ≡ after a s → new ≡ after b old → new ≡ after (a + b) s
after-more a b s old new at state = state ∙ (ap (λ x. after b x) at ∙ after-sum a b s)

later-unasked : (looks : Bool) (a m : ℕ) (s old : State8e) → old ≡ after a s → Stays s old → IsUnasked looks old m → IsUnasked looks s (a + m)
later-unasked looks a m s old at stays unasked =
    let same : after (a + m) s ≡ after m old = sym (after-sum a m s) ∙ ap (λ x. after m x) (sym at) in
    record {
      answer = ap (λ x. (printing_step x).1) same ∙ unasked.answer;
      word = ap (λ x. is_quick (next_word x)) same ∙ unasked.word;
      asks = ap (λ x. may_ask looks x) same ∙ unasked.asks;
      interrupts = ap (λ x. x.base.interrupts_on) same ∙ (unasked.interrupts ∙ stays.interrupts_on);
      console = ap (λ x. x.console_enabled) same ∙ (unasked.console ∙ stays.console_enabled);
    }

lower : (m a : ℕ) → nat_lt m a ≡ true → m < a
lower m a h = grind (arith, nat_tests)

not_lower : (m a b : ℕ) → nat_lt m a ≡ false → m < a + b → m - a < b
not_lower m a b h below = grind (arith, nat_tests)

apart_again : (m a : ℕ) → nat_lt m a ≡ false → a + (m - a) ≡ m
apart_again m a h = grind (arith, nat_tests)

pub unasked-more : (looks : Bool) (a b : ℕ) (s old : State8e) → old ≡ after a s → Stays s old → AreUnasked looks s a → AreUnasked looks old b
    → AreUnasked looks s (a + b)
unasked-more looks a b s old at stays first second m below = either (nat_lt m a)
    (λ early. first m (lower m a early))
    (λ late. subst (λ k. IsUnasked looks s k) (apart_again m a late)
    (later-unasked looks a (m - a) s old at stays (second (m - a) (not_lower m a b late below))))

-- ## Steps that are left, where a loop counts down

pub none-made : (n : ℕ) → 0 ≡ n - n
none-made n = omega arith

-- so many are made where fewer are left than were
pub more-made : (n left fewer : ℕ) → fewer ≤ left → left ≤ n → n - left + (left - fewer) ≡ n - fewer
more-made n left fewer less fits = omega (arith, less, fits)

-- one step fewer is left when one more is made
pub one-more : (n left : ℕ) → 0 < left → left ≤ n → n - left + 1 ≡ n - (left - 1)
one-more n left some fits = omega (arith, some, fits)
