-- The members of a snapshot as JSON.
use Rattle.std.proofs.Common.{◌≡◌, ℕ, Bool, true, false, List, [], ◌∷◌, ◌++◌, ◌/◌, append_assoc, refl, ap, sym, take, ◌∙◌}
use Rattle.word12.specs.Octal.{octal_digit, octal4}
use Rattle.cpu8.specs.State.{State}
use Rattle.json.specs.Print.{escape, escape_byte, quoted}
use Rattle.serde_json.specs.Data.{boolean, string, object, Members, put}
use Rattle.serde_json.specs.Written.{compact_text, members_text}
use Rattle.debug8.specs.Snapshot.{octal1, octal2, octal3, KeyValue, digits, truth, members, shown_text, member_text, later_text, object_text, snapshot}
use Rattle.debug8.specs.ValueSteps.{data_of, members_of}
use Rattle.debug8.proofs.Digits.{escape-digit}

-- nothing of it is escaped
abbrev pub IsPlain : List ℕ → Type 0
IsPlain bytes = escape bytes ≡ bytes

abbrev pub IsShownPlain : KeyValue → Type 0
IsShownPlain (digits ds) = IsPlain ds
IsShownPlain (truth b) = Unit {0}

abbrev pub ArePlain : List (List ℕ × KeyValue) → Type 0
ArePlain [] = Unit {0}
ArePlain (m ∷ ms) = IsPlain m.0 × IsShownPlain m.1 × ArePlain ms

shown-text : (v : KeyValue) → IsShownPlain v → compact_text (data_of v) ≡ shown_text v
shown-text (digits ds) h = ap (λ bytes. 34 ∷ (bytes ++ 34 ∷ [])) h
shown-text (truth true) h = refl
shown-text (truth false) h = refl

-- a member, before what follows it
member-text : (key : List ℕ) (v : KeyValue) (rest : List ℕ) → IsPlain key → IsShownPlain v
    → quoted key ++ 58 ∷ (compact_text (data_of v) ++ rest) ≡ member_text (key, v) ++ rest
member-text key v rest k h =
    ap (λ bytes. (34 ∷ (bytes ++ 34 ∷ [])) ++ 58 ∷ (compact_text (data_of v) ++ rest)) k
    ∙ (ap (λ bytes. (34 ∷ (key ++ 34 ∷ [])) ++ 58 ∷ (bytes ++ rest)) (shown-text v h)
    ∙ (ap (λ bytes. 34 ∷ bytes) (append_assoc key (34 ∷ []) (58 ∷ (shown_text v ++ rest))
    ∙ sym (append_assoc key (34 ∷ 58 ∷ shown_text v) rest))))

later-text : (ms : List (List ℕ × KeyValue)) → ArePlain ms → members_text true (members_of ms) ≡ later_text ms ++ 125 ∷ []
later-text [] h = refl
later-text (m ∷ ms) h =
    ap (λ bytes. 44 ∷ (quoted m.0 ++ 58 ∷ (compact_text (data_of m.1) ++ bytes))) (later-text ms h.2)
    ∙ (ap (λ bytes. 44 ∷ bytes) (member-text m.0 m.1 (later_text ms ++ 125 ∷ []) h.0 h.1
    ∙ sym (append_assoc (member_text m) (later_text ms) (125 ∷ []))))

pub object-text : (ms : List (List ℕ × KeyValue)) → ArePlain ms → compact_text (object (members_of ms)) ≡ object_text ms
object-text [] h = refl
object-text (m ∷ ms) h =
    ap (λ bytes. 123 ∷ (quoted m.0 ++ 58 ∷ (compact_text (data_of m.1) ++ bytes))) (later-text ms h.2)
    ∙ ap (λ bytes. 123 ∷ bytes) (member-text m.0 m.1 (later_text ms ++ 125 ∷ []) h.0 h.1)

-- ## Digits

plain-next : (n : ℕ) (bytes : List ℕ) → IsPlain bytes → IsPlain (octal_digit n ∷ bytes)
plain-next n bytes h = ap (λ xs. xs ++ escape bytes) (escape-digit n) ∙ ap (λ xs. octal_digit n ∷ xs) h

plain1 : (n : ℕ) → IsPlain (octal1 n)
plain1 n = plain-next n [] refl

plain2 : (n : ℕ) → IsPlain (octal2 n)
plain2 n = plain-next (n / 8) (octal1 n) (plain1 n)

plain3 : (n : ℕ) → IsPlain (octal3 n)
plain3 n = plain-next (n / 64) (octal2 n) (plain2 n)

plain4 : (n : ℕ) → IsPlain (octal4 n)
plain4 n = plain-next (n / 512) (octal3 n) (plain3 n)

pub plain-members : (s : State) → ArePlain (members s)
unfolding escape_byte
plain-members s = (
  refl,
  plain4 s.ac,
  (
    refl,
    tt,
    (
      refl,
      plain1 s.data_field,
      (
        refl,
        tt,
        (
          refl,
          plain1 s.instruction_buffer,
          (
            refl,
            plain1 s.instruction_field,
            (
              refl,
              tt,
              (
                refl,
                tt,
                (
                  refl,
                  plain3 s.teletype.buffer,
                  (
                    refl,
                    plain1 s.l,
                    (refl, plain4 s.pc, (refl, tt, (refl, tt, (refl, plain2 s.save_field, (refl, plain4 s.switches, (refl, tt, tt)))))),
                  ),
                ),
              ),
            ),
          ),
        ),
      ),
    ),
  ),
)

pub snapshot-text : (s : State) → compact_text (object (members_of (members s))) ≡ snapshot s
unfolding snapshot
snapshot-text s = object-text (members s) (plain-members s)

-- ## Members put one after the other

-- the first members
abbrev pub prefix : ℕ → State → Members
prefix k s = members_of (take k (members s))

pub put-digits : (key new_digits ds : List ℕ) (new old before : Members) → new ≡ put key (string new_digits) old
    → new_digits ≡ ds → old ≡ before → new ≡ put key (string ds) before
put-digits key new_digits ds new old before h e at =
    h ∙ (ap (λ d. put key (string d) old) e ∙ ap (λ ms. put key (string ds) ms) at)

pub put-truth : (key : List ℕ) (new_truth b : Bool) (new old before : Members) → new ≡ put key (boolean new_truth) old
    → new_truth ≡ b → old ≡ before → new ≡ put key (boolean b) before
put-truth key new_truth b new old before h e at =
    h ∙ (ap (λ d. put key (boolean d) old) e ∙ ap (λ ms. put key (boolean b) ms) at)
