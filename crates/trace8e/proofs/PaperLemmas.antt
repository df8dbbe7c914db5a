-- What the steps of a run write on paper.
use Rattle.std.proofs.Common.{◌≡◌, ℕ, zero, suc, ◌+◌, Bool, true, false, true≢false, nat_le, if◌then◌else◌, Option, Some, None, option_to_list, List, [], ◌∷◌, ◌++◌, length, append-nil, append_assoc, add-one, refl, ap, sym, subst, ◌∙◌}
use Rattle.rk8e.specs.declared.moves.Moved.{Moved}
use Rattle.pdp8e.specs.Papers.{PaperState, PapersState, with_byte_if, with_line_if, with_text, papers_after}
use Rattle.pdp8e.specs.State.{Pdp8e}
use Rattle.pdp8e.specs.Terminal.{Terminal, later, next, after_step, move_at}
use Rattle.pdp8e.specs.Transfers.{moved_text, transfer_line}
use Rattle.trace8e.proofs.RunLemmas.{later-next, later-none}
use Rattle.trace8e.specs.Papers.{GetsBytes, GetSteps, GetSome, frame_in, character_in, frames_of, characters_of, transfers_of}

frames-none : (t : Terminal) → frames_of 0 t ≡ []
unfolding frames_of
frames-none t = refl

characters-none : (t : Terminal) → characters_of 0 t ≡ []
unfolding characters_of
characters-none t = refl

frames-next : (k : ℕ) (t : Terminal) → frames_of (k + 1) t ≡ frames_of k t ++ frame_in (after_step (later k t)).0
unfolding frames_of
frames-next k t = rw add-one refl

characters-next : (k : ℕ) (t : Terminal) → characters_of (k + 1) t ≡ characters_of k t ++ character_in (after_step (later k t)).0
unfolding characters_of
characters-next k t = rw add-one refl

transfers-none : (t : Terminal) → transfers_of 0 t ≡ []
unfolding transfers_of
transfers-none t = refl

transfers-next : (k : ℕ) (t : Terminal) → transfers_of (k + 1) t ≡ transfers_of k t ++ moved_text (move_at (later k t))
unfolding transfers_of
transfers-next k t = rw add-one refl

nothing : (kept : Bool) (bytes : List ℕ) → bytes ≡ bytes ++ (if kept then [] else [])
nothing true bytes = sym (append-nil bytes)
nothing false bytes = sym (append-nil bytes)

gets-none : (p : PaperState) (bytes : List ℕ) → bytes ≡ [] → GetsBytes p p bytes
gets-none p bytes none =
    subst (λ (l : List ℕ). GetsBytes p p l) (sym none) (record { kept = refl; sooner = λ whole. whole; all = λ whole. nothing p.kept p.bytes })

both : (kept : Bool) (own a b : List ℕ) → (own ++ (if kept then a else [])) ++ (if kept then b else []) ≡ own ++ (if kept then a ++ b else [])
both true own a b = append_assoc own a b
both false own a b = append-nil (own ++ [])

gets-more : (p p' p'' : PaperState) (a b c : List ℕ) → GetsBytes p p' a → GetsBytes p' p'' b → c ≡ a ++ b → GetsBytes p p'' c
gets-more p p' p'' a b c first second is =
    subst (λ (l : List ℕ). GetsBytes p p'' l) (sym is) (record {
      kept = second.kept ∙ first.kept;
      sooner = λ whole. first.sooner (second.sooner whole);
      all = λ whole.
          second.all whole
          ∙ ap (λ (k : Bool). p'.bytes ++ (if k then b else [])) first.kept
          ∙ ap (λ (l : List ℕ). l ++ (if p.kept then b else [])) (first.all (second.sooner whole))
          ∙ both p.kept p.bytes a b;
    })

-- ## One step

gets-if-room : (room : Bool) (bytes : List ℕ) (whole : Bool) (text : List ℕ) → let p : PaperState = record { kept = true; bytes = bytes; whole = whole } in
    GetsBytes p (if room then record p { bytes = bytes ++ text } else record p { whole = false }) text
gets-if-room true bytes whole text = record { kept = refl; sooner = λ is. is; all = λ is. refl }
gets-if-room false bytes whole text = record { kept = refl; sooner = λ is. absurd (true≢false (sym is)); all = λ is. absurd (true≢false (sym is)) }

gets-if-kept : (kept : Bool) (bytes : List ℕ) (whole : Bool) (text : List ℕ) → let p : PaperState = record { kept = kept; bytes = bytes; whole = whole } in
    GetsBytes p (with_text text p) text
gets-if-kept true bytes whole text = gets-if-room (nat_le (length bytes + length text) 16777216) bytes whole text
gets-if-kept false bytes whole text = record { kept = refl; sooner = λ is. is; all = λ is. nothing false bytes }

gets-text : (text : List ℕ) (p : PaperState) → GetsBytes p (with_text text p) text
gets-text text p = gets-if-kept p.kept p.bytes p.whole text

gets-byte : (byte : Option ℕ) (p : PaperState) → GetsBytes p (with_byte_if byte p) (option_to_list byte)
gets-byte None p = gets-none p [] refl
gets-byte (Some byte) p = gets-text (byte ∷ []) p

gets-line : (moved : Option Moved) (p : PaperState) → GetsBytes p (with_line_if moved p) (moved_text moved)
gets-line None p = gets-none p [] refl
gets-line (Some moved) p = gets-text (transfer_line moved) p

-- ## Runs

pub no-steps : (t : Terminal) (p : PapersState) → GetSteps 0 t p p
no-steps t p = record {
  punch = gets-none p.punch (frames_of 0 t) (frames-none t);
  printer = gets-none p.printer (characters_of 0 t) (characters-none t);
  transfers = gets-none p.transfers (transfers_of 0 t) (transfers-none t);
}

pub more-steps : (t t' t'' : Terminal) (m : Pdp8e) (p p' p'' : PapersState) (made : ℕ) → GetSteps made t p p' → t' ≡ later made t → t'' ≡ next t' → m ≡ t''.machine
    → p'' ≡ papers_after (move_at t') m p' → GetSteps (made + 1) t p p''
more-steps t t' t'' m p p' p'' made before at step left last =
    let after : m ≡ (after_step (later made t)).0 =
    left ∙ ap (λ (x : Terminal). x.machine) step ∙ ap (λ (x : Terminal). (after_step x).0) at in
    let punch : GetsBytes p'.punch p''.punch (frame_in m) =
    subst (λ (x : PapersState). GetsBytes p'.punch x.punch (frame_in m)) (sym last) (gets-byte m.devices.punch.writing p'.punch) in
    let printer : GetsBytes p'.printer p''.printer (character_in m) =
    subst (λ (x : PapersState). GetsBytes p'.printer x.printer (character_in m)) (sym last) (gets-byte m.devices.printer.writing p'.printer) in
    let transfers : GetsBytes p'.transfers p''.transfers (moved_text (move_at t')) =
    subst (λ (x : PapersState). GetsBytes p'.transfers x.transfers (moved_text (move_at t'))) (sym last) (gets-line (move_at t') p'.transfers) in
    record {
      punch = gets-more p.punch p'.punch p''.punch (frames_of made t) (frame_in m) (frames_of (made + 1) t) before.punch punch
          (frames-next made t ∙ ap (λ (x : Pdp8e). frames_of made t ++ frame_in x) (sym after));
      printer = gets-more p.printer p'.printer p''.printer (characters_of made t) (character_in m) (characters_of (made + 1) t) before.printer printer
          (characters-next made t ∙ ap (λ (x : Pdp8e). characters_of made t ++ character_in x) (sym after));
      transfers = gets-more p.transfers p'.transfers p''.transfers (transfers_of made t) (moved_text (move_at t')) (transfers_of (made + 1) t) before.transfers transfers
          (transfers-next made t ∙ ap (λ (x : Terminal). transfers_of made t ++ moved_text (move_at x)) (sym at));
    }

-- the terminal stands after these steps
pub some-steps : (t t' : Terminal) (p p' : PapersState) (steps : ℕ) → t' ≡ later steps t → GetSteps steps t p p' → GetSome t t' p p'
some-steps t t' p p' steps at are = record { steps = steps; terminal = at; papers = are }

pub some-none : (t : Terminal) (p : PapersState) → GetSome t t p p
some-none t p = some-steps t t p p 0 (sym (later-none t)) (no-steps t p)

pub some-more : (t t' t'' : Terminal) (m : Pdp8e) (p p' p'' : PapersState) (made : ℕ) → GetSteps made t p p' → t' ≡ later made t → t'' ≡ next t' → m ≡ t''.machine
    → p'' ≡ papers_after (move_at t') m p' → GetSome t t'' p p''
some-more t t' t'' m p p' p'' made before at step left last =
    some-steps t t'' p p'' (made + 1) (step ∙ ap (λ (x : Terminal). next x) at ∙ sym (later-next made t)) (more-steps t t' t'' m p p' p'' made before at step left last)

pub all-steps : (t : Terminal) (p p' : PapersState) (made n : ℕ) → made ≡ n → GetSteps made t p p' → GetSteps n t p p'
all-steps t p p' made n is are = subst (λ (k : ℕ). GetSteps k t p p') is are
