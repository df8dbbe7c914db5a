-- What a loader was given.
use Rattle.std.proofs.Common.{◌≡◌, ℕ, inl, inr, Some, Ok, Err, append_assoc, refl, subst, sym, ◌∙◌, List, [], ◌∷◌, ◌++◌}
use Rattle.bin_tape.specs.Items.{Item}
use Rattle.bin_tape.specs.Tape.{IsTape}
use Rattle.bin_tape.specs.Handed.{word_in}
use Rattle.bin_tape.specs.Reading.{Answers, IsGoing}
use Rattle.bin_tape.specs.declared.readers.Tape.{Tape}
use Rattle.bin_tape.specs.declared.readers.Tape.TheVariants.{Nothing, Word, End}
use Rattle.bin_tape.specs.Fault.{RefusesFrame}
use Rattle.bin_tape.specs.declared.faults.TapeFault.{TapeFault}
use Rattle.bin_tape.specs.declared.faults.TapeFault.TheVariants.{BadFrame, NoOrigin, CheckSum, NoTrailer, Memory}
use Rattle.core_load.specs.Loading.{Loading}
use Rattle.core_load.specs.Load.{IsFed, IsFine, FeedsFrames, LoadsTape}

-- frames that are answered no fault are a tape, or may go on as one
pub fine : ((frames more : List ℕ) (items : List Item) → IsTape frames items → IsTape (frames ++ more) items)
    → (frames : List ℕ) (out : List (ℕ × ℕ)) (frame : ℕ) (tape : Tape) → Answers frames out frame (Ok tape) → IsFine (frames ++ frame ∷ [])
fine longer frames out frame Nothing answer = elim answer [
  | inl w ↦ inl (w.items, longer frames (frame ∷ []) w.items w.is_tape)
  | inr g ↦ inr (g.items, g.part, g.is_open)
]
fine longer frames out frame (Word cell word) answer = inr (answer.items, answer.part, answer.is_open)
fine longer frames out frame End answer = inl (answer.1.items, answer.1.is_tape)

-- a frame that brings a word leaves frames that may go on as a tape, with that word handed out
pub handed : (frames : List ℕ) (out : List (ℕ × ℕ)) (frame : ℕ) (tape : Tape) (word : ℕ × ℕ) → Answers frames out frame (Ok tape)
    → word_in tape ≡ Some word → IsGoing (frames ++ frame ∷ []) (out ++ word ∷ [])
handed frames out frame Nothing word answer brings = cc
handed frames out frame (Word cell number) word answer brings =
    let same : (cell, number) ≡ word = cc
    in subst (λ (w : ℕ × ℕ). IsGoing (frames ++ frame ∷ []) (out ++ w ∷ [])) same answer
handed frames out frame End word answer brings = cc

-- a refused frame is told, whatever follows
pub told : (old new : Loading) (frames : List ℕ) (frame : ℕ) (fault : TapeFault) → IsFed new (frames ++ frame ∷ [])
    → ((rest : List ℕ) → RefusesFrame (frames ++ frame ∷ rest) fault) → FeedsFrames frames (frame ∷ []) old new (Err fault)
told old new frames frame (BadFrame at) fed refused = (fed, λ rest. rw append_assoc (refused rest))
told old new frames frame NoOrigin fed refused = (fed, λ rest. rw append_assoc (refused rest))
told old new frames frame (CheckSum found computed) fed refused = (fed, λ rest. rw append_assoc (refused rest))
told old new frames frame NoTrailer fed refused = absurd (refused []).refused
told old new frames frame Memory fed refused = absurd (refused []).refused

-- a frame that was refused while loading
pub load_refused : (frames before rest : List ℕ) (frame : ℕ) (core : List ℕ) (old new : Loading) (fault : TapeFault)
    → frames ≡ before ++ frame ∷ rest → FeedsFrames before (frame ∷ []) old new (Err fault) → LoadsTape frames core core (Err fault)
load_refused frames before rest frame core old new (BadFrame at) split fed = (rw split (rw append_assoc at (fed.1 rest)), refl)
load_refused frames before rest frame core old new NoOrigin split fed = (rw split (rw append_assoc at (fed.1 rest)), refl)
load_refused frames before rest frame core old new (CheckSum found computed) split fed = (rw split (rw append_assoc at (fed.1 rest)), refl)
load_refused frames before rest frame core old new NoTrailer split fed = absurd fed
load_refused frames before rest frame core old new Memory split fed = ((before ++ frame ∷ [], rest, old.words, split ∙ sym (append_assoc before (frame ∷ []) rest), fed.0), refl)
