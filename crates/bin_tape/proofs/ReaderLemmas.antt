-- What a reader knows after one more frame.
use Rattle.std.proofs.Common.{◌≡◌, ◌≢◌, ℕ, ◌%◌, inr, Result, Ok, Err, ◌∙◌, ap, refl, sym, subst, append_assoc, append-nil, zero-add, List, [], ◌∷◌, ◌++◌}
use Rattle.bin_tape.specs.Frames.{heeded_frames, frames_after, ignore_count}
use Rattle.bin_tape.specs.Items.{Item, Leader, Field, Origin, frames_of_items, words_but_last}
use Rattle.bin_tape.specs.Items as item
use Rattle.bin_tape.specs.Tape.{IsTape}
use Rattle.bin_tape.specs.Fault.{RefusesFrame, IsRefused, IsFault, place_after}
use Rattle.bin_tape.specs.Prefix.{ReadsItems, KeepsFrames}
use Rattle.bin_tape.specs.PrefixSteps.{EndsTape}
use Rattle.bin_tape.specs.Progress.{Progress}
use Rattle.bin_tape.specs.Reading.{StateIs, IsGoing, IsWhole, Counts, HasRead, Answers, words_in}
use Rattle.bin_tape.specs.ReadSteps.{AnswersFrame}
use Rattle.bin_tape.specs.declared.faults.TapeFault.{TapeFault}
use Rattle.bin_tape.specs.declared.faults.TapeFault.TheVariants.{BadFrame, NoOrigin, CheckSum, NoTrailer, Memory}
use Rattle.bin_tape.specs.declared.prefixes.Prefix.{Prefix}
use Rattle.bin_tape.specs.declared.readers.State.{State}
use Rattle.bin_tape.specs.declared.readers.State.TheVariants.{Reading, Ended, Failed}
use Rattle.bin_tape.specs.declared.readers.Tape.{Tape}
use Rattle.bin_tape.specs.declared.readers.Tape.TheVariants.{Nothing, Word, End}
use Rattle.bin_tape.proofs.FrameLemmas.{heeded_after-append}

-- a refused frame is the fault
pub fault_of : (frames : List ℕ) (fault : TapeFault) → RefusesFrame frames fault → IsFault frames fault
fault_of frames (BadFrame at) r = r
fault_of frames NoOrigin r = r
fault_of frames (CheckSum found computed) r = r
fault_of frames NoTrailer r = absurd r.refused
fault_of frames Memory r = absurd r.refused

-- more frames after a tape mean nothing
pub longer : (frames more : List ℕ) (items : List Item) → IsTape frames items → IsTape (frames ++ more) items
longer frames more items t = record {
  high = t.high;
  low = t.low;
  rest = t.rest ++ frames_after (ignore_count frames) more;
  kept_frames =
      heeded_after-append 0 frames more
      ∙ ap (λ n. heeded_frames frames ++ frames_after n more) (zero-add (ignore_count frames))
      ∙ ap (λ l. l ++ frames_after (ignore_count frames) more) t.kept_frames
      ∙ simp append_assoc;
  is_prefix = t.is_prefix;
  sum = t.sum;
}

-- what a prefix keeps may go on as a tape
pub going : (prefix : Prefix) (frames : List ℕ) (out : List (ℕ × ℕ)) → KeepsFrames prefix (heeded_frames frames) out → IsGoing frames out
going prefix frames out k = record {
  items = k.items;
  part = k.part;
  is_open = record { frames = k.frames; is_prefix = k.reads.is_prefix; begun = k.reads.begun };
  words = k.words;
}

-- the trailer after the check sum makes the frames a tape
pub whole : (frames : List ℕ) (out : List (ℕ × ℕ)) (frame : ℕ) (items : List Item) (part : List ℕ) (prefix : Prefix)
    → heeded_frames frames ≡ frames_of_items items ++ part → heeded_frames (frames ++ frame ∷ []) ≡ heeded_frames frames ++ frame ∷ []
    → out ≡ words_but_last items → ReadsItems prefix items part → EndsTape items part frame → IsWhole (frames ++ frame ∷ []) out
whole frames out frame [] part prefix here more words r ends = absurd ends
whole frames out frame (Leader f ∷ older) part prefix here more words r ends = absurd ends
whole frames out frame (Field n ∷ older) part prefix here more words r ends = absurd ends
whole frames out frame (Origin high low ∷ older) part prefix here more words r ends = absurd ends
whole frames out frame (item.Word high low ∷ older) part prefix here more words r ends = record {
  items = older;
  is_tape = record {
    high = high;
    low = low;
    rest = [];
    kept_frames = more ∙ ap (λ l. l ++ frame ∷ []) here ∙ rw (ends.0, ends.1) (simp (append_assoc, append-nil));
    is_prefix = r.is_prefix;
    sum = ends.2;
  };
  words = words;
}

-- a refused frame, at its place
pub refused_here : (frames rest : List ℕ) (frame : ℕ) (items : List Item) (part : List ℕ) (prefix : Prefix) (fault : TapeFault)
    → heeded_frames frames ≡ frames_of_items items ++ part → ReadsItems prefix items part → frame ≢ 255 → ignore_count frames % 2 ≡ 0
    → IsRefused items part frame (place_after frames) fault → RefusesFrame (frames ++ frame ∷ rest) fault
refused_here frames rest frame items part prefix fault here r other even refused = record {
  before = frames;
  frame = frame;
  after = rest;
  items = items;
  part = part;
  split = refl;
  not_ignore = other;
  not_ignored = even;
  is_open = record { frames = here; is_prefix = r.is_prefix; begun = r.begun };
  refused = refused;
}

-- the prefix after one more heeded frame
pub prefix_more : (frames : List ℕ) (out : List (ℕ × ℕ)) (frame : ℕ) (items : List Item) (part : List ℕ) (handed : List (ℕ × ℕ)) (prefix : Prefix)
    → heeded_frames frames ≡ frames_of_items items ++ part → heeded_frames (frames ++ frame ∷ []) ≡ heeded_frames frames ++ frame ∷ [] → out ≡ words_but_last items
    → KeepsFrames prefix (frames_of_items items ++ part ++ frame ∷ []) (words_but_last items ++ handed)
    → KeepsFrames prefix (heeded_frames (frames ++ frame ∷ [])) (out ++ handed)
prefix_more frames out frame items part handed prefix here more words k =
    rw (more, here, words) k

pub state_more : (frames : List ℕ) (out : List (ℕ × ℕ)) (frame : ℕ) (items : List Item) (part : List ℕ) (prefix : Prefix)
    (result : Result Tape TapeFault) (state : State)
    → heeded_frames frames ≡ frames_of_items items ++ part → heeded_frames (frames ++ frame ∷ []) ≡ heeded_frames frames ++ frame ∷ [] → out ≡ words_but_last items
    → ReadsItems prefix items part → frame ≢ 255 → ignore_count frames % 2 ≡ 0
    → AnswersFrame items part frame (place_after frames) result state
    → StateIs state (frames ++ frame ∷ []) (out ++ words_in result) × Answers frames out frame result
state_more frames out frame items part prefix (Ok Nothing) (Reading later) here more words r other even k =
    let keeps : KeepsFrames later (heeded_frames (frames ++ frame ∷ [])) (out ++ []) =
    prefix_more frames out frame items part [] later here more words (rw append-nil k)
    in (keeps, inr (going later (frames ++ frame ∷ []) out (rw append-nil at keeps)))
state_more frames out frame items part prefix (Ok Nothing) Ended here more words r other even k = absurd k
state_more frames out frame items part prefix (Ok Nothing) (Failed fault) here more words r other even k = absurd k
state_more frames out frame items part prefix (Ok (Word cell word)) (Reading later) here more words r other even k =
    let keeps : KeepsFrames later (heeded_frames (frames ++ frame ∷ [])) (out ++ (cell, word) ∷ []) =
    prefix_more frames out frame items part ((cell, word) ∷ []) later here more words k
    in (keeps, going later (frames ++ frame ∷ []) (out ++ (cell, word) ∷ []) keeps)
state_more frames out frame items part prefix (Ok (Word cell word)) Ended here more words r other even k = absurd k
state_more frames out frame items part prefix (Ok (Word cell word)) (Failed fault) here more words r other even k = absurd k
state_more frames out frame items part prefix (Ok End) state here more words r other even k =
    let is_whole : IsWhole (frames ++ frame ∷ []) out = whole frames out frame items part prefix here more words r k.1
    in (
      subst (λ (s : State). StateIs s (frames ++ frame ∷ []) (out ++ [])) (sym k.0) (rw append-nil is_whole),
      (record { items = items; part = part; is_open = record { frames = here; is_prefix = r.is_prefix; begun = r.begun }; words = words }, is_whole),
    )
state_more frames out frame items part prefix (Err fault) state here more words r other even k = (
  subst (λ (s : State). StateIs s (frames ++ frame ∷ []) (out ++ [])) (sym k.0) (refused_here frames [] frame items part prefix fault here r other even k.1),
  (λ rest. refused_here frames rest frame items part prefix fault here r other even k.1),
)

-- a reader that was reading, after one more heeded frame
pub read_on : (old counted new : Progress) (prefix : Prefix) (frame place : ℕ) (result : Result Tape TapeFault) (frames : List ℕ) (out : List (ℕ × ℕ))
    → old.state ≡ Reading prefix → place ≡ old.place → new ≡ record counted { state = new.state }
    → frame ≢ 255 → ignore_count frames % 2 ≡ 0 → heeded_frames (frames ++ frame ∷ []) ≡ heeded_frames frames ++ frame ∷ []
    → Counts counted.place counted.ignoring (frames ++ frame ∷ [])
    → ((items : List Item) (part : List ℕ) → ReadsItems prefix items part → AnswersFrame items part frame place result new.state)
    → HasRead old frames out
    → HasRead new (frames ++ frame ∷ []) (out ++ words_in result) × Answers frames out frame result
read_on old counted new prefix frame place result frames out reading here same other even more counts comes read =
    let keeps : KeepsFrames prefix (heeded_frames frames) out = subst (λ (s : State). StateIs s frames out) reading read.state in
    let came : AnswersFrame keeps.items keeps.part frame (place_after frames) result new.state =
    subst (λ (p : ℕ). AnswersFrame keeps.items keeps.part frame p result new.state) (here ∙ read.counts.place_is) (comes keeps.items keeps.part keeps.reads) in
    let both : StateIs new.state (frames ++ frame ∷ []) (out ++ words_in result) × Answers frames out frame result =
    state_more frames out frame keeps.items keeps.part prefix result new.state keeps.frames more keeps.words keeps.reads other even came
    in (
      record {
        counts = subst (λ (p : Progress). Counts p.place p.ignoring (frames ++ frame ∷ [])) (sym same) counts;
        state = both.0;
      },
      both.1,
    )
