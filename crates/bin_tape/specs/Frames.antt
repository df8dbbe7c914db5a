-- Which frames of a BIN tape count.
use Rattle.std.specs.Prelude.{ℕ, ◌+◌, ◌%◌, nat_eq, if◌then◌else◌, List, [], ◌∷◌}

-- how many frames 0377 there are, each of which begins or ends a stretch that is ignored
abbrev pub ignore_count : List ℕ → ℕ
ignore_count [] = 0
ignore_count (f ∷ fs) = (if nat_eq f 0o377 then 1 else 0) + ignore_count fs

-- The heeded frames among those that come after so many frames 0377: a frame is heeded if it isn't 0377 itself and an
-- even number of 0377 stand before it.
abbrev pub frames_after : ℕ → List ℕ → List ℕ
frames_after n [] = []
frames_after n (f ∷ fs) =
    if nat_eq f 0o377 then frames_after (n + 1) fs
    else (if nat_eq (n % 2) 0 then f ∷ frames_after n fs else frames_after n fs)

-- the frames of a tape that aren't ignored
abbrev pub heeded_frames : List ℕ → List ℕ
heeded_frames frames = frames_after 0 frames
