-- An image file that is only looked at.
use Rattle.std.proofs.Common.{◌≡◌, ◌∙◌, ℕ, Bool, true, false, Option, Ok, List, [], ◌∷◌, refl, sym, ap, subst, inl, inr}
use Rattle.std.specs.Global.{Vec}
use Rattle.hosts.specs.Event.{Event, look_call}
use Rattle.hosts.specs.Streams.{errors, output}
use Rattle.disk_layouts.specs.declared.layouts.Layout.{Layout}
use Rattle.image_kind.specs.Keeping.{two_readings}
use Rattle.image_kind.specs.Margins.{body_of}
use Rattle.image_kind.specs.Volumes.{volumes_in}
use Rattle.image_kind.specs.declared.volumes.Volumes.{Volumes}
use Rattle.image_kind.specs.declared.volumes.Volumes.TheVariants.{One, Both}
use Rattle.image_kind.specs.Lines.{mended_lines}
use Rattle.program_tasks.specs.declared.forms.ImageForm.{ImageForm}
use Rattle.image_files.specs.Judging.{Judges}
use Rattle.image_files.specs.Mending.{Mends, TellsLines}
use Rattle.image_files.specs.Reading.{FindsIn, FindsOne, IsJudged, JudgesLooked, Looks, LooksAt, LooksIf, LooksImage, reading_of}
use Rattle.image_files.specs.Work.{Purely}
use Rattle.image_files.specs.declared.mending.ImageReading.{ImageReading}
use Rattle.keeper_laws.specs.Changed.{warnings}
use Rattle.keeper_laws.proofs.OpenLemmas.{IsQuiet, after-note, equal, judged, quiet-then, still}
use Rattle.keeper_laws.proofs.RefuseLemmas.{OnlyRefuses, ends-so, judges-by, judges-silent, looks-refuses, no-volume, then-refuses}

-- ## The other image file

-- one call read it, and nothing was written
pub record IsSeen (name : List ℕ) (old new : List Event) : Type 0 where
  pub bytes : List ℕ
  pub quiet : IsQuiet (look_call name bytes ∷ []) old new

seen-then : (name : List ℕ) (old mid new : List Event) → IsSeen name old mid → IsQuiet [] mid new → IsSeen name old new
seen-then name old mid new s quiet = record { bytes = s.bytes; quiet = quiet-then (look_call name s.bytes ∷ []) [] old mid new s.quiet quiet }

seen : (name : List ℕ) (old : List Event) (file : Vec ℕ) (new : List Event) → Looks name name old (Ok file) new → IsSeen name old new
seen name old file new p = record {
  bytes = file.items;
  quiet = subst (λ (n : List Event). IsQuiet (look_call name file.items ∷ []) old n) (sym p.1) (record { files = λ path. refl; prints = refl; warns = equal (warnings (errors old)); reads = refl });
}

mended-quiet : (lines : List ℕ) (old new : List Event) → TellsLines lines old new → IsQuiet [] old new
mended-quiet [] old new p = still old new p
mended-quiet (c ∷ lines) old new p = after-note p.0 (c ∷ lines) old new p.1

seen-if : (is_lenient : Bool) (given : Option Layout) (is_plain : Bool) (name : List ℕ) (old : List Event) (file : Vec ℕ) (new : List Event) → LooksIf is_lenient given is_plain name old (Ok file) new → IsSeen name old new
seen-if true given is_plain name old file new (inl ends) = absurd ends
seen-if true given is_plain name old file new (inr two) =
    seen-then name old two.between new (seen name old two.given two.between two.done) (mended-quiet (mended_lines name two.after.0) two.between new two.after.3)
seen-if false given is_plain name old file new p = seen name old file new p

judged-still : (reading : ImageReading) (name : List ℕ) (file : Vec ℕ) (old : List Event) (it : Vec ℕ) (new : List Event) → JudgesLooked reading name file old (Ok it) new → new ≡ old
judged-still reading name file old it new (inl ends) = absurd ends
judged-still reading name file old it new (inr two) = two.after.1 ∙ judged name (two_readings reading.layout reading.is_plain file.items) old two.given two.between two.done

pub seen-image : (reading : ImageReading) (name : List ℕ) (old : List Event) (file : Vec ℕ) (new : List Event) → LooksImage reading name old (Ok file) new → IsSeen name old new
seen-image reading name old file new (inl ends) = absurd ends
seen-image reading name old file new (inr two) =
    seen-then name old two.between new (seen-if reading.is_lenient reading.layout reading.is_plain name old two.given two.between two.done)
    (still two.between new (judged-still reading name two.given two.between file new two.after))

pub found-still : (volumes : Volumes) (body : List ℕ) (old : List Event) (found : Vec ℕ) (new : List Event) → FindsIn volumes body old (Ok found) new → new ≡ old
found-still (One layout) body old found new p = p.1
found-still Both body old found new p = absurd p

pub seen-at : (form : ImageForm) (old : List Event) (found : Vec ℕ) (new : List Event) → LooksAt form old (Ok found) new → IsSeen form.file.bytes.items old new
seen-at form old found new (inl ends) = absurd ends
seen-at form old found new (inr two) =
    seen-then form.file.bytes.items old two.between new (seen-image (reading_of form) form.file.bytes.items old two.given two.between two.done)
    (still two.between new (found-still (volumes_in form.layout form.is_plain two.given.items) (body_of form.layout form.is_plain two.given.items) two.between found new two.after))

-- ## Why it is refused

mends-refuses : (given : Option Layout) (is_plain : Bool) (name file : List ℕ) → OnlyRefuses (Mends given is_plain name file)
mends-refuses given is_plain name file old ending new p = (ends-so ending _ p.0 refl, ap output p.1)

looks-if-refuses : (is_lenient : Bool) (given : Option Layout) (is_plain : Bool) (name : List ℕ) → OnlyRefuses (LooksIf is_lenient given is_plain name)
looks-if-refuses true given is_plain name = then-refuses (Looks name name) (λ file. Mends given is_plain name file.items) (looks-refuses name name) (λ old file new p. ap output p.1)
    (λ file. mends-refuses given is_plain name file.items)
looks-if-refuses false given is_plain name = looks-refuses name name

is-judged : (file : Vec ℕ) → OnlyRefuses (Purely (IsJudged file))
is-judged file old ending new p = absurd p.0

pub image-refuses : (reading : ImageReading) (name : List ℕ) → OnlyRefuses (LooksImage reading name)
image-refuses reading name = then-refuses (LooksIf reading.is_lenient reading.layout reading.is_plain name) (λ file. JudgesLooked reading name file)
    (looks-if-refuses reading.is_lenient reading.layout reading.is_plain name) (λ old file new p. (seen-if reading.is_lenient reading.layout reading.is_plain name old file new p).quiet.prints)
    (λ file. then-refuses (Judges name reading.layout reading.is_plain file.items) (λ it. Purely (IsJudged file))
    (judges-by name (two_readings reading.layout reading.is_plain file.items)) (judges-silent name (two_readings reading.layout reading.is_plain file.items)) (λ it. is-judged file))

finds-refuses : (volumes : Volumes) (body : List ℕ) → OnlyRefuses (FindsIn volumes body)
finds-refuses (One layout) body old ending new p = (no-volume layout body ending p.0, ap output p.1)
finds-refuses Both body old ending new (is, ok, p) = (ends-so ending _ is refl, ap output p)

pub at-refuses : (form : ImageForm) → OnlyRefuses (LooksAt form)
at-refuses form = then-refuses (LooksImage (reading_of form) form.file.bytes.items) (λ file. FindsOne form.layout form.is_plain file.items)
    (image-refuses (reading_of form) form.file.bytes.items) (λ old file new p. (seen-image (reading_of form) form.file.bytes.items old file new p).quiet.prints)
    (λ file. finds-refuses (volumes_in form.layout form.is_plain file.items) (body_of form.layout form.is_plain file.items))
