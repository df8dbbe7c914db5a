-- What the opening of the files of reader, punch and line printer leaves as it was, and a save of papers that no file gets.
use Rattle.std.proofs.Common.{◌≡◌, ◌∙◌, ℕ, true, false, true≢false, is_some, Option, None, Some, String, Result, Ok, List, ap, inl, inr}
use Rattle.std.specs.Global.{Global, Vec}
use Rattle.hosts.specs.Event.{Event}
use Rattle.pdp8e.specs.Papers.{PaperState, PapersState}
use Rattle.program_tasks.specs.declared.devices.DeviceForm.{DeviceForm}
use Rattle.outcome.specs.declared.endings.Ending.{Ending}
use Rattle.image_files.specs.Laws.{KeepsFiles}
use Rattle.image_files.specs.Reading.{Looks}
use Rattle.image_files.specs.Work.{Then, Purely, IsJust}
use Rattle.image_files.proofs.KeepLemmas.{looks-keeps, purely-keeps, then-keeps}
use Rattle.drive_files.specs.Devices.{OpensDevices, OpensPaper, OpensPapers, ReadsTape, SavesPaper, SavesPapers, no_papers, open_devices, paper_places}
use Rattle.drive_files.specs.declared.devices.OpenDevices.{OpenDevices}
use Rattle.drive_files.specs.declared.devices.PaperPlace.{PaperPlace}
use Rattle.drive_files.specs.declared.devices.PaperPlaces.{PaperPlaces}

tape-keeps : (name : Option (String Global)) → KeepsFiles (ReadsTape name)
tape-keeps None = purely-keeps (IsJust None)
tape-keeps (Some name) = then-keeps (Looks name.bytes.items name.bytes.items) (λ frames. Purely (IsJust (Some frames))) (looks-keeps name.bytes.items name.bytes.items) (λ frames. purely-keeps (IsJust (Some frames)))

paper-keeps : (name : Option (String Global)) → is_some name ≡ false → KeepsFiles (OpensPaper name)
paper-keeps None is = purely-keeps (IsJust None)
paper-keeps (Some name) is = absurd (true≢false is)

-- no file is asked for
abbrev pub AreUnasked : DeviceForm → Type 0
AreUnasked asked = (is_some asked.punch ≡ false) × (is_some asked.printer ≡ false) × (is_some asked.transfers ≡ false)

papers-keep : (asked : DeviceForm) → AreUnasked asked → KeepsFiles (OpensPapers asked)
papers-keep asked none =
    then-keeps (OpensPaper asked.punch) (λ punch. Then (OpensPaper asked.printer) (λ printer. Then (OpensPaper asked.transfers) (λ transfers. Purely (IsJust (paper_places punch printer transfers))))) (paper-keeps asked.punch none.0)
    (λ punch. then-keeps (OpensPaper asked.printer) (λ printer. Then (OpensPaper asked.transfers) (λ transfers. Purely (IsJust (paper_places punch printer transfers)))) (paper-keeps asked.printer none.1)
    (λ printer. then-keeps (OpensPaper asked.transfers) (λ transfers. Purely (IsJust (paper_places punch printer transfers))) (paper-keeps asked.transfers none.2)
    (λ transfers. purely-keeps (IsJust (paper_places punch printer transfers)))))

pub devices-keep : (asked : DeviceForm) → AreUnasked asked → KeepsFiles (OpensDevices asked)
devices-keep asked none =
    then-keeps (ReadsTape asked.reader) (λ tape. Then (OpensPapers asked) (λ papers. Purely (IsJust (open_devices tape papers)))) (tape-keeps asked.reader)
    (λ tape. then-keeps (OpensPapers asked) (λ papers. Purely (IsJust (open_devices tape papers))) (papers-keep asked none)
    (λ papers. purely-keeps (IsJust (open_devices tape papers))))

-- no file is held for a paper
paper-none : (name : Option (String Global)) → is_some name ≡ false → (old : List Event) (place : Option PaperPlace) (new : List Event) → OpensPaper name old (Ok place) new → place ≡ None
paper-none None is old place new p = p.0
paper-none (Some name) is old place new p = absurd (true≢false is)

module _ (asked : DeviceForm) (none : AreUnasked asked) where
  after-printer : (punch printer : Option PaperPlace) (papers : PaperPlaces) (old new : List Event) → punch ≡ None → printer ≡ None
      → Then (OpensPaper asked.transfers) (λ transfers. Purely (IsJust (paper_places punch printer transfers))) old (Ok papers) new → papers ≡ no_papers
  after-printer punch printer papers old new is also (inl ends) = absurd ends
  after-printer punch printer papers old new is also (inr it) =
      it.after.0
      ∙ ap (λ (place : Option PaperPlace). paper_places place printer it.given) is
      ∙ ap (λ (place : Option PaperPlace). paper_places None place it.given) also
      ∙ ap (λ (place : Option PaperPlace). paper_places None None place) (paper-none asked.transfers none.2 old it.given it.between it.done)

  after-punch : (punch : Option PaperPlace) (papers : PaperPlaces) (old new : List Event) → punch ≡ None
      → Then (OpensPaper asked.printer) (λ printer. Then (OpensPaper asked.transfers) (λ transfers. Purely (IsJust (paper_places punch printer transfers)))) old (Ok papers) new → papers ≡ no_papers
  after-punch punch papers old new is (inl ends) = absurd ends
  after-punch punch papers old new is (inr it) = after-printer punch it.given papers it.between new is (paper-none asked.printer none.1 old it.given it.between it.done) it.after

  papers-none : (papers : PaperPlaces) (old new : List Event) → OpensPapers asked old (Ok papers) new → papers ≡ no_papers
  papers-none papers old new (inl ends) = absurd ends
  papers-none papers old new (inr it) = after-punch it.given papers it.between new (paper-none asked.punch none.0 old it.given it.between it.done) it.after

  after-tape : (devices : OpenDevices) (tape : Option (Vec ℕ)) (old new : List Event) → Then (OpensPapers asked) (λ papers. Purely (IsJust (open_devices tape papers))) old (Ok devices) new → devices.papers ≡ no_papers
  after-tape devices tape old new (inl ends) = absurd ends
  after-tape devices tape old new (inr it) = ap (λ (d : OpenDevices). d.papers) it.after.0 ∙ papers-none it.given old it.between it.done

  pub devices-none : (devices : OpenDevices) (old new : List Event) → OpensDevices asked old (Ok devices) new → devices.papers ≡ no_papers
  devices-none devices old new (inl ends) = absurd ends
  devices-none devices old new (inr it) = after-tape devices it.given it.between new it.after

-- ## Papers that no file gets

saves-no-paper : (paper : PaperState) (place : Option PaperPlace) → place ≡ None → (old : List Event) (result : Result (Unit {0}) Ending) (new : List Event) → SavesPaper paper place old result new → new ≡ old
saves-no-paper paper None none old result new p = p.1
saves-no-paper paper (Some place) none old result new p = absurd (some-none place none)
  where
    some-none : (place : PaperPlace) → Some place ≡ None → ⊥
    some-none place is = cc

pub saves-no-papers : (papers : PapersState) (places : PaperPlaces) → places ≡ no_papers → (old : List Event) (result : Result (Unit {0}) Ending) (new : List Event)
    → SavesPapers papers places old result new → new ≡ old
saves-no-papers papers places none old result new s =
    saves-no-paper papers.transfers places.transfers (ap (λ (p : PaperPlaces). p.transfers) none) s.after_second s.third new s.saves_transfers
    ∙ (saves-no-paper papers.printer places.printer (ap (λ (p : PaperPlaces). p.printer) none) s.after_first s.second s.after_second s.saves_printer
    ∙ saves-no-paper papers.punch places.punch (ap (λ (p : PaperPlaces). p.punch) none) old s.first s.after_first s.saves_punch)
