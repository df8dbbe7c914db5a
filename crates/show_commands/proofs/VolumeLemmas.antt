-- The reports of the volumes that a file has.
use Rattle.std.proofs.Common.{◌≡◌, ℕ, Bool, Option, Result, List, subst, sym}
use Rattle.hosts.specs.Event.{Event}
use Rattle.disk_layouts.specs.declared.layouts.Layout.{Layout}
use Rattle.image_kind.specs.declared.volumes.Volumes.{Volumes}
use Rattle.image_kind.specs.declared.volumes.Volumes.TheVariants.{One, Both}
use Rattle.outcome.specs.declared.endings.Ending.{Ending}
use Rattle.image_files.specs.Work.{Then, Purely}
use Rattle.show_commands.specs.declared.reports.ReportKind.{ReportKind}
use Rattle.image_files.specs.Ending.{EndsSound}
use Rattle.show_commands.specs.Volumes.{ReportsAlone, ReportsBoth, ReportsFile, ReportsVolume, ReportsVolumes}

pub file_alone : (kind : ReportKind) (file : List ℕ) (volumes : Volumes) (layout : Option Layout) (body other : List ℕ) (old : List Event) (result : Result (Unit {0}) Ending) (new : List Event)
    → volumes ≡ One layout → other ≡ body → ReportsAlone kind layout other old result new → ReportsFile kind file volumes body old result new
file_alone kind file volumes layout body other old result new are is reports =
    subst (λ v. ReportsFile kind file v body old result new) (sym are) (subst (λ b. ReportsAlone kind layout b old result new) is reports)

pub file_disk : (kind : ReportKind) (file : List ℕ) (volumes : Volumes) (body other : List ℕ) (old : List Event) (result : Result (Unit {0}) Ending) (new : List Event)
    → volumes ≡ Both → other ≡ body → Then (ReportsBoth kind file other) (λ is_sound. Purely (EndsSound is_sound)) old result new → ReportsFile kind file volumes body old result new
file_disk kind file volumes body other old result new are is reports =
    subst (λ v. ReportsFile kind file v body old result new) (sym are) (subst (λ b. Then (ReportsBoth kind file b) (λ is_sound. Purely (EndsSound is_sound)) old result new) is reports)

pub volumes_one : (kind : ReportKind) (file : List ℕ) (volumes : Volumes) (layout : Option Layout) (body other : List ℕ) (old : List Event) (result : Result Bool Ending) (new : List Event)
    → volumes ≡ One layout → other ≡ body → ReportsVolume kind file layout other old result new → ReportsVolumes kind file volumes body old result new
volumes_one kind file volumes layout body other old result new are is reports =
    subst (λ v. ReportsVolumes kind file v body old result new) (sym are) (subst (λ b. ReportsVolume kind file layout b old result new) is reports)

pub volumes_both : (kind : ReportKind) (file : List ℕ) (volumes : Volumes) (body other : List ℕ) (old : List Event) (result : Result Bool Ending) (new : List Event)
    → volumes ≡ Both → other ≡ body → ReportsBoth kind file other old result new → ReportsVolumes kind file volumes body old result new
volumes_both kind file volumes body other old result new are is reports =
    subst (λ v. ReportsVolumes kind file v body old result new) (sym are) (subst (λ b. ReportsBoth kind file b old result new) is reports)
