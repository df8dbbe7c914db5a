-- What is had before a machine boots, where memory is wanted, and that the machine runs then.
use Rattle.std.proofs.Common.{◌≡◌, ◌∙◌, ℕ, Bool, true, false, is_some, Option, None, Some, Result, Ok, Err, IsErrAnd, ap, refl}
use Rattle.std.specs.Global.{Vec}
use Rattle.std.specs.Result.{IsErr}
use Rattle.bin_tape.specs.declared.faults.TapeFault.{TapeFault}
use Rattle.bin_tape.specs.declared.faults.TapeFault.TheVariants as tape
use Rattle.pdp8e.specs.Boot.{booting}
use Rattle.pdp8e.specs.State.{Pdp8e, switches_set}
use Rattle.program_tasks.specs.declared.boots.ConsoleForm.{ConsoleForm}
use Rattle.program_tasks.specs.declared.devices.DeviceForm.{DeviceForm}
use Rattle.refusals.specs.Faults.{fault_of_tape}
use Rattle.outcome.specs.declared.endings.Ending.{Ending}
use Rattle.outcome.specs.declared.endings.Ending.TheVariants.{Fault}
use Rattle.drive_files.specs.Consoles.{console_acts}
use Rattle.drive_files.specs.Inputs.{with_switches}
use Rattle.drive_files.specs.Mounting.{disk_of}
use Rattle.drive_files.specs.Devices.{with_clock_if, with_devices, with_paper_if, with_tape_if}
use Rattle.drive_files.specs.declared.devices.OpenDevices.{OpenDevices}
use Rattle.run_commands.specs.Bootstraps.{IsReady, booted_console}
use Rattle.run_commands.specs.Drives8e.{machine_of}
use Rattle.run_commands.specs.Runs8e.{loaded_console}
use Rattle.run_commands.specs.declared.core_programs.CoreProgram.{CoreProgram}
use Rattle.run_commands.specs.declared.bootstraps.Ready.{Ready}
use Rattle.run_commands.specs.declared.console_files.ConsoleFiles.{ConsoleFiles}

pub not-ready : (files : ConsoleFiles) (fault : TapeFault) (result : Result Ready Ending) → fault ≡ tape.Memory → IsErr result × IsErrAnd result (λ it. it ≡ Fault (fault_of_tape fault))
    → IsReady files result
not-ready files fault (Ok it) memory is = absurd is.1
not-ready files fault (Err it) memory is = is.1 ∙ ap (λ f. Fault (fault_of_tape f)) memory

runs-by : (switches : Option ℕ) (m : Pdp8e) → m.processor.base.running ≡ true → (with_switches switches_set switches m).processor.base.running ≡ true
runs-by None m is = is
runs-by (Some word) m is = is

-- tape, paper and clock leave it running
tape-runs : (tape : Option (Vec ℕ)) (m : Pdp8e) → (with_tape_if tape m).processor.base.running ≡ m.processor.base.running
tape-runs None m = refl
tape-runs (Some frames) m = refl

paper-runs : (is : Bool) (m : Pdp8e) → (with_paper_if is m).processor.base.running ≡ m.processor.base.running
paper-runs true m = refl
paper-runs false m = refl

clock-runs : (period : Option ℕ) (m : Pdp8e) → (with_clock_if period m).processor.base.running ≡ m.processor.base.running
clock-runs None m = refl
clock-runs (Some period) m = refl

pub devices-run : (m : Pdp8e) (form : DeviceForm) (devices : OpenDevices) → (with_devices m form devices).processor.base.running ≡ m.processor.base.running
devices-run m form devices =
    clock-runs form.clock (with_paper_if (is_some form.printer) (with_tape_if devices.tape m)) ∙ paper-runs (is_some form.printer) (with_tape_if devices.tape m) ∙ tape-runs devices.tape m

pub boot-runs : (form : ConsoleForm) (ready : Ready) → console_acts.is_running (booted_console form ready) ≡ true
boot-runs form ready =
    devices-run (with_switches switches_set form.switches (booting ready.core (disk_of form.disk ready.files.drives))) form.devices ready.files.equipment.devices
    ∙ runs-by form.switches (booting ready.core (disk_of form.disk ready.files.drives)) refl

pub loaded-runs : (form : ConsoleForm) (files : ConsoleFiles) (program : CoreProgram) → console_acts.is_running (loaded_console form files program) ≡ true
loaded-runs form files program = devices-run (machine_of form.disk files.drives program) form.devices files.equipment.devices
