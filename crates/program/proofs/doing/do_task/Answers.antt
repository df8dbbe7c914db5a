use Rattle.program.proofs.doing.do_task.Goals as goal
use Rattle.program.proofs.doing.do_task.Goals.{in-Profile, in-Tape, in-Rim, in-Source, in-List, in-ListLong, in-ListSome, in-Get, in-GetBin, in-GetMany, in-GetTexts, in-GetBlocks, in-Check, in-Index, in-Dump, in-Scan, in-Rescue, in-Create, in-CreateTape, in-CreateDisk, in-CreateVolume, in-Put, in-Delete, in-Rename, in-Copy, in-Squeeze, in-Patch, in-Assemble}

pub returns-in-Boot : goal.returns-in-Boot
returns-in-Boot g c = rw c.in-Boot.is c.boot_disk.ensures

pub returns-in-Teletype : goal.returns-in-Teletype
returns-in-Teletype g c = rw c.in-Teletype.is c.run_teletype.ensures

pub returns-in-Trace : goal.returns-in-Trace
returns-in-Trace g c = rw c.in-Trace.is c.trace_tape.ensures

pub returns-in-Run : goal.returns-in-Run
returns-in-Run g c = rw c.in-Run.is c.run_image-work.ensures

pub returns : goal.returns
returns g c = elim c.match-task.branch [
  | in-Profile w ↦ rw (w.in-Profile.is, w.host-is, w.work-is) w.profile_tape-work.ensures
  | in-Tape w ↦ rw (w.in-Tape.is, w.host-is, w.work-is) w.list_tape-work.ensures
  | in-Rim w ↦ rw (w.in-Rim.is, w.host-is, w.work-is) w.write_rim-work.ensures
  | in-Source w ↦ rw (w.in-Source.is, w.host-is, w.work-is) w.write_source-work.ensures
  | in-List w ↦ rw (w.in-List.is, w.host-is, w.work-is) w.list_files-work.ensures
  | in-ListLong w ↦ rw (w.in-ListLong.is, w.host-is, w.work-is) w.list_places-work.ensures
  | in-ListSome w ↦ rw (w.in-ListSome.is, w.host-is, w.work-is) w.list_some-work.ensures
  | in-Get w ↦ rw (w.in-Get.is, w.host-is, w.work-is) w.get_file-work.ensures
  | in-GetBin w ↦ rw (w.in-GetBin.is, w.host-is, w.work-is) w.get_bin-work.ensures
  | in-GetMany w ↦ rw (w.in-GetMany.is, w.host-is, w.work-is) w.get_files-work.ensures
  | in-GetTexts w ↦ rw (w.in-GetTexts.is, w.host-is, w.work-is) w.print_texts-work.ensures
  | in-GetBlocks w ↦ rw (w.in-GetBlocks.is, w.host-is, w.work-is) w.get_blocks-work.ensures
  | in-Check w ↦ rw (w.in-Check.is, w.host-is, w.work-is) w.check_images-work.ensures
  | in-Index w ↦ rw (w.in-Index.is, w.host-is, w.work-is) w.list_index-work.ensures
  | in-Dump w ↦ rw (w.in-Dump.is, w.host-is, w.work-is) w.dump_blocks-work.ensures
  | in-Scan w ↦ rw (w.in-Scan.is, w.host-is, w.work-is) w.scan_image-work.ensures
  | in-Rescue w ↦ rw (w.in-Rescue.is, w.host-is, w.work-is) (rw w.as_str.ensures.value at w.rescue_image-work.ensures)
  | in-Create w ↦ rw (w.in-Create.is, w.input-is, w.host-is, w.work-is) w.change_asked-work.ensures
  | in-CreateTape w ↦ rw (w.in-CreateTape.is, w.input-is, w.host-is, w.work-is) w.change_asked-work-in-CreateTape.ensures
  | in-CreateDisk w ↦ rw (w.in-CreateDisk.is, w.input-is, w.host-is, w.work-is) w.change_asked-work-in-CreateDisk.ensures
  | in-CreateVolume w ↦ rw (w.in-CreateVolume.is, w.input-is, w.host-is, w.work-is) w.change_asked-work-in-CreateVolume.ensures
  | in-Put w ↦ rw (w.in-Put.is, w.host-is, w.work-is) w.change_image-work.ensures
  | in-Delete w ↦ rw (w.in-Delete.is, w.host-is, w.work-is) w.change_image-work-in-Delete.ensures
  | in-Rename w ↦ rw (w.in-Rename.is, w.host-is, w.work-is) w.change_image-work-in-Rename.ensures
  | in-Copy w ↦ rw (w.in-Copy.is, w.host-is, w.work-is) w.change_image-work-in-Copy.ensures
  | in-Squeeze w ↦ rw (w.in-Squeeze.is, w.host-is, w.work-is) w.change_image-work-in-Squeeze.ensures
  | in-Patch w ↦ rw (w.in-Patch.is, w.host-is, w.work-is) (rw w.word_change.ensures at w.change_image-work-in-Patch.ensures)
  | in-Assemble w ↦ rw (w.in-Assemble.is, w.host-is, w.work-is) w.change_image-work-in-Assemble.ensures
]
