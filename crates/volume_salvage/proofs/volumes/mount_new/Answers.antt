use Rattle.std.proofs.Common.{[], sym, subst, rules}
use Rattle.volume_salvage.specs.Steps.{IsRow}
use Rattle.volume_salvage.proofs.RowLemmas.{new-row}
use Rattle.volume_salvage.proofs.volumes.mount_new.Goals as goal

pub returns-in-Ok : goal.returns-in-Ok
returns-in-Ok c =
    let law = c.new_volumes.ensures in
    let blocks = c.args.volume.blocks in (
      search rules,
      search rules,
      search rules,
      subst (λ b. IsRow b []) (sym c.in-Ok.ensures.blocks)
          (new-row c.directory_numbers.ensures.capacity c.sound_directory.ensures c.files_found.ensures c.args.blocks blocks (law.sound c.args.blocks blocks c.requires) c.requires.size (law.files c.args.blocks blocks c.requires)
          (law.free c.args.blocks blocks c.requires)),
    )
