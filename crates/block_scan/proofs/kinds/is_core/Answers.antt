use Rattle.block_scan.proofs.kinds.is_core.Goals as goal

pub returns : goal.returns
returns c = c.is_image_without_room.ensures c.args.words.now c.in-Err.ensures
