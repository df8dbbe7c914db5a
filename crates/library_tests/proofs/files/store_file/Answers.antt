use Rattle.library_tests.proofs.Tokens.{entered-of}
use Rattle.library_tests.proofs.files.store_file.Goals as goal

pub write_blocks-requires : goal.write_blocks-requires
write_blocks-requires g c = entered-of _ _ _ _ _ c.in-Ok.ensures
