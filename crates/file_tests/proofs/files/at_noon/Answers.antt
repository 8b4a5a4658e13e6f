use Rattle.std.proofs.Common.{arith}
use Rattle.std.proofs.lemmas.Int.{ints}
use Rattle.file_tests.proofs.files.at_noon.Goals as goal

pub write_request-requires : goal.write_request-requires
write_request-requires c = c.sound_files_are_printable.ensures c.args.file.now _ c.requires (omega (arith, ints), omega (arith, ints))
