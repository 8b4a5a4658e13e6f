use Rattle.ofx_file.proofs.PrintableFiles.{sound_files_are_printable}
use Rattle.ofx_file.proofs.laws.sound_files_are_printable.Goals as goal

pub returns : goal.returns
returns c = sound_files_are_printable
