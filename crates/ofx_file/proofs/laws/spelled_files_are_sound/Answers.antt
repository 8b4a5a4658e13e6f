use Rattle.std.proofs.Common.{drop}
use Rattle.ofx_file.proofs.Soundness.{sound_file}
use Rattle.ofx_file.proofs.laws.spelled_files_are_sound.Goals as goal

pub returns : goal.returns
returns c = λ bytes file s short. sound_file bytes file s (c.nodes_are_slices.ensures (drop s.size bytes) s.nodes s.body.are_nodes) short
