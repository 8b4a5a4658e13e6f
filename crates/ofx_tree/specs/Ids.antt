-- The id that a node's value stands for.
use Rattle.std.specs.Prelude.{ℕ, Result, Ok}
use Rattle.ofx_types.specs.Nodes.{TagNode}
use Rattle.ofx_types.specs.FormWords.{◌>>=◌, text_at, id_of}
use Rattle.ofx_types.specs.declared.fault.TreeFault.{TreeFault}

-- The value is a text of 1 to 64 bytes, and the id is that of the text.
abbrev pub id_at : TagNode → Result ℕ TreeFault
id_at node = text_at 64 node >>= λ text. Ok (id_of text)
