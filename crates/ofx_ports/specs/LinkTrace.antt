-- The links that a doorway in memory has given.
use Rattle.std.specs.Prelude.{List, [], ◌∷◌, ◌++◌}
use Rattle.ofx_ports.specs.States.{LinkState}
use Rattle.ofx_ports.specs.declared.memory.door.LinkTrace.{LinkTrace, Start, After'}

-- the links in order, the first one first, each as it was when it was given
abbrev pub links_given : LinkTrace → List LinkState
links_given Start = []
links_given (After' shape before link) = links_given before ++ link.value ∷ []
