-- The parts of a signon's printed form.
use Rattle.std.specs.Prelude.{ℕ, List, ◌++◌, codes}
use Rattle.ofx_types.specs.Sheet.{element}

-- The language of the user, and the program that signs on with its version.
abbrev pub program : List ℕ
program = element (codes "LANGUAGE") (codes "ENG") ++ (element (codes "APPID") (codes "OFXC") ++ element (codes "APPVER") (codes "0100"))
