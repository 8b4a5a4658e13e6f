-- The children that have a name and aren't absent.
use Rattle.std.specs.Prelude.{ℕ, Bool, not, ◌&&◌, List, filter}
use Rattle.ofx_types.specs.Nodes.{Item}
use Rattle.ofx_types.specs.TagNames.{is_one_of}
use Rattle.ofx_types.specs.FormWords.{has_name, is_absent}

-- It has this name and isn't absent.
abbrev pub holds : List ℕ → Item → Bool
holds name child = has_name name child && not (is_absent child.node)

abbrev pub present : List ℕ → List Item → List Item
present name items = filter (λ child. holds name child) items

-- It has one of these names and isn't absent.
abbrev pub holds_one_of : List (List ℕ) → Item → Bool
holds_one_of names child = is_one_of names child.node.name && not (is_absent child.node)

abbrev pub present_as_one_of : List (List ℕ) → List Item → List Item
present_as_one_of names items = filter (λ child. holds_one_of names child) items
