-- What holds of each item of a list, through a choice and a filter.
use Rattle.std.proofs.Common.{Bool, true, false, cond, List, [], ◌∷◌, filter}
use Rattle.std.specs.List.{AllByRecursion}
use Rattle.ofx_types.specs.Nodes.{Item}

pub all_chosen : (P : Item → Type 0) (b : Bool) (x y : List Item) → AllByRecursion P x → AllByRecursion P y → AllByRecursion P (cond b x y)
all_chosen P true x y h i = h
all_chosen P false x y h i = i

cons_chosen : (P : Item → Type 0) (b : Bool) (item : Item) (items : List Item) → P item → AllByRecursion P items → AllByRecursion P (cond b (item ∷ items) items)
cons_chosen P true item items h i = (h, i)
cons_chosen P false item items h i = i

pub all_filtered : (P : Item → Type 0) (p : Item → Bool) (items : List Item) → AllByRecursion P items → AllByRecursion P (filter p items)
all_filtered P p [] h = tt
all_filtered P p (item ∷ items) (h, more) = cons_chosen P (p item) item (filter p items) h (all_filtered P p items more)
