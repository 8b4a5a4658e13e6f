-- The history of an object over entries, part by part.
use Rattle.std.proofs.Common.{◌≡◌, List, [], ◌++◌, refl}
use Rattle.std.proofs.lemmas.List.Elements.{filter-append}
use Rattle.ofx_types.specs.declared.number.ObjectId.{ObjectId}
use Rattle.bank_model.specs.declared.entry.Entry.{Entry}
use Rattle.bank_model.specs.Objects.{belongs_to, history_of}

pub history_of-append : (object : ObjectId) (xs ys : List Entry) → history_of object (xs ++ ys) ≡ history_of object xs ++ history_of object ys
unfolding history_of
history_of-append object xs ys = filter-append (belongs_to object) xs ys

pub history_of-none : (object : ObjectId) → history_of object [] ≡ []
unfolding history_of
history_of-none object = refl
