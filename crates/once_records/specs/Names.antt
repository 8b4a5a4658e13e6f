-- The names of uids and files as the code has them, and the replies that are kept under them.
use Rattle.std.specs.Prelude.{ℕ, ◌<◌, Bool, ◌&&◌, ◌==◌, nat_lt, bytes_eq, if◌then◌else◌, List, [], ◌∷◌, map}
use Rattle.std.specs.List.{AllByRecursion, IsDistinct}
use Rattle.ofx_types.specs.declared.number.UserId.{UserId}
use Rattle.bank_model.specs.declared.once.UsedPair.{UsedPair}
use Rattle.bank_model.specs.declared.once.KeptReply.{KeptReply}
use Rattle.once_records.specs.RecordsView.{UsedOnce, KeptOnce}
use Rattle.once_records.specs.declared.name.Name.{Name}
use Rattle.once_records.specs.declared.replies.Numbered.{Numbered}

-- the name of a user's uid
abbrev pub name_of : UserId → List ℕ → Name
name_of user uid = record { user = user.0; uid = uid }

-- the pair that a name stands for
abbrev pub pair_named : Name → UsedPair
pair_named name = record { user = record { 0 = name.user }; trnuid = name.uid }

abbrev pub same_name : Name → Name → Bool
same_name a b = (a.user == b.user) && bytes_eq a.uid b.uid

-- the reply that is kept under a name
abbrev pub reply_named : Name × Numbered → KeptReply
reply_named held = record { user = record { 0 = held.0.user }; file = held.0.uid; reply = held.1.reply }

abbrev pub number_of : Name × Numbered → ℕ
number_of held = held.1.number

-- ---- a list in the order of its items' numbers

-- The item comes before the first one with a greater number.
abbrev pub put_by : {X : Type 0} → (X → ℕ) → X → List X → List X
put_by number item [] = item ∷ []
put_by number item (first ∷ more) =
    if nat_lt (number item) (number first) then item ∷ first ∷ more else first ∷ put_by number item more

abbrev pub ordered_by : {X : Type 0} → (X → ℕ) → List X → List X
ordered_by number [] = []
ordered_by number (item ∷ more) = put_by number item (ordered_by number more)

-- The pairs that are used up, in the order of their numbers.
abbrev pub in_order_used : List (Name × ℕ) → List UsedPair
in_order_used held = map (λ (one : Name × ℕ). pair_named one.0) (ordered_by (λ (one : Name × ℕ). one.1) held)

-- The pairs that are used up, in the order in which they were, and for how many more there is room.
pub record UsedView : Type 0 where
  pub used : List UsedPair
  pub room : ℕ

-- No two pairs have one number, and the next number is above all of them. No user has used up a uid twice.
pub record AreNumberedOnce (next : ℕ) (held : List (Name × ℕ)) : Type 0 where
  pub below : AllByRecursion (λ (one : Name × ℕ). one.1 < next) held
  pub numbers : IsDistinct (λ (a b : ℕ). a == b) (map (λ (one : Name × ℕ). one.1) held)
  pub used : UsedOnce (in_order_used held)

-- The replies that are kept, in the order of their numbers.
abbrev pub in_order_kept : List (Name × Numbered) → List KeptReply
in_order_kept held = map reply_named (ordered_by number_of held)

-- The replies that are kept, in the order in which they were kept, and for how many more there is room.
pub record RepliesView : Type 0 where
  pub kept : List KeptReply
  pub room : ℕ

-- No two replies have one number or one name, and the next number is above all of them. No file of a user has two replies.
pub record AreNumbered (next : ℕ) (held : List (Name × Numbered)) : Type 0 where
  pub below : AllByRecursion (λ (one : Name × Numbered). number_of one < next) held
  pub numbers : IsDistinct (λ (a b : ℕ). a == b) (map number_of held)
  pub names : IsDistinct same_name (map (λ (one : Name × Numbered). one.0) held)
  pub kept : KeptOnce (in_order_kept held)
