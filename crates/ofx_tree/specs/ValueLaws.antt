-- What a cursor finds is what is there: a child's value is read exactly where the grammar of values spells it.
use Rattle.std.specs.Prelude.{◌≡◌, ◌↔◌, ℕ, Bool, List, Option, Ok}
use Rattle.ofx_types.specs.Nodes.{Item}
use Rattle.ofx_types.specs.FormWords.{text_in, IsTextIn, flag_in, IsFlagIn, maybe_flag_in, IsMaybeFlagIn, amount_in, IsAmountIn, moment_in, IsMomentIn, maybe_moment_in, IsMaybeMomentIn, number_in, IsNumberIn, id_in, IsIdIn, maybe_id_in, IsMaybeIdIn}
use Rattle.ofx_types.specs.declared.number.Cents.{Cents}
use Rattle.ofx_types.specs.declared.number.Moment.{Moment}

-- The only child of this name stands for the text, of 1 byte up to the limit, exactly where reading gives it.
abbrev pub TextsAreFound : Type 0
TextsAreFound = (name : List ℕ) (most : ℕ) (parent : Item) (text : List ℕ) → IsTextIn name most parent text ↔ (text_in name most parent ≡ Ok text)

-- The only child of this name is `Y` or `N`; or it may be absent, for `N`.
abbrev pub FlagsAreFound : Type 0
FlagsAreFound = (name : List ℕ) (parent : Item) (flag : Bool) → IsFlagIn name parent flag ↔ (flag_in name parent ≡ Ok flag)

abbrev pub MaybeFlagsAreFound : Type 0
MaybeFlagsAreFound = (name : List ℕ) (parent : Item) (flag : Bool) → IsMaybeFlagIn name parent flag ↔ (maybe_flag_in name parent ≡ Ok flag)

-- The only child of this name spells the amount.
abbrev pub AmountsAreFound : Type 0
AmountsAreFound = (name : List ℕ) (parent : Item) (amount : Cents) → IsAmountIn name parent amount ↔ (amount_in name parent ≡ Ok amount)

-- The only child of this name spells the moment; or it may be absent, for none.
abbrev pub MomentsAreFound : Type 0
MomentsAreFound = (name : List ℕ) (parent : Item) (moment : Moment) → IsMomentIn name parent moment ↔ (moment_in name parent ≡ Ok moment)

abbrev pub MaybeMomentsAreFound : Type 0
MaybeMomentsAreFound =
    (name : List ℕ) (parent : Item) (moment : Option Moment) → IsMaybeMomentIn name parent moment ↔ (maybe_moment_in name parent ≡ Ok moment)

-- The only child of this name is the number, of 1 digit up to the limit.
abbrev pub NumbersAreFound : Type 0
NumbersAreFound = (name : List ℕ) (most : ℕ) (parent : Item) (number : ℕ) → IsNumberIn name most parent number ↔ (number_in name most parent ≡ Ok number)

-- The only child of this name stands for the id; or it may be absent, for 0.
abbrev pub IdsAreFound : Type 0
IdsAreFound = (name : List ℕ) (parent : Item) (id : ℕ) → IsIdIn name parent id ↔ (id_in name parent ≡ Ok id)

abbrev pub MaybeIdsAreFound : Type 0
MaybeIdsAreFound = (name : List ℕ) (parent : Item) (id : ℕ) → IsMaybeIdIn name parent id ↔ (maybe_id_in name parent ≡ Ok id)
