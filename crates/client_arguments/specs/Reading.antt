-- What reading words answers.
use Rattle.std.specs.Prelude.{◌≡◌, List, ℕ, Result, Ok, Err, ⊤}
use Rattle.bank_model.specs.Sound.{IsSoundAccount}
use Rattle.client_core.specs.Wishes.{IsSoundWish}
use Rattle.client_core.specs.declared.wish.Wish.{Wish}
use Rattle.client_core.specs.declared.wish.Wish.TheVariants as wishes
use Rattle.client_arguments.specs.declared.fault.ArgumentsFault.{ArgumentsFault}
use Rattle.client_arguments.specs.declared.fault.ArgumentsFault.TheVariants.{Usage, OutOfMemory}

-- Arguments are read exactly where they have a form, unless memory is refused.
abbrev pub Reads : {A : Type 0} → (A → Type 0) → Result A ArgumentsFault → Type 0
Reads HasForm (Ok found) = HasForm found
Reads {A = A} HasForm (Err Usage) = (found : A) → HasForm found → ⊥
Reads HasForm (Err OutOfMemory) = ⊤

-- A wish for which a file is made is within the bounds of a sound file.
abbrev pub IsInBounds : Wish → Type 0
IsInBounds (wishes.Sync account) = IsSoundWish (wishes.Sync account)
IsInBounds (wishes.Transfer info) = IsSoundWish (wishes.Transfer info)
IsInBounds (wishes.Modify id to amount due) = IsSoundWish (wishes.Modify id to amount due)
IsInBounds (wishes.Cancel id) = IsSoundWish (wishes.Cancel id)
IsInBounds (wishes.Repeat recur info) = IsSoundWish (wishes.Repeat recur info)
IsInBounds (wishes.Stop id) = IsSoundWish (wishes.Stop id)
IsInBounds (wishes.Mail subject body) = IsSoundWish (wishes.Mail subject body)
IsInBounds (wishes.Check account) = IsSoundAccount account
IsInBounds wishes.Show = ⊤
