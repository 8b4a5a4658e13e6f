-- The newest tokens of a state are numbers of its entries.
use Rattle.std.proofs.Common.{◌≡◌, ℕ, ◌<◌, ◌⊎◌, inl, inr, Bool, true, false, cond, List, [], ◌∷◌, length, fold, filter, All, Contains, Option, None, Some, option_to_list, refl, sym, ap, ◌∙◌, arith}
use Rattle.std.proofs.lemmas.Bool.{eqb-true}
use Rattle.std.proofs.lemmas.List.Elements.{All-append, All-cons, All-nil, Contains-append_right}
use Rattle.ofx_types.specs.declared.number.ObjectId.{ObjectId}
use Rattle.ofx_types.specs.declared.number.UserId.{UserId}
use Rattle.ofx_types.specs.declared.request.Ask.{Ask}
use Rattle.bank_model.specs.declared.setup.Setup.{Setup}
use Rattle.bank_model.specs.declared.entry.Entry.{Entry}
use Rattle.bank_model.specs.declared.event.State.{State}
use Rattle.bank_model.specs.Objects.{belongs_to, history_of, newest}
use Rattle.token_board.specs.declared.view.Load.{Load}
use Rattle.bank_callers.specs.Polled.{object_asked, loads_made}
use Rattle.bank_connection.specs.NewestTokens.{newest_load, newest_loads}
use Rattle.bank_callers.specs.Callers.{HoldsIn}

-- the number of the last entry of an object, where there is one after a number so far
abbrev last_after : ℕ → ObjectId → List Entry → ℕ
last_after so_far object entries = fold (λ (number : ℕ) (entry : Entry). entry.number) so_far (filter (belongs_to object) entries)

-- the same of one entry more before, where it is known whether it belongs to the object
abbrev last_with : Bool → ℕ → ObjectId → Entry → List Entry → ℕ
last_with b so_far object first entries =
    fold (λ (number : ℕ) (entry : Entry). entry.number) so_far (cond b (first ∷ filter (belongs_to object) entries) (filter (belongs_to object) entries))

abbrev IsNumbered : ObjectId → List Entry → ℕ → Type 0
IsNumbered object entries number = (entry : Entry) × Contains entries entry × (entry.object ≡ object) × (entry.number ≡ number)

same_object : (a b : ObjectId) → a.0 ≡ b.0 → a ≡ b
same_object a b same = ap (λ (n : ℕ). record { 0 = n }) same

rest : (object : ObjectId) (first : Entry) (entries : List Entry) (number : ℕ) → IsNumbered object entries number → IsNumbered object (first ∷ entries) number
rest object first entries number (entry, among, of, is) = (entry, Contains-append_right (first ∷ []) entries entry among, of, is)

-- it is the number so far, or that of an entry of the object
last_is : (object : ObjectId) (entries : List Entry) (so_far : ℕ) → (last_after so_far object entries ≡ so_far) ⊎ IsNumbered object entries (last_after so_far object entries)
last_is object [] so_far = inl refl
last_is object (first ∷ entries) so_far = by_first (belongs_to object first) refl (last_is object entries so_far) (last_is object entries first.number)
  where
    by_first : (b : Bool) → belongs_to object first ≡ b → (last_after so_far object entries ≡ so_far) ⊎ IsNumbered object entries (last_after so_far object entries)
        → (last_after first.number object entries ≡ first.number) ⊎ IsNumbered object entries (last_after first.number object entries)
        → (last_with b so_far object first entries ≡ so_far) ⊎ IsNumbered object (first ∷ entries) (last_with b so_far object first entries)
    by_first true is without (inl same) = inr (first, (0, omega arith, refl), same_object first.object object (eqb-true first.object.0 object.0 is), sym same)
    by_first true is without (inr among) = inr (rest object first entries (last_after first.number object entries) among)
    by_first false is (inl same) later = inl same
    by_first false is (inr among) later = inr (rest object first entries (last_after so_far object entries) among)

one_of : (object : ObjectId) (entries : List Entry) (number : ℕ) → 0 < number → (number ≡ 0) ⊎ IsNumbered object entries number → IsNumbered object entries number
one_of object entries number some (inl none) = absurd (omega (arith, some, none))
one_of object entries number some (inr among) = among

pub newest_holds : (object : ObjectId) (entries : List Entry) → HoldsIn entries (record { object = object; token = newest object entries })
unfolding newest history_of
newest_holds object entries some = one_of object entries (last_after 0 object entries) some (last_is object entries 0)

one_holds : (S : State) (object : Option ObjectId) → All (HoldsIn S.entries) (option_to_list (newest_load S object))
one_holds S None = All-nil (HoldsIn S.entries)
one_holds S (Some object) = All-cons (HoldsIn S.entries) (record { object = object; token = newest object S.entries }) [] (newest_holds object S.entries) (All-nil (HoldsIn S.entries))

pub all_hold : (setup : Setup) (S : State) (user : UserId) (all : List Ask) → All (HoldsIn S.entries) (loads_made (newest_loads setup S user all))
all_hold setup S user [] = All-nil (HoldsIn S.entries)
all_hold setup S user (ask ∷ more) =
    All-append (HoldsIn S.entries) (option_to_list (newest_load S (object_asked setup user ask))) (loads_made (newest_loads setup S user more))
    (one_holds S (object_asked setup user ask)) (all_hold setup S user more)
