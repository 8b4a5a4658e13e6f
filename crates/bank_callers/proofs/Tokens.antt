-- Tokens of a board are those of its bank.
use Rattle.std.proofs.Common.{◌≡◌, ℕ, zero, suc, ◌+◌, ◌*◌, ◌<◌, ◌≤◌, ltb, ◌⊎◌, inl, inr, Bool, true, false, cond, List, [], ◌∷◌, ◌++◌, map, filter, fold, length, get_or, Contains, Option, None, Some, option_map, refl, sym, ap, ◌∙◌, subst, arith}
use Rattle.std.proofs.lemmas.Bool.{eqb-true, ltb-true, ltb-false}
use Rattle.std.proofs.lemmas.List.{get_or_past}
use Rattle.std.proofs.lemmas.List.Sums.{fold-append}
use Rattle.std.proofs.lemmas.List.Elements.{Contains-append_left, Contains-append_right, filter-append}
use Rattle.ofx_types.specs.declared.account.AcctName.{AcctName}
use Rattle.ofx_types.specs.declared.number.AcctId.{AcctId}
use Rattle.ofx_types.specs.declared.number.ObjectId.{ObjectId}
use Rattle.ofx_types.specs.declared.number.UserId.{UserId}
use Rattle.ofx_types.specs.declared.sync.ObjectName.TheVariants as names
use Rattle.bank_model.specs.declared.entry.Entry.{Entry}
use Rattle.bank_model.specs.declared.event.State.{State}
use Rattle.bank_model.specs.declared.log.LogItem.{LogItem}
use Rattle.bank_model.specs.declared.setup.Setup.{Setup}
use Rattle.bank_model.specs.Deeds.{intra_of, recurring_of, mail_about_of, mail_object}
use Rattle.bank_model.specs.Log.{entries_in}
use Rattle.bank_model.specs.Objects.{belongs_to, history_of, last_number_from, newest, numbered, object_named}
use Rattle.bank_model.specs.SetupLookups.{account_of, is_owner, if_owned, own_account}
use Rattle.bank_callers.specs.Belonging.{object_count}
use Rattle.bank_invariants.proofs.AccountIndices.{slice_get-below, line_of-account}
use Rattle.token_board.specs.declared.view.Load.{Load}
use Rattle.token_board.specs.Tokens.{added, number_of, opened, numbers_of, newest_in, IsTokenIn, IsFreshIn}
use Rattle.bank_callers.specs.Callers.{IsFresh, HoldsIn}
use Rattle.bank_callers.specs.Boards.{AreNewest, ObjectsAreCounted, TokensAreFresh, TokensHold}

-- ---- the newest token

history_both : (object : ObjectId) (xs ys : List Entry) → history_of object (xs ++ ys) ≡ history_of object xs ++ history_of object ys
unfolding history_of
history_both object xs ys = filter-append (belongs_to object) xs ys

newest_both : (object : ObjectId) (xs ys : List Entry) → newest object (xs ++ ys) ≡ last_number_from (newest object xs) (history_of object ys)
unfolding newest
newest_both object xs ys =
    ap (λ (es : List Entry). last_number_from 0 es) (history_both object xs ys)
    ∙ fold-append (λ (number : ℕ) (entry : Entry). entry.number) 0 (history_of object xs) (history_of object ys)

pub newest_is : (setup : Setup) (opening : State) (start : List ℕ) (log : List LogItem) (object : ObjectId) → AreNewest setup opening start → object.0 < object_count setup → newest_in start log object ≡ newest object (entries_in opening log)
newest_is setup opening start log object first within =
    ap (λ (n : ℕ). last_number_from n (history_of object (added log))) (first.newest object within)
    ∙ sym (newest_both object opening.entries (added log))

pub are_fresh : TokensAreFresh
are_fresh setup opening start seen load first within fresh =
    subst (λ (n : ℕ). n ≤ load.token) (newest_is setup opening start seen load.object first within) fresh

-- ---- tokens that stand

abbrev IsNumberOf : ObjectId → List Entry → ℕ → Type 0
IsNumberOf object entries number = (entry : Entry) × Contains entries entry × (entry.object ≡ object) × (entry.number ≡ number)

same_object : (a b : ObjectId) → a.0 ≡ b.0 → a ≡ b
same_object a b same = ap (λ (n : ℕ). record { 0 = n }) same

one_later : (object : ObjectId) (first : Entry) (entries : List Entry) (number : ℕ) → IsNumberOf object entries number → IsNumberOf object (first ∷ entries) number
one_later object first entries number (entry, among, of, is) = (entry, Contains-append_right (first ∷ []) entries entry among, of, is)

-- each number of an object's history is that of one of its entries
in_history : (object : ObjectId) (entries : List Entry) (number : ℕ) → Contains (map number_of (history_of object entries)) number → IsNumberOf object entries number
unfolding history_of
in_history object [] number among = absurd (let less = among.1 in omega arith)
in_history object (first ∷ entries) number among = by_first (λ there. in_history object entries number there) (belongs_to object first) refl among
  where
    by_first : (Contains (map number_of (filter (belongs_to object) entries)) number → IsNumberOf object entries number) → (b : Bool) → belongs_to object first ≡ b → Contains (map number_of (cond b (first ∷ filter (belongs_to object) entries) (filter (belongs_to object) entries))) number → IsNumberOf object (first ∷ entries) number
    by_first rest true is (zero, less, found) = (first, (0, omega arith, refl), same_object first.object object (eqb-true first.object.0 object.0 is), found)
    by_first rest true is (suc k, less, found) = one_later object first entries number (rest (k, omega arith, found))
    by_first rest false is there = one_later object first entries number (rest there)

-- the number of the last entry of an object, where there is one after a number so far
abbrev last_after : ℕ → ObjectId → List Entry → ℕ
last_after so_far object entries = fold (λ (number : ℕ) (entry : Entry). entry.number) so_far (filter (belongs_to object) entries)

abbrev last_with : Bool → ℕ → ObjectId → Entry → List Entry → ℕ
last_with b so_far object first entries =
    fold (λ (number : ℕ) (entry : Entry). entry.number) so_far (cond b (first ∷ filter (belongs_to object) entries) (filter (belongs_to object) entries))

-- it is the number so far, or that of an entry of the object
last_is : (object : ObjectId) (entries : List Entry) (so_far : ℕ) → (last_after so_far object entries ≡ so_far) ⊎ IsNumberOf object entries (last_after so_far object entries)
last_is object [] so_far = inl refl
last_is object (first ∷ entries) so_far = by_first (belongs_to object first) refl (last_is object entries so_far) (last_is object entries first.number)
  where
    by_first : (b : Bool) → belongs_to object first ≡ b → (last_after so_far object entries ≡ so_far) ⊎ IsNumberOf object entries (last_after so_far object entries)
        → (last_after first.number object entries ≡ first.number) ⊎ IsNumberOf object entries (last_after first.number object entries)
        → (last_with b so_far object first entries ≡ so_far) ⊎ IsNumberOf object (first ∷ entries) (last_with b so_far object first entries)
    by_first true is without (inl same) = inr (first, (0, omega arith, refl), same_object first.object object (eqb-true first.object.0 object.0 is), sym same)
    by_first true is without (inr among) = inr (one_later object first entries (last_after first.number object entries) among)
    by_first false is (inl same) later = inl same
    by_first false is (inr among) later = inr (one_later object first entries (last_after so_far object entries) among)

one_of : (object : ObjectId) (entries : List Entry) (number : ℕ) → 0 < number → (number ≡ 0) ⊎ IsNumberOf object entries number → IsNumberOf object entries number
one_of object entries number some (inl none) = absurd (omega (arith, some, none))
one_of object entries number some (inr among) = among

-- a newest token of at least 1 is the number of an entry
pub newest_held : (object : ObjectId) (entries : List Entry) → HoldsIn entries (record { object = object; token = newest object entries })
unfolding newest history_of
newest_held object entries some = one_of object entries (last_after 0 object entries) some (last_is object entries 0)

in_longer : (object : ObjectId) (xs ys : List Entry) (number : ℕ) → IsNumberOf object xs number → IsNumberOf object (xs ++ ys) number
in_longer object xs ys number (entry, among, of, is) = (entry, Contains-append_left xs ys entry among, of, is)

in_later : (object : ObjectId) (xs ys : List Entry) (number : ℕ) → IsNumberOf object ys number → IsNumberOf object (xs ++ ys) number
in_later object xs ys number (entry, among, of, is) = (entry, Contains-append_right xs ys entry among, of, is)

-- the number that an object began with
begun_held : (setup : Setup) (opening : State) (start : List ℕ) (object : ObjectId) (number : ℕ) → AreNewest setup opening start → 1 ≤ number → opened start object ≡ number → IsNumberOf object opening.entries number
begun_held setup opening start object number first some is = by_count (ltb object.0 (object_count setup)) refl
  where
    by_count : (b : Bool) → ltb object.0 (object_count setup) ≡ b → IsNumberOf object opening.entries number
    by_count true less =
        let same : newest object opening.entries ≡ number = sym (first.newest object (ltb-true object.0 (object_count setup) less)) ∙ is in
        subst (IsNumberOf object opening.entries) same (newest_held object opening.entries (subst (λ (n : ℕ). 1 ≤ n) (sym same) some))
    by_count false beyond =
        let none : opened start object ≡ 0 = get_or_past start object.0 0 (let size = first.size in let le = ltb-false object.0 (object_count setup) beyond in omega arith) in
        absurd (omega (arith, some, is, none))

pub are_held : TokensHold
are_held setup opening start log load first token some = by_place (token some)
  where
    by_place : Contains (opened start load.object ∷ map number_of (history_of load.object (added log))) load.token → IsNumberOf load.object (opening.entries ++ added log) load.token
    by_place (zero, less, found) = in_longer load.object opening.entries (added log) load.token (begun_held setup opening start load.object load.token first some found)
    by_place (suc k, less, found) = in_later load.object opening.entries (added log) load.token (in_history load.object (added log) load.token (k, omega arith, found))

-- ---- objects that names stand for

owned_is : (setup : Setup) (user : UserId) (found : Option AcctId) (a : AcctId) → if_owned setup user found ≡ Some a → found ≡ Some a
owned_is setup user None a is = absurd cc
owned_is setup user (Some b) a is = by_owner (is_owner setup user b) is
  where
    by_owner : (own : Bool) → cond own (Some b) None ≡ Some a → Some b ≡ Some a
    by_owner true same = same
    by_owner false same = absurd cc

own_below : (setup : Setup) (user : UserId) (name : AcctName) (a : AcctId) → own_account setup user name ≡ Some a → a.0 < length setup.accounts
own_below setup user name a is =
    let line = line_of-account setup name a (owned_is setup user (account_of setup name) a is) in slice_get-below setup.accounts a.0 line.0 line.1

of_account : (number : Option AcctId → ObjectId) (found : Option AcctId) (object : ObjectId) → numbered number found ≡ Some object → (a : AcctId) × (found ≡ Some a) × (number (Some a) ≡ object)
of_account number None object is = absurd cc
of_account number (Some a) object is = (a, refl, cc)

pub are_counted : ObjectsAreCounted
unfolding object_named
are_counted setup user (names.Intra account) object known is =
    let of = of_account intra_of (own_account setup user account) object is in
    let less = own_below setup user account of.0 of.1 in
    subst (λ (o : ObjectId). o.0 < object_count setup) of.2 (omega arith)
are_counted setup user (names.RecIntra account) object known is =
    let of = of_account recurring_of (own_account setup user account) object is in
    let less = own_below setup user account of.0 of.1 in
    subst (λ (o : ObjectId). o.0 < object_count setup) of.2 (omega arith)
are_counted setup user (names.BankMail account) object known is =
    let of = of_account mail_about_of (own_account setup user account) object is in
    let less = own_below setup user account of.0 of.1 in
    subst (λ (o : ObjectId). o.0 < object_count setup) of.2 (omega arith)
are_counted setup user names.Mail object known is =
    let same : mail_object setup user ≡ object = cc in
    subst (λ (o : ObjectId). o.0 < object_count setup) same (omega arith)
