-- A transfer goes out of the account of the recurring transfer that made it, whatever was changed since.
use Rattle.std.proofs.Common.{◌≡◌, ℕ, ◌≤◌, ◌⊎◌, inl, inr, Bool, true, false, cond, eqb, List, [], ◌∷◌, ◌++◌, length, length-append, Option, None, Some, refl, sym, ap, ◌∙◌, subst, arith}
use Rattle.std.specs.Option.{IfSome, option_map}
use Rattle.std.proofs.lemmas.Bool.{eqb-true, ne_eqb}
use Rattle.ofx_types.specs.declared.account.AcctName.{AcctName}
use Rattle.ofx_types.specs.declared.transfer.TransferRow.{TransferRow}
use Rattle.ofx_types.specs.declared.transfer.XferCode.TheVariants.{Cancelled}
use Rattle.ofx_types.specs.declared.transfer.Change.{Change}
use Rattle.ofx_types.specs.declared.transfer.Change.TheVariants.{NewTransfer, SetTransfer, DropTransfer, NewModel, SetModel, DropModel, NewMail}
use Rattle.ofx_types.specs.declared.recurring.ModelRow.{ModelRow}
use Rattle.bank_model.specs.declared.entry.Entry.{Entry}
use Rattle.bank_model.specs.Ledger.{is_dropped, with_code, row_of}
use Rattle.bank_model.specs.Models.{model_in, if_model_named, or_model_before, model_of}
use Rattle.bank_transfers.specs.Growth.{row_after}
use Rattle.bank_transfers.proofs.GrowthLemmas.{row_of-push}
use Rattle.bank_recur.proofs.GrowthLemmas.{model_of-push}
use Rattle.bank_invariants.specs.SoundStates.{IsOfWaiting, source_of, IsNextOf, IsLawful, HasSource, AreSources}
use Rattle.bank_invariants.proofs.RowLemmas.{AreMade, model_made, model_of-0}

-- ---- the recurring transfer of a row, after one entry more

abbrev after_model : ℕ → Option ModelRow → Change → Option ModelRow
after_model id found change = or_model_before found (if_model_named id (model_in change))

source_is : (found : Option ModelRow) (from : AcctName) → option_map (λ (m : ModelRow). m.from) found ≡ Some from → IfSome found (λ (m : ModelRow). m.from ≡ from)
source_is None from is = tt
source_is (Some m) from is = let e : m.from ≡ from = cc in e

set_source : (from : AcctName) (found : Option ModelRow) (given : ModelRow) → option_map (λ (m : ModelRow). m.from) found ≡ Some given.from → IfSome found (λ (m : ModelRow). m.from ≡ from) → given.from ≡ from
set_source from None given is known = cc
set_source from (Some m) given is known = let e : m.from ≡ given.from = cc in sym e ∙ known

abbrev Knows : AcctName → Option ModelRow → Type 0
Knows from found = IfSome found (λ (m : ModelRow). m.from ≡ from)

set_named : (from : AcctName) (found : Option ModelRow) (given : ModelRow) (b : Bool) → (b ≡ true → option_map (λ (m : ModelRow). m.from) found ≡ Some given.from) → Knows from found → Knows from (or_model_before found (cond b (Some given) None))
set_named from found given true is known = set_source from found given (is refl) known
set_named from found given false is known = known

knows_after : (entries : List Entry) (change : Change) (row : TransferRow) → IsLawful entries change → row.model ≤ length entries → Knows row.from (model_of row.model entries) → Knows row.from (after_model row.model (model_of row.model entries) change)
knows_after entries (NewTransfer given) row lawful below known = known
knows_after entries (SetTransfer given) row lawful below known = known
knows_after entries (DropTransfer id) row lawful below known = known
knows_after entries (NewModel given) row lawful below known = rw (ne_eqb given.id row.model (omega (arith, lawful))) known
knows_after entries (SetModel given also) row lawful below known =
    set_named row.from (model_of row.model entries) given (eqb given.id row.model)
    (λ same. ap (λ (n : ℕ). source_of n entries) (sym (eqb-true given.id row.model same)) ∙ lawful.1)
    known
knows_after entries (DropModel id also) row lawful below known = known
knows_after entries (NewMail mail) row lawful below known = known

-- ---- a row after one entry more

has_after : (entries : List Entry) (entry : Entry) (row : TransferRow) → IsLawful entries entry.change → HasSource entries row → HasSource (entries ++ entry ∷ []) row
has_after entries entry row lawful has = (
  omega (arith, has.0, length-append entries (entry ∷ [])),
  subst (Knows row.from) (sym (model_of-push row.model entries entry)) (knows_after entries entry.change row lawful has.0 has.1),
)

new_source : (count : ℕ) (entries : List Entry) (given : TransferRow) → AreMade (length entries) entries → (given.model ≡ 0) ⊎ IsNextOf entries given → HasSource entries given
new_source count entries given made (inl none) = (
  omega arith,
  subst (Knows given.from) (sym (ap (λ (n : ℕ). model_of n entries) none ∙ model_of-0 (length entries) entries made)) tt,
)
new_source count entries given made (inr next) = (below (model_of given.model entries) refl next.1, source_is (model_of given.model entries) given.from next.1)
  where
    below : (found : Option ModelRow) → model_of given.model entries ≡ found → option_map (λ (m : ModelRow). m.from) found ≡ Some given.from → given.model ≤ length entries
    below None is has = cc
    below (Some m) is has = (model_made (length entries) given.model entries m made is).1

found_source : (entries : List Entry) (given : TransferRow) (found : Option TransferRow) → IsOfWaiting given found → IfSome found (HasSource entries) → HasSource entries given
found_source entries given None lawful has = absurd lawful
found_source entries given (Some row) lawful has =
    let model = lawful.1 in (
      omega (arith, has.0),
      subst (λ (n : ℕ). Knows given.from (model_of n entries)) model (subst (λ (from : AcctName). Knows from (model_of row.model entries)) lawful.2 has.1),
    )

some_given : (P : TransferRow → Type 0) (given : TransferRow) (before : Option TransferRow) (named dropped : Bool) → (P given) → (P (with_code Cancelled given)) → IfSome before P → IfSome (cond named (Some (cond dropped (with_code Cancelled given) given)) before) P
some_given P given before true true here cancelled has = cancelled
some_given P given before true false here cancelled has = here
some_given P given before false dropped here cancelled has = has

some_dropped : (P : TransferRow → Type 0) (before : Option TransferRow) (named : Bool) → ((row : TransferRow) → P row → P (with_code Cancelled row)) → IfSome before P → IfSome (cond named (option_map (with_code Cancelled) before) before) P
some_dropped P None true cancelled has = tt
some_dropped P (Some row) true cancelled has = cancelled row has
some_dropped P before false cancelled has = has

after_source : (id : ℕ) (entries : List Entry) (change : Change) → AreMade (length entries) entries → AreSources entries → IsLawful entries change → IfSome (row_after id (is_dropped id entries) (row_of id entries) change) (HasSource entries)
after_source id entries (NewTransfer given) made sources lawful =
    let here = new_source 0 entries given made lawful.1 in
    some_given (HasSource entries) given (row_of id entries) (eqb given.id id) (is_dropped id entries) here here (sources id)
after_source id entries (SetTransfer given) made sources lawful =
    let here = found_source entries given (row_of given.id entries) lawful (sources given.id) in
    some_given (HasSource entries) given (row_of id entries) (eqb given.id id) (is_dropped id entries) here here (sources id)
after_source id entries (DropTransfer gone) made sources lawful = some_dropped (HasSource entries) (row_of id entries) (eqb gone id) (λ row has. has) (sources id)
after_source id entries (NewModel given) made sources lawful = sources id
after_source id entries (SetModel given also) made sources lawful = sources id
after_source id entries (DropModel gone also) made sources lawful = sources id
after_source id entries (NewMail mail) made sources lawful = sources id

some_after : (entries : List Entry) (entry : Entry) (found : Option TransferRow) → IsLawful entries entry.change → IfSome found (HasSource entries) → IfSome found (HasSource (entries ++ entry ∷ []))
some_after entries entry None lawful has = tt
some_after entries entry (Some row) lawful has = has_after entries entry row lawful has

pub sources_more : (entries : List Entry) (entry : Entry) → AreMade (length entries) entries → AreSources entries → IsLawful entries entry.change → AreSources (entries ++ entry ∷ [])
sources_more entries entry made sources lawful id =
    subst (λ (r : Option TransferRow). IfSome r (HasSource (entries ++ entry ∷ []))) (sym (row_of-push id entries entry))
    (some_after entries entry (row_after id (is_dropped id entries) (row_of id entries) entry.change) lawful (after_source id entries entry.change made sources lawful))
