-- What a hold of the journal needs of its event, and what it leaves where it lacks accounts.
use Rattle.std.proofs.Common.{◌≡◌, List, [], refl, sym, ◌∙◌, subst, append-nil}
use Rattle.ofx_types.specs.declared.number.AcctId.{AcctId}
use Rattle.ofx_types.specs.declared.number.Moment.{Moment}
use Rattle.bank_model.specs.declared.event.Event.{Event}
use Rattle.bank_model.specs.declared.event.State.{State}
use Rattle.bank_model.specs.declared.setup.Setup.{Setup}
use Rattle.bank_model.specs.Rules.{IsLegal}
use Rattle.bank_accounts.specs.AccountView.{Tables}
use Rattle.bank_callers.specs.Callers.{CallerView, GainsNothing}
use Rattle.bank_shared.specs.Outcomes.{IsLacking}

-- An event that is legal whatever the state is so in the journal's.
pub legal_here : (setup own : Setup) (state : State) (at : Moment) (event : Event) → own ≡ setup → ((S : State) → IsLegal setup S at event) → IsLegal own state at event
legal_here setup own state at event same legal = subst (λ (s : Setup). IsLegal s state at event) (sym same) (legal state)

-- A hold that lacked accounts, and no memory to take them too: the call has gained nothing.
pub lacked : (tables : Tables) (numbers : List AcctId) (before mid after : CallerView) → mid ≡ before → IsLacking tables numbers mid after → GainsNothing before after
lacked tables numbers before mid after same lack =
    subst (λ (v : CallerView). GainsNothing before v) (sym (lack.same ∙ same)) (record { opening = refl; grown = []; seen = sym (append-nil before.seen); mine = refl; polled = refl })
