-- The arguments after `modify`.
use Rattle.std.proofs.Common.{◌≡◌, ℕ, List, [], ◌∷◌, get_or, Err, sym, refl, ap, ◌∙◌}
use Rattle.ofx_types.specs.declared.account.AcctName.{AcctName}
use Rattle.ofx_types.specs.declared.number.Cents.{Cents}
use Rattle.ofx_types.specs.declared.number.Day.{Day}
use Rattle.client_core.specs.declared.wish.Wish.{Wish}
use Rattle.client_core.specs.declared.wish.Wish.TheVariants as wishes
use Rattle.client_arguments.specs.Arguments.{IsIdWord, IsAccount, IsAmountWord, IsDayWord, IsModify, IsWishedBy}
use Rattle.client_arguments.specs.Reading.{Reads}
use Rattle.client_arguments.specs.declared.fault.ArgumentsFault.{ArgumentsFault}
use Rattle.client_arguments.specs.declared.verb.Verb.TheVariants as verbs
use Rattle.client_arguments.proofs.Unread.{unread}

-- Five arguments that say their parts say a change.
pub modify_said : (bank : List ℕ) (arguments : List (List ℕ)) (argument number kind amount due : List ℕ) (id : ℕ) (to : AcctName) (cents : Cents) (day : Day)
    → arguments ≡ argument ∷ number ∷ kind ∷ amount ∷ due ∷ [] → IsIdWord argument id → IsAccount bank number kind to → IsAmountWord amount cents → IsDayWord due day
    → IsWishedBy bank verbs.Modify arguments (wishes.Modify id to cents day)
modify_said bank arguments argument number kind amount due id to cents day spelled id_is to_is amount_is day_is = (
  id,
  to,
  cents,
  day,
  refl,
  record {
    argument = argument;
    number = number;
    kind = kind;
    amount = amount;
    due = due;
    spelled = spelled;
    id_is = id_is;
    to_is = to_is;
    amount_is = amount_is;
    day_is = day_is;
  },
)

amount_said : (bank : List ℕ) (arguments : List (List ℕ)) (argument number kind amount due : List ℕ) → arguments ≡ argument ∷ number ∷ kind ∷ amount ∷ due ∷ []
    → (wish : Wish) → IsWishedBy bank verbs.Modify arguments wish → (cents : Cents) × IsAmountWord amount cents
amount_said bank arguments argument number kind amount due spelled wish (id, to, cents, day, e, is) =
    let same : is.amount ≡ amount = ap (λ (l : List (List ℕ)). get_or l 3 []) (sym is.spelled ∙ spelled) in
    (cents, rw same at is.amount_is)

-- Where the fourth of them is no amount, they say none.
pub no_modify : (bank : List ℕ) (arguments : List (List ℕ)) (argument number kind amount due : List ℕ) (fault : ArgumentsFault)
    → arguments ≡ argument ∷ number ∷ kind ∷ amount ∷ due ∷ [] → Reads (IsAmountWord amount) (Err fault) → Reads (IsWishedBy bank verbs.Modify arguments) (Err fault)
no_modify bank arguments argument number kind amount due fault spelled none =
    unread (IsAmountWord amount) (IsWishedBy bank verbs.Modify arguments) fault (amount_said bank arguments argument number kind amount due spelled) none
