-- What all stores of a client hold of the bank's history, whatever its files ask and whatever the bank has done since.
use Rattle.std.specs.Prelude.{◌≡◌, Bool, true, false, List, [], ◌∷◌, All, Some, Ok}
use Rattle.std.specs.List.{AllByRecursion}
use Rattle.std.specs.Option.{IfSome}
use Rattle.ofx_types.specs.declared.number.Moment.{Moment}
use Rattle.ofx_types.specs.declared.number.UserId.{UserId}
use Rattle.ofx_types.specs.declared.request.Ask.{Ask}
use Rattle.ofx_types.specs.declared.request.Ask.TheVariants as asks
use Rattle.ofx_types.specs.declared.sync.ObjectName.{ObjectName}
use Rattle.sync_laws.specs.Histories.{IsInOrder, IsLater}
use Rattle.bank_model.specs.Rules.{raised, ask_answers}
use Rattle.bank_model.specs.SetupForm.{IsWithinLimits}
use Rattle.bank_model.specs.Stores.{Store, IsRight}
use Rattle.bank_model.specs.declared.event.State.{State}
use Rattle.bank_model.specs.declared.setup.Setup.{Setup}
use Rattle.client_saved.specs.Bounds.{IsSoundState, same_object, has_store}
use Rattle.client_saved.specs.declared.state.ClientState.{ClientState}
use Rattle.client_saved.specs.declared.state.Outstanding.{Outstanding}
use Rattle.client_core.specs.Accepting.{Accepted, accepted}
use Rattle.client_core.specs.ClientForm.{discarded}
use Rattle.client_core.specs.Making.{kind_asked, made}
use Rattle.client_core.specs.declared.wish.Wish.{Wish}
use Rattle.client_laws.specs.Answers.{bank_reply}

-- Each of a client's stores holds its object's entries, folded up to its token, or is marked lost.
abbrev pub AreRight : Setup → UserId → State → ClientState → Type 0
AreRight setup user S client = All (λ (store : Store). IsRight setup user store S.entries) client.stores

-- ---- what a file asks

-- An ask is about an object that it synchronises.
abbrev pub is_about : ObjectName → Ask → Bool
is_about object (asks.Statement trnuid account period) = false
is_about object (asks.One trnuid deed) = false
is_about object (asks.Sync ask) = same_object object ask.object

-- No object is asked about twice.
abbrev pub AreApart : List Ask → Type 0
AreApart [] = Unit {0}
AreApart (asks.Statement trnuid account period ∷ more) = AreApart more
AreApart (asks.One trnuid deed ∷ more) = AreApart more
AreApart (asks.Sync ask ∷ more) = AllByRecursion (λ (later : Ask). is_about ask.object later ≡ false) more × AreApart more

-- Each object is asked about by what is known of it.
abbrev pub AsksAsKnown : List Store → Ask → Type 0
AsksAsKnown stores (asks.Statement trnuid account period) = Unit {0}
AsksAsKnown stores (asks.One trnuid deed) = ⊥
AsksAsKnown stores (asks.Sync ask) =
    (has_store ask.object stores ≡ true)
    × AllByRecursion (λ (store : Store). same_object store.name ask.object ≡ true → ask.kind ≡ kind_asked store) stores

-- A file asks about each object by what the client knows of it, and about none twice.
pub record IsAsked (client : ClientState) (kept : Outstanding) : Type 0 where
  pub known : AllByRecursion (AsksAsKnown client.stores) kept.file.asks
  pub apart : AreApart kept.file.asks

-- So does the file that a client has outstanding.
abbrev pub AsksRightly : ClientState → Type 0
AsksRightly client = IfSome client.outstanding (IsAsked client)

-- ---- laws

-- Whoever makes a file asks rightly, and its stores are as right as they were.
abbrev pub MadeFilesAskRightly : Type 0
MadeFilesAskRightly = (setup : Setup) (S : State) (user : UserId) (client next : ClientState) (wish : Wish) (at : Moment) → IsInOrder setup S
    → made client wish at ≡ Ok next → IsSoundState next → AreRight setup user S client → AsksRightly next × AreRight setup user S next

-- Whoever asked rightly, and accepts the bank's reply to the file, has stores that are right, whatever the bank has done since:
-- they were when the bank replied.
abbrev pub AcceptedRepliesKeepStores : Type 0
AcceptedRepliesKeepStores = (setup : Setup) (before now : State) (user : UserId) (at : Moment) (client : ClientState) (kept : Outstanding) (taken : Accepted)
    → IsWithinLimits setup → IsInOrder setup before → IsInOrder setup now
    → IsLater (ask_answers setup (raised before at) user at kept.file.asks).after now
    → client.outstanding ≡ Some kept → IsSoundState client → AsksRightly client → AreRight setup user before client
    → accepted client (bank_reply setup before user at kept.file) ≡ Ok taken → AsksRightly taken.after × AreRight setup user now taken.after

-- Whoever gives a file up has the stores that it had, and stores stay right while the bank goes on.
abbrev pub DiscardedFilesKeepStores : Type 0
DiscardedFilesKeepStores = (setup : Setup) (S : State) (user : UserId) (client : ClientState) → AreRight setup user S client
    → AsksRightly (discarded client) × AreRight setup user S (discarded client)

abbrev pub StoresStayRight : Type 0
StoresStayRight = (setup : Setup) (S T : State) (user : UserId) (client : ClientState) → IsInOrder setup S → IsInOrder setup T → IsLater S T
    → AreRight setup user S client → AreRight setup user T client
