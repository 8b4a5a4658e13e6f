-- A world that begins is sound.
use Rattle.std.proofs.Common.{◌≡◌, ℕ, zero, suc, true, false, List, [], ◌∷◌, slice_get, pos, None, Some, refl, sym, ap, subst, ◌∙◌, arith}
use Rattle.std.proofs.lemmas.Int.{ints}
use Rattle.std.specs.List.{All, AllByRecursion, IsDistinct}
use Rattle.std.specs.Option.{IfSome}
use Rattle.std.specs.Str.{bytes_eq}
use Rattle.std.proofs.lemmas.Bool.{true≢false}
use Rattle.std.proofs.lemmas.List.Elements.{All-nil, All-from_recursion, All-weaker}
use Rattle.ofx_types.specs.Calendar.{IsMoment}
use Rattle.ofx_types.specs.declared.number.Moment.{Moment}
use Rattle.ofx_types.proofs.Bytes.{bytes_eq_self}
use Rattle.bank_model.specs.Rules.{opening_state}
use Rattle.bank_model.specs.SetupForm.{IsWithinLimits}
use Rattle.bank_model.specs.Stores.{Store, IsRight}
use Rattle.bank_model.specs.declared.setup.Setup.{Setup}
use Rattle.client_core.specs.ClientForm.{new_client}
use Rattle.client_saved.specs.SavedText.{IsSavedText}
use Rattle.client_saved.specs.declared.state.ClientState.{ClientState}
use Rattle.ofx_world.specs.Customer.{CustomerView}
use Rattle.ofx_world.specs.Kept.{IsNew, AreNew, IsUser, same_name}
use Rattle.ofx_world.specs.Laws.{Laws}
use Rattle.ofx_world.specs.Server.{ServerView, fresh}
use Rattle.ofx_world.specs.Sound.{HaveOwnNames, IsEarlier, IsLast, IsSoundCustomer, IsSentBy, IsSoundKept, IsKnownReply, HasKeptReply, HasAnswer, IsSoundWorld}
use Rattle.ofx_world.specs.Truths.{IsAtItsIndex, HasRightStores}
use Rattle.ofx_world.specs.World.{WorldView, HaveSaved, Begins, beginning}
use Rattle.ofx_world.proofs.Lists.{same_some, none_some}

-- ---- clients that know nothing yet

record IsFresh (setup : Setup) (customer : CustomerView) : Type 0 where
  is_sound : IsSoundCustomer setup customer
  none : customer.client.outstanding ≡ None
  empty : customer.client.stores ≡ []

fresh_one : (setup : Setup) (client : ClientState) (customer : CustomerView) → (customer.client ≡ client) × (IsSavedText customer.saved client) → IsNew setup client → IsFresh setup customer
fresh_one setup client customer saves new =
    let is : customer.client ≡ new_client client.name client.user = saves.0 ∙ new.0 in
    record {
      is_sound = record {
        saved = subst (IsSavedText customer.saved) (sym saves.0) saves.1;
        user = subst (λ (c : ClientState). IsUser setup c.user) (sym saves.0) new.1;
        done = subst (λ (c : ClientState). IfSome c.done (IsEarlier c c.next)) (sym is) tt;
        outstanding = subst (λ (c : ClientState). IfSome c.outstanding (IsLast c)) (sym is) tt;
      };
      none = ap (λ (c : ClientState). c.outstanding) is;
      empty = ap (λ (c : ClientState). c.stores) is;
    }

each_fresh : (setup : Setup) (clients : List ClientState) (customers : List CustomerView) → HaveSaved clients customers → AllByRecursion (IsNew setup) clients → AllByRecursion (IsFresh setup) customers
each_fresh setup [] [] saved new = tt
each_fresh setup [] (customer ∷ customers) saved new = absurd saved
each_fresh setup (client ∷ clients) [] saved new = absurd saved
each_fresh setup (client ∷ clients) (customer ∷ customers) saved new =
    (fresh_one setup client customer saved.0 new.0, each_fresh setup clients customers saved.1 new.1)

-- ---- their names

apart_at : (client : ClientState) (clients : List ClientState) (customers : List CustomerView) (k : ℕ) (b : CustomerView) → HaveSaved clients customers
    → AllByRecursion (λ (other : ClientState). same_name client other ≡ false) clients → slice_get customers k ≡ Some b → client.name ≡ b.client.name → ⊥
apart_at client [] [] k b saved apart there same = none_some b there
apart_at client [] (customer ∷ customers) k b saved apart there same = saved
apart_at client (other ∷ clients) [] k b saved apart there same = saved
apart_at client (other ∷ clients) (customer ∷ customers) zero b saved apart there same =
    let one : customer ≡ b = same_some customer b there in
    let name : client.name ≡ other.name = same ∙ ap (λ (c : CustomerView). c.client.name) (sym one) ∙ ap (λ (c : ClientState). c.name) saved.0.0 in
    true≢false (sym (bytes_eq_self client.name) ∙ ap (bytes_eq client.name) name ∙ apart.0)
apart_at client (other ∷ clients) (customer ∷ customers) (suc k) b saved apart there same = apart_at client clients customers k b saved.1 apart.1 there same

own_names : (clients : List ClientState) (customers : List CustomerView) → HaveSaved clients customers → IsDistinct same_name clients → HaveOwnNames customers
unfolding IsDistinct
own_names [] [] saved apart j k a b at_j at_k same = absurd (none_some a at_j)
own_names [] (customer ∷ customers) saved apart j k a b at_j at_k same = absurd saved
own_names (client ∷ clients) [] saved apart j k a b at_j at_k same = absurd saved
own_names (client ∷ clients) (customer ∷ customers) saved apart zero zero a b at_j at_k same = refl
own_names (client ∷ clients) (customer ∷ customers) saved apart zero (suc k) a b at_j at_k same =
    absurd (apart_at client clients customers k b saved.1 apart.0 at_k
    (ap (λ (c : ClientState). c.name) (sym saved.0.0) ∙ ap (λ (c : CustomerView). c.client.name) (same_some customer a at_j) ∙ same))
own_names (client ∷ clients) (customer ∷ customers) saved apart (suc j) zero a b at_j at_k same =
    absurd (apart_at client clients customers j a saved.1 apart.0 at_j
    (ap (λ (c : ClientState). c.name) (sym saved.0.0) ∙ ap (λ (c : CustomerView). c.client.name) (same_some customer b at_k) ∙ sym same))
own_names (client ∷ clients) (customer ∷ customers) saved apart (suc j) (suc k) a b at_j at_k same =
    ap suc (own_names clients customers saved.1 apart.1 j k a b at_j at_k same)

-- ---- the world

abbrev world_of : List CustomerView → ServerView → List (List ℕ) → List (List ℕ) → Moment → WorldView
world_of customers server requests replies clock = record { server = server; customers = customers; requests = requests; replies = replies; clock = clock }

abbrev begun : Setup → List CustomerView → WorldView
begun setup customers = world_of customers (fresh setup) [] [] beginning

begun_sound : Laws → (setup : Setup) (clients : List ClientState) (customers : List CustomerView) → IsWithinLimits setup → AreNew setup clients → HaveSaved clients customers → IsSoundWorld (begun setup customers)
begun_sound laws setup clients customers within new saved =
    let all = All-from_recursion (IsFresh setup) customers (each_fresh setup clients customers saved new.new) in
    record {
      within = within;
      clock = first_moment;
      reopened = refl;
      reportable = laws.records.reported_first setup;
      customers = All-weaker (IsFresh setup) (IsSoundCustomer setup) (λ customer is. is.is_sound) customers all;
      names = own_names clients customers saved new.names;
      requests = All-nil (IsSentBy setup customers);
      pending = tt;
      reported = All-nil (IsAtItsIndex setup []);
      named = All-nil (IsKnownReply customers);
      recorded = All-nil (IsSoundKept setup customers);
      kept = All-weaker (IsFresh setup) (HasKeptReply setup opening_state []) (λ customer knows kept name user is. absurd (none_some kept (sym knows.none ∙ is))) customers all;
      answered = All-weaker (IsFresh setup) (HasAnswer setup opening_state) (λ customer knows kept name user is. absurd (none_some kept (sym knows.none ∙ is))) customers all;
      stores = All-weaker (IsFresh setup) (HasRightStores setup []) (λ customer knows user is. subst (All (λ (store : Store). IsRight setup user store [])) (sym knows.empty) (All-nil (λ (store : Store). IsRight setup user store []))) customers all;
    }
  where
    first_moment : IsMoment (pos 1704067200)
    first_moment = (omega (arith, ints), omega (arith, ints))

-- A world that begins with new clients is sound.
pub begins_sound : Laws → (setup : Setup) (clients : List ClientState) (world : WorldView) → IsWithinLimits setup → AreNew setup clients → Begins setup clients world → IsSoundWorld world
begins_sound laws setup clients world within new begins =
    subst IsSoundWorld (sym (ap (λ (server : ServerView). world_of world.customers server world.requests world.replies world.clock) begins.server
    ∙ ap (λ (files : List (List ℕ)). world_of world.customers (fresh setup) files world.replies world.clock) begins.requests
    ∙ ap (λ (files : List (List ℕ)). world_of world.customers (fresh setup) [] files world.clock) begins.replies
    ∙ ap (λ (clock : Moment). world_of world.customers (fresh setup) [] [] clock) begins.clock))
    (begun_sound laws setup clients world.customers within new begins.customers_are)
