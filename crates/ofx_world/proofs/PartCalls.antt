-- What the calls of the world's parts ask for, as a sound world has it, and the steps that they are.
use Rattle.std.proofs.Common.{◌≡◌, inl, inr, ℕ, List, [], ◌∷◌, ◌++◌, slice_get, Option, Some, refl, sym, ap, subst, ◌∙◌}
use Rattle.client_core.specs.declared.wish.Wish.{Wish}
use Rattle.ofx_world.specs.Customer.{CustomerView, MakesFile, MakesNone, TakesIn}
use Rattle.ofx_world.specs.Kept.{IsReply, IsRequest}
use Rattle.ofx_world.specs.Sound.{IsKnownReply, IsSentBy, IsSoundWorld}
use Rattle.ofx_world.specs.World.{WorldView, DeliverReplyStep, MakeStep, with_customer}
use Rattle.ofx_world.proofs.Lists.{at_all, set_same}

-- ---- what is asked for

module _ (inside old : WorldView) (same : inside ≡ old) (sound : IsSoundWorld old) where
  inside_sound : IsSoundWorld inside
  inside_sound = subst IsSoundWorld (sym same) sound

  pub request_is : (index : ℕ) (bytes : List ℕ) → slice_get inside.requests index ≡ Some bytes → IsRequest inside.server.setup bytes
  request_is index bytes there =
      (at_all (IsSentBy inside.server.setup inside.customers) inside.requests index bytes inside_sound.requests there).request

  pub reply_is : (index : ℕ) (bytes : List ℕ) → slice_get inside.replies index ≡ Some bytes → IsReply bytes
  reply_is index bytes there = (at_all (IsKnownReply inside.customers) inside.replies index bytes inside_sound.named there).is_reply

-- ---- the steps

abbrev pub with_requests : WorldView → List (List ℕ) → WorldView
with_requests world files = record {
  server = world.server;
  customers = world.customers;
  requests = files;
  replies = world.replies;
  clock = world.clock;
}

module _ (inside old : WorldView) (same : inside ≡ old) (number : ℕ) (customer : CustomerView) (there : slice_get inside.customers number ≡ Some customer) where
  -- what is said of a client by its number
  of_client : (says : WorldView → Option CustomerView → Type 0) → says inside (Some customer) → says old (slice_get old.customers number)
  of_client says holds =
      subst (λ (w : WorldView). says w (slice_get w.customers number)) same (subst (says inside) (sym there) holds)

  pub file_is_made : (wish : Wish) (new : CustomerView) (file : List ℕ) (requests : List (List ℕ)) → requests ≡ inside.requests ++ file ∷ []
      → MakesFile inside.server.setup customer wish inside.clock new file
      → MakeStep old number wish (slice_get old.customers number) (with_requests (with_customer inside number new) requests)
  file_is_made wish new file requests are makes =
      of_client (λ (w : WorldView) found. MakeStep w number wish found (with_requests (with_customer inside number new) requests))
      (inl (new, file, makes, ap (λ (files : List (List ℕ)). with_requests (with_customer inside number new) files) are))

  pub no_file_is_made : (wish : Wish) (requests : List (List ℕ)) → requests ≡ inside.requests → MakesNone customer wish inside.clock
      → MakeStep old number wish (slice_get old.customers number) (with_requests inside requests)
  no_file_is_made wish requests are none =
      of_client (λ (w : WorldView) found. MakeStep w number wish found (with_requests inside requests))
      (inr (none, ap (λ (files : List (List ℕ)). with_requests inside files) are))

  module _ (index : ℕ) (bytes : List ℕ) (here : slice_get inside.replies index ≡ Some bytes) where
    pub reply_is_taken : (new : CustomerView) → TakesIn customer bytes new
        → DeliverReplyStep old number (slice_get old.customers number) (slice_get old.replies index) (with_customer inside number new)
    reply_is_taken new takes =
        of_client (λ (w : WorldView) found. DeliverReplyStep w number found (slice_get w.replies index) (with_customer inside number new))
        (subst (λ (file : Option (List ℕ)). DeliverReplyStep inside number (Some customer) file (with_customer inside number new)) (sym here) (new, takes, refl))

    pub reply_is_refused : TakesIn customer bytes customer → DeliverReplyStep old number (slice_get old.customers number) (slice_get old.replies index) old
    reply_is_refused takes =
        of_client (λ (w : WorldView) found. DeliverReplyStep w number found (slice_get w.replies index) old)
        (subst (λ (file : Option (List ℕ)). DeliverReplyStep inside number (Some customer) file old) (sym here) (
          customer,
          takes,
          sym same ∙ ap (λ (customers : List CustomerView). record {
            server = inside.server;
            customers = customers;
            requests = inside.requests;
            replies = inside.replies;
            clock = inside.clock;
          }) (sym (set_same inside.customers number customer there)),
        ))
