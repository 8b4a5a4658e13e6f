-- What a client has that has made a file: it acts for the same user, and the file is outstanding and is the one that is sent.
use Rattle.std.proofs.Common.{◌≡◌, ℕ, List, Option, None, Some, Result, Ok, Err, sym, ap, subst, ◌∙◌}
use Rattle.std.specs.Option.{option_map}
use Rattle.ofx_types.specs.declared.number.Moment.{Moment}
use Rattle.bank_model.specs.declared.setup.Setup.{Setup}
use Rattle.client_core.specs.Making.{file_of, made, made_for, with_file}
use Rattle.client_core.specs.Wishes.{content_of}
use Rattle.client_core.specs.declared.content.Content.{Content}
use Rattle.client_core.specs.declared.fault.ClientFault.{ClientFault}
use Rattle.client_core.specs.declared.wish.Wish.{Wish}
use Rattle.client_saved.specs.declared.state.ClientState.{ClientState}
use Rattle.client_saved.specs.declared.state.Outstanding.{Outstanding}
use Rattle.ofx_world.specs.Customer.{CustomerView, MakesFile, MayMake, IsSavedAs, sent}
use Rattle.ofx_world.specs.Kept.{IsUser}
use Rattle.ofx_world.proofs.Lists.{same_some}
use Rattle.ofx_world.proofs.Made.{made_at, none_made, same_made}

-- The client of a file that was made, by the errand that the wish is.
record IsFiled (before : ClientState) (at : Moment) (after : ClientState) : Type 0 where
  content : Content
  is : after ≡ with_file before at content

made_for_filed : (before : ClientState) (at : Moment) (found : Result Content ClientFault) (after : ClientState) → made_for before at found ≡ Ok after → IsFiled before at after
made_for_filed before at (Err fault) after is = absurd (none_made fault after is)
made_for_filed before at (Ok content) after is = record { content = content; is = sym (same_made (with_file before at content) after is) }

made_filed : (before : ClientState) (wish : Wish) (at : Moment) (after : ClientState) → made before wish at ≡ Ok after → IsFiled before at after
unfolding made
made_filed before wish at after is = made_for_filed before at (content_of before wish at) after is

bytes_of : (setup : Setup) (found : Option Outstanding) (kept : Outstanding) (file : List ℕ) → found ≡ Some kept → Some file ≡ option_map (sent setup) found
    → file ≡ sent setup kept
bytes_of setup found kept file is some =
    same_some file (sent setup kept) (some ∙ ap (λ (o : Option Outstanding). option_map (sent setup) o) is)

not_unsent : (setup : Setup) (found : Option Outstanding) (kept : Outstanding) → found ≡ Some kept → None ≡ option_map (sent setup) found → ⊥
not_unsent setup None kept is none = cc
not_unsent setup (Some other) kept is none = cc

-- a client before and after it made the file of a wish, and the customer who saved that
module _ (setup : Setup) (before : ClientState) (wish : Wish) (at : Moment) (client : ClientState) (is : made before wish at ≡ Ok client) (after : CustomerView)
    (saves : IsSavedAs client after) where
  abbrev kept_file : Outstanding
  kept_file = made_at at (file_of before (made_filed before wish at client is).content)

  is_kept : client.outstanding ≡ Some kept_file
  is_kept = ap (λ (c : ClientState). c.outstanding) (made_filed before wish at client is).is

  is_outstanding : after.client.outstanding ≡ Some kept_file
  is_outstanding = ap (λ (c : ClientState). c.outstanding) saves.0 ∙ is_kept

  -- It acts for the same user.
  pub same_user : IsUser setup before.user → IsUser setup after.client.user
  same_user user =
      subst (λ (c : ClientState). IsUser setup c.user) (sym (saves.0 ∙ (made_filed before wish at client is).is)) user

  pub never_unsent : None ≡ option_map (sent setup) after.client.outstanding → ⊥
  never_unsent none = not_unsent setup after.client.outstanding kept_file is_outstanding none

  pub makes_it : (customer : CustomerView) (file : List ℕ) → before ≡ customer.client → MayMake customer.client wish
      → Some file ≡ option_map (sent setup) after.client.outstanding → MakesFile setup customer wish at after file
  makes_it customer file loaded may some = record {
    may = may;
    client = client;
    makes = ap (λ (c : ClientState). made c wish at) (sym loaded) ∙ is;
    saves = saves;
    kept = kept_file;
    outstanding = is_kept;
    is_sent = bytes_of setup after.client.outstanding kept_file file is_outstanding some;
  }
