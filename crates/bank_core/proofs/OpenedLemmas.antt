-- The accounts with which a bank opens, one after another.
use Rattle.std.proofs.Common.{◌≡◌, ℕ, ◌<◌, Bool, true, false, ltb, List, [], ◌∷◌, ◌++◌, length, length-append, get_or, refl, sym, ap, ◌∙◌, arith}
use Rattle.std.proofs.lemmas.Bool.{ltb-true, ltb-false}
use Rattle.std.proofs.lemmas.List.{get_or_append_left, get_or_push}
use Rattle.bank_accounts.specs.AccountView.{AccountView}

-- one account more, numbered by its place
pub numbered_push : (accounts : List AccountView) (account : AccountView) (occurrence : ℕ) → length accounts ≡ occurrence → ((k : ℕ) (d : AccountView) → k < length accounts → (get_or accounts k d).number.0 ≡ k) → account.number.0 ≡ occurrence → (k : ℕ) (d : AccountView) → k < length (accounts ++ account ∷ []) → (get_or (accounts ++ account ∷ []) k d).number.0 ≡ k
numbered_push accounts account occurrence count numbered is k d below = number_at (ltb k (length accounts)) refl
  where
    number_at : (b : Bool) → ltb k (length accounts) ≡ b → (get_or (accounts ++ account ∷ []) k d).number.0 ≡ k
    number_at true less =
        let here : k < length accounts = ltb-true k (length accounts) less in
        ap (λ (a : AccountView). a.number.0) (get_or_append_left accounts (account ∷ []) d k here) ∙ numbered k d here
    number_at false least =
        let last : length accounts ≡ k = omega (arith, ltb-false k (length accounts) least, length-append accounts (account ∷ [])) in
        ap (λ (a : AccountView). a.number.0) (get_or_push accounts account d k last) ∙ is ∙ sym count ∙ last
