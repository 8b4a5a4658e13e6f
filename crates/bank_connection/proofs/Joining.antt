-- One exchange more, after those so far.
use Rattle.std.proofs.Common.{◌≡◌, ◌≢◌, ℕ, ◌+◌, ◌≤◌, Bool, true, false, List, [], ◌∷◌, ◌++◌, length, All, get_or, refl, sym, ap, ◌∙◌, subst, arith, append_assoc, append-nil, length-append, flat_map}
use Rattle.std.proofs.lemmas.List.{get_or_append_left, get_or-append-add}
use Rattle.std.proofs.lemmas.List.Elements.{All-append}
use Rattle.std.proofs.lemmas.Grind.{flat_map-append}
use Rattle.bank_model.specs.declared.entry.Entry.{Entry}
use Rattle.bank_model.specs.declared.event.State.{State}
use Rattle.bank_model.specs.declared.setup.Setup.{Setup}
use Rattle.bank_model.specs.declared.log.LogItem.{LogItem}
use Rattle.token_board.specs.declared.view.Load.{Load}
use Rattle.bank_callers.specs.Callers.{HoldsIn}
use Rattle.bank_connection.specs.Exchanges.{Outcome, Exchange, IsExchange, AreExchanges, endings_of, endings_in}
use Rattle.bank_connection.specs.Watched.{SeesAt, SeesIn, loads_of, loads_in, HasEnding, TokensHold}
use Rattle.bank_connection.proofs.Logs.{holds-kept}

pub exchanges-more : (setup : Setup) (log : List LogItem) (number : ℕ) (xs : List Exchange) (x : Exchange) → AreExchanges setup log number xs
    → IsExchange setup log (number + length xs) x → AreExchanges setup log number (xs ++ x ∷ [])
exchanges-more setup log number [] x are is =
    let offset : number + length {A = Exchange} [] ≡ number = omega arith in
    (subst (λ (n : ℕ). IsExchange setup log n x) offset is, tt)
exchanges-more setup log number (y ∷ xs) x are is =
    let offset : number + length (y ∷ xs) ≡ number + 1 + length xs = omega arith in
    (are.0, exchanges-more setup log (number + 1) xs x are.1 (subst (λ (n : ℕ). IsExchange setup log n x) offset is))

pub sees-more : (opening : State) (seen mid next : List LogItem) (xs : List Exchange) (x : Exchange) → SeesIn opening seen xs mid
    → SeesAt opening mid x.outcome next → SeesIn opening seen (xs ++ x ∷ []) next
sees-more opening seen mid next [] x is at = (next, subst (λ (l : List LogItem). SeesAt opening l x.outcome next) is at, refl)
sees-more opening seen mid next (y ∷ xs) x is at = (is.0, is.1, sees-more opening is.0 mid next xs x is.2 at)

-- the parts of one exchange more
pub one_more : {A : Type 0} (f : Exchange → List A) (xs : List Exchange) (x : Exchange) → flat_map f (xs ++ x ∷ []) ≡ flat_map f xs ++ f x
one_more f xs x = flat_map-append f xs (x ∷ []) ∙ ap (λ l. flat_map f xs ++ l) (append-nil (f x))

pub all_hold-kept : (entries more : List Entry) (loads : List Load) → All (HoldsIn entries) loads → All (HoldsIn (entries ++ more)) loads
all_hold-kept entries more loads all k d low = holds-kept entries more (get_or loads k d) (all k d low)

-- tokens are among more entries
pub tokens-kept : (entries more : List Entry) (xs : List Exchange) → TokensHold entries xs → TokensHold (entries ++ more) xs
tokens-kept entries more [] hold = tt
tokens-kept entries more (x ∷ xs) hold = (
  (λ ending. all_hold-kept entries more (loads_of x.outcome) (hold.0 ending)),
  tokens-kept entries more xs hold.1,
)

-- all of the first elements of a list
all-prefix : {A : Type 0} (P : A → Type 0) (xs ys : List A) → All P (xs ++ ys) → All P xs
all-prefix P xs ys all k d below = subst P (get_or_append_left xs ys d k below) (all k d (omega (arith, length-append xs ys)))

all-back : {A : Type 0} (P : A → Type 0) (xs ys : List A) → All P (xs ++ ys) → All P ys
all-back P xs ys all k d below = subst P (get_or-append-add xs ys k d) (all (length xs + k) d (omega (arith, length-append xs ys)))

no_ending : (xs : List Exchange) (x : Exchange) → endings_of x.outcome ≡ [] → HasEnding (xs ++ x ∷ []) → HasEnding xs
no_ending xs x none some is = some (one_more (λ (y : Exchange). endings_of y.outcome) xs x ∙ rw (is, none) refl)

pub tokens-more : (entries : List Entry) (xs : List Exchange) (x : Exchange) (numbers : List ℕ) → endings_of x.outcome ≡ numbers → TokensHold entries xs
    → (numbers ≢ [] → All (HoldsIn entries) (loads_in xs)) → TokensHold entries (xs ++ x ∷ [])
tokens-more entries [] x numbers is hold all = ((λ ending. absurd (ending refl)), tt)
tokens-more entries (y ∷ xs) x [] is hold all = (
  (λ ending. hold.0 (no_ending xs x is ending)),
  tokens-more entries xs x [] is hold.1 (λ some. absurd (some refl)),
)
tokens-more entries (y ∷ xs) x (n ∷ ns) is hold all = (
  (λ ending. all-prefix (HoldsIn entries) (loads_of y.outcome) (loads_in xs) (all (λ e. grind (arith, e)))),
  tokens-more entries xs x (n ∷ ns) is hold.1 (λ some. all-back (HoldsIn entries) (loads_of y.outcome) (loads_in xs) (all some)),
)
