-- Each step at the row of turns keeps its rule.
use Rattle.std.proofs.Common.{◌≡◌, ◌⊎◌, ℕ, zero, suc, ◌<◌, List, [], ◌∷◌, ◌++◌, length, map, set, replicate, slice_index, slice_get, Option, None, Some, option_map, refl, sym, ap, ◌∙◌, subst, inl, inr, arith, length-set, get_or-set_same, get_or-set_other}
use Rattle.std.proofs.lemmas.Bool.{cases_eq}
use Rattle.std.proofs.lemmas.Option.{slice_get-map, slice_get_within, get_or_from_slice_get}
use Rattle.std.proofs.lemmas.List.{get_or-replicate, length-map, length-replicate}
use mathlib.Core.Option.{some, none}
use mathlib.Core.Option as maybe
use lib.ListN.{get_elem?}
use Rattle.atomic_table.specs.Seated.{TableId}
use Rattle.atomic_table.specs.Table.{State, Me, Act, keeps, takes, gives, opening, Allows, Arrives, Valid, homes_after, carried_after, put_back}
use Rattle.atomic_table.proofs.Lists.{set_here, set_else, set_again}
use Rattle.bank_accounts.specs.AccountView.{AccountView}
use Rattle.bank_accounts.specs.Pool.{AreNumbered}
use Rattle.bank_accounts.specs.Sides.{tables_of, IsOf}
use Rattle.bank_accounts.specs.Row.{IsHome, IsOut, IsHomeOrOut, AreHomeOrOut, HasTaken}

-- the slot of each account when the row is made
home_at : (accounts : List AccountView) (number : ℕ) → number < length accounts → (account : AccountView) × (get_elem? (map some (map Some accounts)) number ≡ some (some (Some account))) × (slice_get accounts number ≡ Some account)
home_at [] number near = absurd (omega arith)
home_at (x ∷ xs) zero near = (x, refl, refl)
home_at (x ∷ xs) (suc number) near = home_at xs number (omega arith)

pub starts : {V : Type 0} (accounts : List AccountView) (words : List ℕ) (slots : List (Option AccountView)) (v : V) → AreNumbered accounts → words ≡ replicate (length accounts) 0 → slots ≡ map Some accounts → AreHomeOrOut (tables_of accounts) (opening words slots v)
starts {V = V} accounts words slots v numbered zeros filled =
    subst (λ (ws : List ℕ). AreHomeOrOut (tables_of accounts) (opening ws slots v)) (sym zeros)
    (subst (λ (xs : List (Option AccountView)). AreHomeOrOut (tables_of accounts) (opening (replicate (length accounts) 0) xs v)) (sym filled) first)
  where
    by : (number : ℕ) → number < length accounts → IsHomeOrOut (tables_of accounts) number (slice_index (replicate (length accounts) 0) number) (get_elem? (map some (map Some accounts)) number)
    by number near =
        let found = home_at accounts number near in
        let account = found.0 in
        let is : account.number.0 ≡ number = ap (λ (a : AccountView). a.number.0) (sym (get_or_from_slice_get accounts number account account found.2)) ∙ numbered number account near in
        let own : IsOf (tables_of accounts) account =
        subst (λ (k : ℕ). slice_get (tables_of accounts) k ≡ Some account.table) (sym is)
        (slice_get-map (λ (a : AccountView). a.table) accounts number ∙ ap (option_map (λ (a : AccountView). a.table)) found.2) in
        (some (Some account), found.1, inl (get_or-replicate (length accounts) number 0 0 near, (account, refl, is, own)))

    first : AreHomeOrOut (tables_of accounts) (opening (replicate (length accounts) 0) (map Some accounts) v)
    first = record {
      word_count = length-replicate (length accounts) 0 ∙ sym (length-map accounts (λ (a : AccountView). a.table));
      slot_count = length-map (map Some accounts) some ∙ length-map accounts Some ∙ sym (length-map accounts (λ (a : AccountView). a.table));
      each = λ number near. by number (omega (arith, near, length-map accounts (λ (a : AccountView). a.table)));
    }

module _ {V : Type 0} (tables : List TableId) where
  -- the word and the slot of one account change
  placed : (s : State (Option AccountView) V) (number word : ℕ) (slot : maybe.Option (Option AccountView)) (views : List V) → AreHomeOrOut tables s → number < length tables → IsHome tables number word slot ⊎ IsOut word slot
      → AreHomeOrOut {V = V} tables record { words = set s.words number word; homes = set s.homes number slot; views = views }
  placed s number word slot views h near now = record {
    word_count = length-set s.words number word ∙ h.word_count;
    slot_count = length-set s.homes number slot ∙ h.slot_count;
    each = λ other within. by other within (cases_eq other number);
  }
    where
      here : IsHomeOrOut tables number (slice_index (set s.words number word) number) (get_elem? (set s.homes number slot) number)
      here = (
        slot,
        set_here s.homes number slot (omega (arith, near, h.slot_count)),
        subst (λ (w : ℕ). IsHome tables number w slot ⊎ IsOut w slot) (sym (get_or-set_same s.words number word 0 (omega (arith, near, h.word_count)))) now,
      )

      by : (other : ℕ) → other < length tables → (other ≡ number) ⊎ (other ≡ number → ⊥) → IsHomeOrOut tables other (slice_index (set s.words number word) other) (get_elem? (set s.homes number slot) other)
      by other within (inl same) =
          subst (λ (k : ℕ). IsHomeOrOut tables k (slice_index (set s.words number word) k) (get_elem? (set s.homes number slot) k)) (sym same) here
      by other within (inr apart) =
          let old = h.each other within in (
            old.0,
            set_else s.homes number other slot apart ∙ old.1,
            subst (λ (w : ℕ). IsHome tables other w old.0 ⊎ IsOut w old.0) (sym (get_or-set_other s.words number other word 0 apart)) old.2,
          )

  -- the swap that takes an account, or finds it out
  pub takes_turn : (slots number : ℕ) (v : V) → number < length tables → Arrives (AreHomeOrOut {V = V} tables) slots number (λ _. 1) (λ found me. found ≡ 0 → HasTaken {V = V} tables number me)
  takes_turn slots number v near s h _ _ = by (h.each number near)
    where
      now : AreHomeOrOut {V = V} tables record { words = set s.words number 1; homes = set s.homes number none; views = s.views ++ v ∷ [] }
      now = placed s number 1 none (s.views ++ v ∷ []) h near (inr (refl, refl))

      by : IsHomeOrOut tables number (slice_index s.words number) (get_elem? s.homes number)
          → (w : V) × (a : Act (Option AccountView)) × Valid s.homes [] a
          × AreHomeOrOut {V = V} tables record { words = set s.words number 1; homes = homes_after s.homes [] a; views = s.views ++ w ∷ [] }
          × (slice_index s.words number ≡ 0 → HasTaken {V = V} tables number (w, carried_after [] a))
      by (slot, at, inl (free, (account, is, numbered, own))) = (v, takes number (Some account), at ∙ ap some is, now, λ _. (account, refl, numbered, own))
      by (slot, at, inr (taken, is)) =
          (v, keeps, tt, subst (λ (homes : List (maybe.Option (Option AccountView))). AreHomeOrOut {V = V} tables record { words = set s.words number 1; homes = homes; views = s.views ++ v ∷ [] }) (set_again s.homes number none (at ∙ ap some is)) now, λ free. absurd (omega (arith, taken, free)))

  -- the store that gives an account back
  pub gives_back : (slots id number : ℕ) (account : AccountView) (me : Me (Option AccountView) V) → me.1 ≡ (number, Some account) ∷ [] → account.number.0 ≡ number → IsOf tables account
      → Allows (AreHomeOrOut {V = V} tables) slots id me number (λ _. 0) (λ _ _. Unit {0})
  gives_back slots id number account me is numbered own s h _ _ _ =
      let near : number < length tables = subst (λ (n : ℕ). n < length tables) numbered (slice_get_within tables account.number.0 account.table own) in
      let now = placed s number 0 (some (Some account)) (set s.views id me.0) h near (inl (refl, (account, refl, numbered, own))) in (
        me.0,
        gives,
        tt,
        subst (λ (carried : List (ℕ × Option AccountView)). AreHomeOrOut {V = V} tables record { words = set s.words number 0; homes = put_back s.homes carried; views = set s.views id me.0 }) (sym is) now,
        tt,
      )
