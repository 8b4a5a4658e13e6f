-- Each step at an account's table keeps its rule.
use Rattle.std.proofs.Common.{◌≡◌, ◌≢◌, ◌⊎◌, ℕ, zero, suc, ◌+◌, ◌<◌, List, [], ◌∷◌, ◌++◌, length, set, slice_index, Option, None, Some, refl, sym, ap, ◌∙◌, subst, ⊎_elim, inl, inr, arith, length-set, get_or-set_same}
use mathlib.Core.Option.{some, some-injective, some-ne-none}
use lib.ListN.{get_elem?}
use Rattle.atomic_table.specs.Table.{State, Me, keeps, opening, Allows, Splits, Joins}
use Rattle.atomic_table.proofs.Lists.{at_set}
use Rattle.bank_accounts.specs.declared.side_rule.Sides.{Sides}
use Rattle.bank_accounts.specs.AccountTable.{both_sides, book_side, account_side, no_side, book_part, account_part, joined, IsOnlySide, AreOnlySides, HaveOneAmount, Agreed, Given}

-- what is at an index of a list with one more item
pub at_one_more : {A : Type 0} (l : List A) (a b : A) (j : ℕ) → get_elem? (l ++ a ∷ []) j ≡ some b → (get_elem? l j ≡ some b) ⊎ ((j ≡ length l) × (a ≡ b))
at_one_more [] a b zero e = inr (refl, some-injective a b e)
at_one_more [] a b (suc j) e = absurd (some-ne-none b (sym e))
at_one_more (x ∷ xs) a b zero e = inl e
at_one_more (x ∷ xs) a b (suc j) e = ⊎_elim (λ t. inl t) (λ t. inr (ap suc t.0, t.1)) (at_one_more xs a b j e)

-- what a seat knows, and what it holds, where both are told at once
pub known : {S V : Type 0} {me : Me S V} {v : V} {held : List (ℕ × S)} → me ≡ (v, held) → me.0 ≡ v
known is = λ i. (is i).0

pub holding : {S V : Type 0} {me : Me S V} {v : V} {held : List (ℕ × S)} → me ≡ (v, held) → me.1 ≡ held
holding is = λ i. (is i).1

module _ (F : ℕ → Sides → Type 0) where
  each_set : (views : List Sides) (id : ℕ) (w : Sides) → ((j : ℕ) (u : Sides) → j ≢ id → get_elem? views j ≡ some u → F j u) → F id w → (j : ℕ) (u : Sides) → get_elem? (set views id w) j ≡ some u → F j u
  each_set views id w others mine j u e =
      ⊎_elim
      (λ (x : (j ≡ id) × (w ≡ u)). subst (λ (y : ℕ × Sides). F y.0 y.1) (λ i. (sym x.0 i, x.1 i)) mine)
      (λ (x : (j ≢ id) × (get_elem? views j ≡ some u)). others j u x.0 x.1)
      (at_set views id j w u e)

  each_more : (views : List Sides) (w : Sides) → ((j : ℕ) (u : Sides) → get_elem? views j ≡ some u → F j u) → F (length views) w → (j : ℕ) (u : Sides) → get_elem? (views ++ w ∷ []) j ≡ some u → F j u
  each_more views w others new j u e =
      ⊎_elim
      (λ (was : get_elem? views j ≡ some u). others j u was)
      (λ (x : (j ≡ length views) × (w ≡ u)). subst (λ (y : ℕ × Sides). F y.0 y.1) (λ i. (sym x.0 i, x.1 i)) new)
      (at_one_more views w u j e)

-- a seat that isn't the owner has no such side, whoever the owner is and whatever the word
elsewhere : (word owner word' owner' seat : ℕ) (x : Option ℕ) → seat ≢ owner → IsOnlySide word owner seat x → IsOnlySide word' owner' seat x
elsewhere word owner word' owner' seat None apart h = tt
elsewhere word owner word' owner' seat (Some amount) apart h = absurd (apart h.0)

module _ {S : Type 0} where
  pub begins : (amount : ℕ) → HaveOneAmount (opening {S = S} (amount ∷ []) [] (both_sides amount amount))
  begins amount = record { one_word = refl; book_seat = 0; account_seat = 0; each = one }
    where
      one : (seat : ℕ) (v : Sides) → get_elem? (both_sides amount amount ∷ []) seat ≡ some v → AreOnlySides amount 0 0 seat v
      one zero v e = subst (AreOnlySides amount 0 0 0) (some-injective _ _ e) ((refl, refl), (refl, refl))
      one (suc seat) v e = absurd (some-ne-none v (sym e))

  -- a new seat gets the account's side
  pub parts : (id book account : ℕ) → Splits (HaveOneAmount {S = S}) id (both_sides book account) (book_side book) (account_side account)
  parts id book account s h at =
      let mine = h.each id (both_sides book account) at in
      let word : ℕ = slice_index s.words 0 in
      let views : List Sides = set s.views id (book_side book) in
      record {
        one_word = h.one_word;
        book_seat = h.book_seat;
        account_seat = length views;
        each = each_more (AreOnlySides word h.book_seat (length views)) views (account_side account)
            (each_set (AreOnlySides word h.book_seat (length views)) s.views id (book_side book)
            (λ j u apart e. let old = h.each j u e in (old.0, elsewhere word h.account_seat word (length views) j u.account (λ same. apart (same ∙ sym mine.1.0)) old.1))
            (mine.0, tt))
            (tt, (refl, mine.1.1));
      }

  -- a new seat gets the account's side from the seat that has it alone
  pub hands : (id account : ℕ) → Splits (HaveOneAmount {S = S}) id (account_side account) no_side (account_side account)
  hands id account s h at =
      let mine = h.each id (account_side account) at in
      let word : ℕ = slice_index s.words 0 in
      let views : List Sides = set s.views id no_side in
      record {
        one_word = h.one_word;
        book_seat = h.book_seat;
        account_seat = length views;
        each = each_more (AreOnlySides word h.book_seat (length views)) views (account_side account)
            (each_set (AreOnlySides word h.book_seat (length views)) s.views id no_side
            (λ j u apart e. let old = h.each j u e in (old.0, elsewhere word h.account_seat word (length views) j u.account (λ same. apart (same ∙ sym mine.1.0)) old.1))
            (tt, tt))
            (tt, (refl, mine.1.1));
      }

  -- the book's seat gets the account's side
  pub meets : (id book other account : ℕ) → Joins (HaveOneAmount {S = S}) id (book_side book) other (account_side account) (both_sides book account) no_side
  meets id book other account s h at apart there =
      let word : ℕ = slice_index s.words 0 in
      let mine = h.each id (book_side book) at in
      let theirs : AreOnlySides word h.book_seat h.account_seat other (account_side account) =
      ⊎_elim
      (λ (x : (other ≡ id) × (both_sides book account ≡ account_side account)). absurd (apart x.0))
      (λ (x : (other ≢ id) × (get_elem? s.views other ≡ some (account_side account))). h.each other (account_side account) x.1)
      (at_set s.views id other (both_sides book account) (account_side account) there) in
      record {
        one_word = h.one_word;
        book_seat = h.book_seat;
        account_seat = id;
        each = each_set (AreOnlySides word h.book_seat id) (set s.views id (both_sides book account)) other no_side
            (λ j u away e. each_set (λ k v. k ≢ other → AreOnlySides word h.book_seat id k v) s.views id (both_sides book account)
            (λ k v _ e'. λ far. let old = h.each k v e' in (old.0, elsewhere word h.account_seat word id k v.account (λ same. far (same ∙ sym theirs.1.0)) old.1))
            (λ _. (mine.0, (refl, theirs.1.1)))
            j u e away)
            (tt, tt);
      }

  -- the seat that has both sides stores a word
  stored : (id book account word : ℕ) (s : State S Sides) → HaveOneAmount s → get_elem? s.views id ≡ some (both_sides book account)
      → HaveOneAmount {S = S} record { words = set s.words 0 word; homes = s.homes; views = set s.views id (both_sides word word) }
  stored id book account word s h at =
      let mine = h.each id (both_sides book account) at in
      let here : word ≡ slice_index (set s.words 0 word) 0 = sym (get_or-set_same s.words 0 word 0 (omega (arith, h.one_word))) in
      let now : ℕ = slice_index (set s.words 0 word) 0 in
      record {
        one_word = length-set s.words 0 word ∙ h.one_word;
        book_seat = h.book_seat;
        account_seat = h.account_seat;
        each = each_set (AreOnlySides now h.book_seat h.account_seat) s.views id (both_sides word word)
            (λ j u apart e. let old = h.each j u e in (
              elsewhere (slice_index s.words 0) h.book_seat now h.book_seat j u.book (λ same. apart (same ∙ sym mine.0.0)) old.0,
              elsewhere (slice_index s.words 0) h.account_seat now h.account_seat j u.account (λ same. apart (same ∙ sym mine.1.0)) old.1,
            ))
            ((mine.0.0, here), (mine.1.0, here));
      }

  pub changes : (slots id book account word : ℕ) → Allows (HaveOneAmount {S = S}) slots id (both_sides book account, []) 0 (λ _. word) (λ _. Given (both_sides book account, []) word)
  changes slots id book account word s h _ at _ = (both_sides word word, keeps, tt, stored id book account word s h at, refl)

  pub compares : (slots id book account : ℕ) → Allows (HaveOneAmount {S = S}) slots id (both_sides book account, []) 0 (λ n. n) (Agreed (both_sides book account, []))
  compares slots id book account s h _ at _ =
      let word : ℕ = slice_index s.words 0 in
      let mine = h.each id (both_sides book account) at in
      let same : both_sides book account ≡ both_sides word word = λ i. both_sides (mine.0.1 i) (mine.1.1 i) in
      (both_sides word word, keeps, tt, stored id book account word s h at, (same, λ i. (sym same i, [])))

  -- ---- the same for a seat that is known by an equation

  pub parts_at : (id book account : ℕ) (v : Sides) → v ≡ both_sides book account → Splits (HaveOneAmount {S = S}) id v (book_part v) (account_part v)
  parts_at id book account v is = subst (λ (u : Sides). Splits (HaveOneAmount {S = S}) id u (book_part u) (account_part u)) (sym is) (parts id book account)

  pub hands_at : (id account : ℕ) (v : Sides) → v ≡ account_side account → Splits (HaveOneAmount {S = S}) id v no_side v
  hands_at id account v is = subst (λ (u : Sides). Splits (HaveOneAmount {S = S}) id u no_side u) (sym is) (hands id account)

  pub meets_at : (id book other account : ℕ) (v w : Sides) → v ≡ book_side book → w ≡ account_side account → Joins (HaveOneAmount {S = S}) id v other w (joined v w) no_side
  meets_at id book other account v w is is' =
      subst (λ (u : Sides). Joins (HaveOneAmount {S = S}) id u other w (joined u w) no_side) (sym is)
      (subst (λ (u : Sides). Joins (HaveOneAmount {S = S}) id (book_side book) other u (joined (book_side book) u) no_side) (sym is') (meets id book other account))

  pub changes_at : (slots id book account word : ℕ) (me : Me S Sides) → me ≡ (both_sides book account, []) → Allows (HaveOneAmount {S = S}) slots id me 0 (λ _. word) (λ _. Given me word)
  changes_at slots id book account word me is = subst (λ (m : Me S Sides). Allows (HaveOneAmount {S = S}) slots id m 0 (λ _. word) (λ _. Given m word)) (sym is) (changes slots id book account word)

  pub compares_at : (slots id book account : ℕ) (me : Me S Sides) → me ≡ (both_sides book account, []) → Allows (HaveOneAmount {S = S}) slots id me 0 (λ n. n) (Agreed me)
  compares_at slots id book account me is = subst (λ (m : Me S Sides). Allows (HaveOneAmount {S = S}) slots id m 0 (λ n. n) (Agreed m)) (sym is) (compares slots id book account)
