-- Among users of different names the one of a name and a password is the one of that name, where the password is right.
use Rattle.std.proofs.Common.{◌≡◌, ℕ, zero, suc, ◌+◌, ◌<◌, ◌∙◌, inl, inr, Bool, true, false, ◌&&◌, List, [], ◌∷◌, length, get_or, Some, None, Option, cond, refl, sym, ap, arith}
use Rattle.std.specs.List.{All, AllByRecursion, IsDistinct, position, position_from}
use Rattle.std.specs.Str.{bytes_eq}
use Rattle.std.proofs.lemmas.Bool.{cases_lt}
use Rattle.std.proofs.lemmas.Iterator.Adapters.{position_from-zero}
use Rattle.std.proofs.lemmas.List.{get_or_default}
use Rattle.std.proofs.lemmas.List.Quantifiers.{position-Some}
use Rattle.std.proofs.lemmas.List.Sums.{position_or_len_is}
use Rattle.std.proofs.Math.Bool.{and-false}
use Rattle.ofx_types.proofs.Bytes.{bytes_eq_is, bytes_eq_self}
use Rattle.bank_model.specs.declared.setup.User.{User}
use Rattle.bank_model.proofs.DirectoryLaws.{position_at, position_nowhere, position_or_len_none}

none_parts : (b : Bool) (i : ℕ) (rest : Option ℕ) → cond b (Some i) rest ≡ None → (b ≡ false) × (rest ≡ None)
none_parts true i rest e = absurd cc
none_parts false i rest e = (refl, e)

none_pass : {X : Type 0} (p : X → Bool) (xs : List X) (i : ℕ) → position_from p i xs ≡ None → All (λ x. p x ≡ false) xs
none_pass p [] i e k d lt = absurd (omega (arith, lt))
none_pass p (x ∷ xs) i e zero d lt = (none_parts (p x) i _ e).0
none_pass p (x ∷ xs) i e (suc k) d lt = none_pass p xs (i + 1) (none_parts (p x) i _ e).1 k d (omega (arith, lt))

not_true : (b : Bool) → (b ≡ true → ⊥) → b ≡ false
not_true true h = absurd (h refl)
not_true false h = refl

true_is_false : true ≡ false → ⊥
true_is_false e = absurd cc

first_differs : {K : Type 0} (e : K → K → Bool) (x : K) (xs : List K) (j : ℕ) (d : K) → j < length xs → AllByRecursion (λ y. e x y ≡ false) xs → e x (get_or xs j d) ≡ false
first_differs e x [] j d lt all = absurd (omega (arith, lt))
first_differs e x (y ∷ ys) zero d lt all = all.0
first_differs e x (y ∷ ys) (suc j) d lt all = first_differs e x ys j d (omega (arith, lt)) all.1

differ : {K : Type 0} (e : K → K → Bool) (xs : List K) (i j : ℕ) (d : K) → i < j → j < length xs → IsDistinct e xs → e (get_or xs i d) (get_or xs j d) ≡ false
unfolding IsDistinct
differ e [] i j d lt in_range all = absurd (omega (arith, in_range))
differ e (x ∷ xs) i zero d lt in_range all = absurd (omega (arith, lt))
differ e (x ∷ xs) zero (suc j) d lt in_range all = first_differs e x xs j d (omega (arith, in_range)) all.0
differ e (x ∷ xs) (suc i) (suc j) d lt in_range all = differ e xs i j d (omega (arith, lt)) (omega (arith, in_range)) all.1

module _ (name pass : List ℕ) (users : List User) where
  abbrev named : User → Bool
  named user = bytes_eq user.name name

  abbrev signs : User → Bool
  signs user = bytes_eq user.name name && bytes_eq user.pass pass

  refused : (user : User) → named user ≡ false → signs user ≡ false
  refused user h = ap (λ (b : Bool). b && bytes_eq user.pass pass) h

  pub nobody_signs : position (λ (user : User). bytes_eq user.name name) users ≡ None → position (λ (user : User). bytes_eq user.name name && bytes_eq user.pass pass) users ≡ None
  nobody_signs none =
      let all = none_pass named users 0 (sym (position_from-zero named users) ∙ none) in
      position_nowhere signs users (position_or_len_none signs users (λ k d lt. refused _ (all k d lt)))

  module _ (distinct : IsDistinct (λ (a b : User). bytes_eq a.name b.name) users) (index : ℕ)
      (found : position (λ (user : User). bytes_eq user.name name) users ≡ Some index) where
    others : (k : ℕ) (d : User) → k < length users → (k ≡ index → ⊥) → named (get_or users k d) ≡ false
    others k d lt other =
        let at = position-Some named users index d found in
        elim (cases_lt k index) [
          | inl below ↦ at.2 k below
          | inr from ↦ elim (cases_lt index k) [
            | inl above ↦ not_true _ (λ same. true_is_false (sym (bytes_eq_self (get_or users index d).name)
                ∙ ap (bytes_eq (get_or users index d).name) (bytes_eq_is _ _ at.1 ∙ sym (bytes_eq_is _ _ same))
                ∙ differ (λ (a b : User). bytes_eq a.name b.name) users index k d above lt distinct))
            | inr to ↦ absurd (other (omega arith))
          ]
        ]

    pub one_signs : (d : User) → bytes_eq (get_or users index d).pass pass ≡ true
        → position (λ (user : User). bytes_eq user.name name && bytes_eq user.pass pass) users ≡ Some index
    one_signs d right =
        let at = position-Some named users index d found in
        position_at signs users index at.0 (position_or_len_is signs users index d (omega (arith, at.0))
        (λ k lt. refused _ (at.2 k lt)) (λ _. rw (at.1, right) refl))

    pub none_signs : (d : User) → bytes_eq (get_or users index d).pass pass ≡ false
        → position (λ (user : User). bytes_eq user.name name && bytes_eq user.pass pass) users ≡ None
    none_signs d wrong =
        let at = position-Some named users index d found in
        position_nowhere signs users (position_or_len_none signs users (λ k e lt. elim (cases_lt k index) [
          | inl below ↦ refused _ (others k e lt (λ same. omega (arith, same, below)))
          | inr from ↦ elim (cases_lt index k) [
            | inl above ↦ refused _ (others k e lt (λ same. omega (arith, same, above)))
            | inr to ↦
                let same : k ≡ index = omega arith in
                rw (same, get_or_default users index e d at.0, wrong) (and-false _)
          ]
        ]))
