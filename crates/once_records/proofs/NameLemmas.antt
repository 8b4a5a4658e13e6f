-- What the names in the table tell of kept replies.
use Rattle.std.proofs.Common.{◌≡◌, ℕ, ◌+◌, ◌<◌, arith, Bool, true, false, cond, not, eqb, ◌&&◌, List, [], ◌∷◌, ◌++◌, map, filter, Option, None, Some, refl, sym, ap, subst, ◌∙◌, is_some}
use Rattle.std.specs.Cmp.{IsEquivalence, nat_eq_equiv}
use Rattle.std.specs.Cmp.Lexicographic.{nat_list_eq_equiv}
use Rattle.std.specs.List.{AllByRecursion, IsDistinct, find}
use Rattle.std.specs.List.Sorted.{IsPermutation}
use Rattle.std.specs.Map.{lookup, remove_entry, set_value}
use Rattle.std.specs.Option.{option_map, MatchOption}
use Rattle.std.specs.Str.{bytes_eq}
use Rattle.std.proofs.lemmas.Bool.{and_parts}
use Rattle.std.proofs.lemmas.List.{map-append}
use Rattle.std.proofs.lemmas.List.Elements.{All-from_recursion, recursion_from_All}
use Rattle.std.proofs.lemmas.List.Sorted.{All-permutation, IsPermutation-map}
use Rattle.std.proofs.lemmas.Map.Entries.{none_past_head}
use Rattle.std.proofs.lemmas.Map.Keys.{IsDistinct-head, IsDistinct-tail, IsDistinct-cons, IsDistinct-IsPermutation}
use Rattle.ofx_types.specs.declared.number.UserId.{UserId}
use Rattle.bank_model.specs.declared.once.KeptReply.{KeptReply}
use Rattle.bank_model.specs.Once.{is_named, reply_kept, released}
use Rattle.once_records.specs.declared.name.Name.{Name}
use Rattle.once_records.specs.declared.replies.Numbered.{Numbered}
use Rattle.once_records.specs.RecordsView.{KeptOnce}
use Rattle.once_records.specs.Names.{name_of, same_name, reply_named, number_of, ordered_by, in_order_kept, AreNumbered}
use Rattle.once_records.proofs.OnceLemmas.{KeptOnce-push, KeptOnce-released}
use Rattle.once_records.proofs.OrderLemmas.{above, higher, ordered_filter, ordered_permuted, ordered_last, distinct_filter}

pub flips : (user n : ℕ) (uid m : List ℕ) → (eqb user n && bytes_eq uid m) ≡ (eqb n user && bytes_eq m uid)
flips user n uid m = (λ i. nat_eq_equiv.symm user n i && nat_list_eq_equiv.symm uid m i)

names_alike : IsEquivalence same_name
names_alike = record {
  refl = λ x. (λ i. nat_eq_equiv.refl x.user i && nat_list_eq_equiv.refl x.uid i);
  symm = λ x y. flips x.user y.user x.uid y.uid;
  congr = λ x y z same. let parts = and_parts (eqb x.user y.user) (bytes_eq x.uid y.uid) same in
      (λ i. nat_eq_equiv.congr x.user y.user z.user parts.0 i && nat_list_eq_equiv.congr x.uid y.uid z.uid parts.1 i);
}

-- ---- lists

find-map : {A B : Type 0} (f : A → B) (p : B → Bool) (xs : List A) → find p (map f xs) ≡ option_map f (find (λ x. p (f x)) xs)
find-map f p [] = refl
find-map {A} f p (x ∷ xs) =
    elim (p (f x)) as (λ b. cond b (Some (f x)) (find p (map f xs)) ≡ option_map f (cond b (Some x) (find (λ x. p (f x)) xs))) [
      | true ↦ refl
      | false ↦ find-map f p xs
    ]

filter-map : {A B : Type 0} (f : A → B) (p : B → Bool) (xs : List A) → filter p (map f xs) ≡ map f (filter (λ x. p (f x)) xs)
filter-map f p [] = refl
filter-map {A} f p (x ∷ xs) =
    elim (p (f x)) as (λ b. cond b (f x ∷ filter p (map f xs)) (filter p (map f xs)) ≡ map f (cond b (x ∷ filter (λ x. p (f x)) xs) (filter (λ x. p (f x)) xs))) [
      | true ↦ ap (λ rest. f x ∷ rest) (filter-map f p xs)
      | false ↦ filter-map f p xs
    ]

abbrev first : {A : Type 0} → List A → Option A
first [] = None
first (x ∷ xs) = Some x

find_first : {A : Type 0} (p : A → Bool) (xs : List A) → find p xs ≡ first (filter p xs)
find_first p [] = refl
find_first {A} p (x ∷ xs) =
    elim (p x) as (λ b. cond b (Some x) (find p xs) ≡ first (cond b (x ∷ filter p xs) (filter p xs))) [
      | true ↦ refl
      | false ↦ find_first p xs
    ]

filter_none : {A : Type 0} (p : A → Bool) (xs : List A) → AllByRecursion (λ x. p x ≡ false) xs → filter p xs ≡ []
filter_none p [] none = refl
filter_none p (x ∷ xs) none = ap (λ b. cond b (x ∷ filter p xs) (filter p xs)) none.0 ∙ filter_none p xs none.1

filter_all : {A : Type 0} (p : A → Bool) (xs : List A) → AllByRecursion (λ x. p x ≡ false) xs → filter (λ x. not (p x)) xs ≡ xs
filter_all p [] none = refl
filter_all p (x ∷ xs) none =
    ap (λ b. cond (not b) (x ∷ filter (λ z. not (p z)) xs) (filter (λ z. not (p z)) xs)) none.0 ∙ ap (λ rest. x ∷ rest) (filter_all p xs none.1)

-- ---- the replies under names

abbrev pub Held : Type 0
Held = Name × Numbered

abbrev names : List Held → List Name
names held = map (λ (one : Held). one.0) held

abbrev numbers : List Held → List ℕ
numbers held = map number_of held

abbrev is_under : Name → Held → Bool
is_under name one = same_name name one.0

-- At most one reply is kept under a name.
single : (name : Name) (held : List Held) → IsDistinct same_name (names held) → ordered_by number_of (filter (is_under name) held) ≡ filter (is_under name) held
single name [] apart = refl
single name (one ∷ held) apart = by (same_name name one.0) refl (single name held (IsDistinct-tail same_name one.0 (names held) apart))
  where
    by : (b : Bool) → same_name name one.0 ≡ b → ordered_by number_of (filter (is_under name) held) ≡ filter (is_under name) held
        → ordered_by number_of (cond b (one ∷ filter (is_under name) held) (filter (is_under name) held)) ≡ cond b (one ∷ filter (is_under name) held) (filter (is_under name) held)
    by true is rest =
        let none : filter (is_under name) held ≡ [] = filter_none (is_under name) held (none_past_head names_alike name one held apart is) in
        subst (λ (l : List Held). ordered_by number_of (one ∷ l) ≡ one ∷ l) (sym none) refl
    by false is rest = rest

looked_up : (name : Name) (held : List Held) → lookup (same_name name) held ≡ option_map (λ (one : Held). one.1) (find (is_under name) held)
looked_up name [] = refl
looked_up name (one ∷ held) =
    elim (same_name name one.0) as (λ b. cond b (Some one.1) (lookup (same_name name) held) ≡ option_map (λ (one : Held). one.1) (cond b (Some one) (find (is_under name) held))) [
      | true ↦ refl
      | false ↦ looked_up name held
    ]

reply_in : (one : Option Held) → option_map (λ (reply : KeptReply). reply.reply) (option_map reply_named one) ≡ option_map (λ (kept : Numbered). kept.reply) (option_map (λ (one : Held). one.1) one)
reply_in None = refl
reply_in (Some one) = refl

found_in_order : (name : Name) (held : List Held) → IsDistinct eqb (numbers held) → IsDistinct same_name (names held) → find (is_under name) (ordered_by number_of held) ≡ find (is_under name) held
found_in_order name held apart own =
    find_first (is_under name) (ordered_by number_of held)
    ∙ ap first (sym (ordered_filter number_of (is_under name) held apart) ∙ single name held own)
    ∙ sym (find_first (is_under name) held)

-- The reply that is kept for a file is the one under its name.
pub kept_under : (user : UserId) (file : List ℕ) (next : ℕ) (held : List Held) → AreNumbered next held
    → reply_kept user file (in_order_kept held) ≡ option_map (λ (kept : Numbered). kept.reply) (lookup (same_name (name_of user file)) held)
kept_under user file next held right =
    let name = name_of user file in
    ap (option_map (λ (reply : KeptReply). reply.reply))
    (find-map reply_named (is_named user file) (ordered_by number_of held)
    ∙ (λ i. option_map reply_named (find (λ (one : Held). flips one.0.user user.0 one.0.uid file i) (ordered_by number_of held)))
    ∙ ap (option_map reply_named) (found_in_order name held right.numbers right.names))
    ∙ reply_in (find (is_under name) held)
    ∙ ap (option_map (λ (kept : Numbered). kept.reply)) (sym (looked_up name held))

is_some-map : {A B : Type 0} (f : A → B) (o : Option A) → is_some (option_map f o) ≡ is_some o
is_some-map f None = refl
is_some-map f (Some x) = refl

pub there_under : (user : UserId) (file : List ℕ) (next : ℕ) (held : List Held) → AreNumbered next held
    → is_some (lookup (same_name (name_of user file)) held) ≡ is_some (reply_kept user file (in_order_kept held))
there_under user file next held right =
    sym (ap is_some (kept_under user file next held right) ∙ is_some-map (λ (kept : Numbered). kept.reply) (lookup (same_name (name_of user file)) held))

-- ---- in another order

pub kept_reordered : (next : ℕ) (held moved : List Held) → IsPermutation held moved → AreNumbered next held → in_order_kept moved ≡ in_order_kept held
kept_reordered next held moved is right = ap (map reply_named) (ordered_permuted number_of held moved is right.numbers)

pub numbered_reordered : (next : ℕ) (held moved : List Held) → IsPermutation held moved → AreNumbered next held → AreNumbered next moved
numbered_reordered next held moved is right = record {
  below = recursion_from_All below moved (All-permutation below held moved is (All-from_recursion below held right.below));
  numbers = IsDistinct-IsPermutation eqb nat_eq_equiv.symm (numbers held) (numbers moved) (IsPermutation-map number_of held moved is) right.numbers;
  names = IsDistinct-IsPermutation same_name names_alike.symm (names held) (names moved) (IsPermutation-map (λ (one : Held). one.0) held moved is) right.names;
  kept = subst KeptOnce (sym (kept_reordered next held moved is right)) right.kept;
}
  where
    below : Held → Type 0
    below one = number_of one < next

-- ---- one more reply

module _ (user : UserId) (file reply : List ℕ) (next : ℕ) (held : List Held) (right : AreNumbered next held) where
  abbrev pub more : Held
  more = (name_of user file, record { number = next; reply = reply })

  last : in_order_kept (more ∷ held) ≡ in_order_kept held ++ record { user = user; file = file; reply = reply } ∷ []
  last = ap (map reply_named) (ordered_last number_of more held right.below) ∙ map-append reply_named (ordered_by number_of held) (more ∷ [])

  module _ (absent : reply_kept user file (in_order_kept held) ≡ None) where
    unheld : (one : Option Held) → option_map (λ (kept : Numbered). kept.reply) (option_map (λ (one : Held). one.1) one) ≡ None → one ≡ None
    unheld None none = refl
    unheld (Some one) none = cc

    no_name : (name : Name) (held : List Held) → find (is_under name) held ≡ None → AllByRecursion (λ (n : Name). same_name name n ≡ false) (names held)
    no_name name [] none = tt
    no_name name (one ∷ held) none =
        (elim (same_name name one.0) as (λ b. cond b (Some one) (find (is_under name) held) ≡ None → (b ≡ false) × AllByRecursion (λ (n : Name). same_name name n ≡ false) (names held)) [
          | true ↦ (λ none. cc)
          | false ↦ (λ none. (refl, no_name name held none))
        ]) none

    numbered : AreNumbered (next + 1) (more ∷ held)
    numbered = record {
      below = (omega arith, higher number_of next held right.below);
      numbers = IsDistinct-cons eqb next (numbers held) (above number_of next held right.below) right.numbers;
      names = IsDistinct-cons same_name (name_of user file) (names held)
          (no_name (name_of user file) held (unheld (find (is_under (name_of user file)) held)
          (ap (option_map (λ (kept : Numbered). kept.reply)) (sym (looked_up (name_of user file) held)) ∙ sym (kept_under user file next held right) ∙ absent)))
          right.names;
      kept = subst KeptOnce (sym last) (KeptOnce-push (in_order_kept held) (record { user = user; file = file; reply = reply }) right.kept absent);
    }

    -- What putting it under its name leaves.
    pub new_entry : (moved : List Held) (name : Name) (given : List ℕ) → name ≡ name_of user file → given ≡ reply → (before : Option Numbered) → before ≡ lookup (same_name name) held
        → MatchOption before (IsPermutation ((name, record { number = next; reply = given }) ∷ held) moved) (λ _. moved ≡ set_value (same_name name) held (record { number = next; reply = given }))
        → IsPermutation (more ∷ held) moved
    new_entry moved name given named same before found put =
        let none : before ≡ None = found ∙ ap (λ (n : Name). lookup (same_name n) held) named ∙ looked_up (name_of user file) held ∙ unmapped (find (is_under (name_of user file)) held) unfound in
        let put_new : IsPermutation ((name, record { number = next; reply = given }) ∷ held) moved =
        subst (λ (o : Option Numbered). MatchOption o (IsPermutation ((name, record { number = next; reply = given }) ∷ held) moved) (λ _. moved ≡ set_value (same_name name) held (record { number = next; reply = given }))) none put in
        subst (λ (e : Held). IsPermutation (e ∷ held) moved) (λ i. (named i, record { number = next; reply = same i })) put_new
      where
        unfound : find (is_under (name_of user file)) held ≡ None
        unfound = unheld (find (is_under (name_of user file)) held)
            (ap (option_map (λ (kept : Numbered). kept.reply)) (sym (looked_up (name_of user file) held)) ∙ sym (kept_under user file next held right) ∙ absent)

        unmapped : (one : Option Held) → one ≡ None → option_map (λ (one : Held). one.1) one ≡ None
        unmapped one none = ap (option_map (λ (one : Held). one.1)) none

    pub numbered_more : (moved : List Held) → IsPermutation (more ∷ held) moved → AreNumbered (next + 1) moved
    numbered_more moved is = numbered_reordered (next + 1) (more ∷ held) moved is numbered

    pub kept_more : (moved : List Held) → IsPermutation (more ∷ held) moved → in_order_kept moved ≡ in_order_kept held ++ record { user = user; file = file; reply = reply } ∷ []
    kept_more moved is = kept_reordered (next + 1) (more ∷ held) moved is numbered ∙ last

-- ---- without a reply

removed : (name : Name) (held : List Held) → IsDistinct same_name (names held) → remove_entry (same_name name) held ≡ filter (λ one. not (is_under name one)) held
removed name [] apart = refl
removed name (one ∷ held) apart = by (same_name name one.0) refl (removed name held (IsDistinct-tail same_name one.0 (names held) apart))
  where
    by : (b : Bool) → same_name name one.0 ≡ b → remove_entry (same_name name) held ≡ filter (λ one. not (is_under name one)) held
        → cond b held (one ∷ remove_entry (same_name name) held) ≡ cond (not b) (one ∷ filter (λ one. not (is_under name one)) held) (filter (λ one. not (is_under name one)) held)
    by true is rest = sym (filter_all (is_under name) held (none_past_head names_alike name one held apart is))
    by false is rest = ap (λ (l : List Held). one ∷ l) rest

all_left : {A : Type 0} (P : A → Type 0) (p : A → Bool) (xs : List A) → AllByRecursion P xs → AllByRecursion P (filter p xs)
all_left P p [] all = tt
all_left {A} P p (x ∷ xs) all =
    elim (p x) as (λ b. AllByRecursion P (cond b (x ∷ filter p xs) (filter p xs))) [
      | true ↦ (all.0, all_left P p xs all.1)
      | false ↦ all_left P p xs all.1
    ]

names_left : (P : Name → Type 0) (p : Held → Bool) (held : List Held) → AllByRecursion P (names held) → AllByRecursion P (names (filter p held))
names_left P p [] all = tt
names_left P p (one ∷ held) all =
    elim (p one) as (λ b. AllByRecursion P (names (cond b (one ∷ filter p held) (filter p held)))) [
      | true ↦ (all.0, names_left P p held all.1)
      | false ↦ names_left P p held all.1
    ]

own_left : (p : Held → Bool) (held : List Held) → IsDistinct same_name (names held) → IsDistinct same_name (names (filter p held))
own_left p [] apart = apart
own_left p (one ∷ held) apart =
    let rest = own_left p held (IsDistinct-tail same_name one.0 (names held) apart) in
    elim (p one) as (λ b. IsDistinct same_name (names (cond b (one ∷ filter p held) (filter p held)))) [
      | true ↦ IsDistinct-cons same_name one.0 (names (filter p held)) (names_left (λ n. same_name one.0 n ≡ false) p held (IsDistinct-head same_name one.0 (names held) apart)) rest
      | false ↦ rest
    ]

module _ (user : UserId) (file : List ℕ) (next : ℕ) (held : List Held) (right : AreNumbered next held) where
  abbrev stays : Held → Bool
  stays one = not (is_under (name_of user file) one)

  fewer : in_order_kept (filter stays held) ≡ released user file (in_order_kept held)
  fewer =
      ap (map reply_named) (ordered_filter number_of stays held right.numbers)
      ∙ (λ i. map reply_named (filter (λ (one : Held). not (flips user.0 one.0.user file one.0.uid i)) (ordered_by number_of held)))
      ∙ sym (filter-map reply_named (λ (reply : KeptReply). not (is_named user file reply)) (ordered_by number_of held))

  left : AreNumbered next (filter stays held)
  left = record {
    below = all_left (λ (one : Held). number_of one < next) stays held right.below;
    numbers = distinct_filter number_of stays held right.numbers;
    names = own_left stays held right.names;
    kept = subst KeptOnce (sym fewer) (KeptOnce-released user file (in_order_kept held) right.kept);
  }

  module _ (moved : List Held) (is : IsPermutation (remove_entry (same_name (name_of user file)) held) moved) where
    from_left : IsPermutation (filter stays held) moved
    from_left = subst (λ (l : List Held). IsPermutation l moved) (removed (name_of user file) held right.names) is

    pub numbered_less : AreNumbered next moved
    numbered_less = numbered_reordered next (filter stays held) moved from_left left

    pub kept_less : in_order_kept moved ≡ released user file (in_order_kept held)
    kept_less = kept_reordered next (filter stays held) moved from_left left ∙ fewer
