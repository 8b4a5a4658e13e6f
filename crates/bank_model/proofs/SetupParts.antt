-- Users, kinds, owners and accounts: what is read of a line is spelled so, and what is spelled so is read.
use Rattle.std.proofs.Common.{◌≡◌, ℕ, zero, suc, ◌^◌, ◌<◌, ◌⊎◌, Bool, true, false, cond, not, eqb, ◌==◌, List, [], ◌∷◌, ◌++◌, length, get_or, map, codes, Option, None, Some, ℤ, pos, negsuc, ◌≤ℤ◌, refl, sym, ap, ◌∙◌, subst, append_assoc, arith, inl, inr}
use Rattle.std.specs.Fmt.{decimal, signed_decimal}
use Rattle.std.specs.List.{position, AllByRecursion, IsDistinct, list_any, list_all, position_or_len}
use Rattle.std.specs.Str.{bytes_eq}
use Rattle.std.proofs.lemmas.Bool.{not-false, not_from_true, not_from_false, or_parts, or_from, and_from, lt-ltb, ne_eqb}
use Rattle.std.proofs.lemmas.List.{append-nil, map-append, length-map, get_or-map}
use Rattle.std.proofs.lemmas.List.Quantifiers.{position-Some}
use Rattle.std.proofs.lemmas.List.Splits.{join_with_byte-slice_split, length-slice_split}
use Rattle.std.proofs.lemmas.Int.{ints}
use Rattle.ofx_types.specs.declared.account.AcctKind.{AcctKind}
use Rattle.ofx_types.specs.declared.account.AcctKind.TheVariants.{Checking, Savings, MoneyMarket, CreditLine}
use Rattle.ofx_types.specs.declared.number.UserId.{UserId}
use Rattle.ofx_types.specs.AccountForm.{kind_word}
use Rattle.ofx_types.proofs.Bytes.{bytes_eq_is, bytes_eq_self}
use Rattle.bank_model.specs.declared.setup.User.{User}
use Rattle.bank_model.specs.declared.setup.AccountLine.{AccountLine}
use Rattle.bank_model.specs.SetupForm.{is_word_byte, IsWord, line_of, user_line, name_of, account_line, IsAccountOf, IsUser}
use Rattle.bank_model.specs.SetupReading.{◌>>=◌, unless, cut, is_word_form, user_at, kind_at, user_at_index, user_named, is_listed, owner_more, owners_from, words_of, owners_at, number_of, account_at}
use Rattle.bank_model.proofs.SetupWords.{bind_some, unless_some, chosen_some, some_is, is_free, cut_there, cut_nowhere, cut_back, word_parts, word_passes, word_free, free_append, plain_free, words_next, words_last}
use Rattle.bank_model.proofs.SetupNumbers.{number_back, number_there, decimal_free}

-- ---- lists of different items

-- what holds of each item and of one more
pub all_push : {A : Type 0} (P : A → Type 0) (xs : List A) (y : A) → AllByRecursion P xs → P y → AllByRecursion P (xs ++ y ∷ [])
all_push P [] y all h = (h, tt)
all_push P (x ∷ xs) y all h = (all.0, all_push P xs y all.1 h)

pub distinct_push : {K : Type 0} (e : K → K → Bool) (xs : List K) (y : K) → IsDistinct e xs → list_any (λ x. e x y) xs ≡ false → IsDistinct e (xs ++ y ∷ [])
unfolding IsDistinct
distinct_push e [] y d h = (tt, tt)
distinct_push e (x ∷ xs) y d h =
    let parts = or_parts (e x y) (list_any (λ z. e z y) xs) h in
    (all_push (λ z. e x z ≡ false) xs y d.0 parts.0, distinct_push e xs y d.1 parts.1)

pub all_at : {A : Type 0} (P : A → Type 0) (xs : List A) (y : A) (ys : List A) → AllByRecursion P (xs ++ y ∷ ys) → P y
all_at P [] y ys all = all.0
all_at P (x ∷ xs) y ys all = all_at P xs y ys all.1

-- no item before one of different items equals it
pub distinct_prefix : {K : Type 0} (e : K → K → Bool) (xs : List K) (y : K) (ys : List K) → IsDistinct e (xs ++ y ∷ ys) → list_any (λ x. e x y) xs ≡ false
unfolding IsDistinct
distinct_prefix e [] y ys d = refl
distinct_prefix e (x ∷ xs) y ys d = or_from _ _ (all_at (λ z. e x z ≡ false) xs y ys d.0) (distinct_prefix e xs y ys d.1)

-- ---- the line of a user

pub user_back : (fields : List ℕ) (u : User) → user_at fields ≡ Some u → (codes "USER" ++ 32 ∷ fields ≡ user_line u) × IsUser u
unfolding user_at
user_back fields u h =
    let a = bind_some (cut 32 fields) (λ parts. unless (not (is_word_form parts.0)) (unless (not (is_word_form parts.1)) (Some (record { name = parts.0; pass = parts.1 })))) u h in
    let b = unless_some (not (is_word_form a.0.0)) (unless (not (is_word_form a.0.1)) (Some (record { name = a.0.0; pass = a.0.1 }))) u a.2 in
    let d = unless_some (not (is_word_form a.0.1)) (Some (record { name = a.0.0; pass = a.0.1 })) u b.1 in
    let made : User = record { name = a.0.0; pass = a.0.1 } in
    let words : IsUser made = record { name = word_parts a.0.0 (not-false _ b.0); pass = word_parts a.0.1 (not-false _ d.0) } in
    subst (λ (v : User). (codes "USER" ++ 32 ∷ fields ≡ user_line v) × IsUser v) (some_is made u d.1) (ap (λ (l : List ℕ). codes "USER" ++ 32 ∷ l) (cut_back 32 fields a.0 a.1), words)

pub user_there : (u : User) → IsUser u → user_at (u.name ++ 32 ∷ u.pass) ≡ Some u
unfolding user_at
user_there u is =
    let name : not (is_word_form u.name) ≡ false = not_from_true _ (word_passes u.name is.name) in
    let pass : not (is_word_form u.pass) ≡ false = not_from_true _ (word_passes u.pass is.pass) in
    rw (cut_there 32 u.name u.pass (word_free 32 u.name (omega arith) is.name), name, pass) refl

-- ---- kinds

chosen_or : {A : Type 0} (test : Bool) (x y : A) (rest : Option A) → cond test (Some x) rest ≡ Some y → ((test ≡ true) × (x ≡ y)) ⊎ (rest ≡ Some y)
chosen_or true x y rest h = inl (refl, cc)
chosen_or false x y rest h = inr h

kind_is : (word : List ℕ) (text : List ℕ) (k l : AcctKind) → text ≡ kind_word k → (bytes_eq word text ≡ true) × (k ≡ l) → word ≡ kind_word l
kind_is word text k l spelled h = bytes_eq_is word text h.0 ∙ spelled ∙ ap kind_word h.1

pub kind_back : (word : List ℕ) (k : AcctKind) → kind_at word ≡ Some k → word ≡ kind_word k
kind_back word k h =
    elim (chosen_or (bytes_eq word (codes "CHECKING")) Checking k (cond (bytes_eq word (codes "SAVINGS")) (Some Savings) (cond (bytes_eq word (codes "MONEYMRKT")) (Some MoneyMarket) (cond (bytes_eq word (codes "CREDITLINE")) (Some CreditLine) None))) h) [
      | inl it ↦ kind_is word (codes "CHECKING") Checking k refl it
      | inr h1 ↦ elim (chosen_or (bytes_eq word (codes "SAVINGS")) Savings k (cond (bytes_eq word (codes "MONEYMRKT")) (Some MoneyMarket) (cond (bytes_eq word (codes "CREDITLINE")) (Some CreditLine) None)) h1) [
        | inl it ↦ kind_is word (codes "SAVINGS") Savings k refl it
        | inr h2 ↦ elim (chosen_or (bytes_eq word (codes "MONEYMRKT")) MoneyMarket k (cond (bytes_eq word (codes "CREDITLINE")) (Some CreditLine) None) h2) [
          | inl it ↦ kind_is word (codes "MONEYMRKT") MoneyMarket k refl it
          | inr h3 ↦ kind_is word (codes "CREDITLINE") CreditLine k refl (chosen_some (bytes_eq word (codes "CREDITLINE")) CreditLine k h3)
        ]
      ]
    ]

kind_there : (k : AcctKind) → kind_at (kind_word k) ≡ Some k
kind_there Checking = refl
kind_there Savings = refl
kind_there MoneyMarket = refl
kind_there CreditLine = refl

kind_plain : (k : AcctKind) → list_all is_word_byte (kind_word k) ≡ true
kind_plain Checking = refl
kind_plain Savings = refl
kind_plain MoneyMarket = refl
kind_plain CreditLine = refl

kind_free : (mark : ℕ) (k : AcctKind) → mark < 33 → is_free mark (kind_word k) ≡ true
kind_free mark k low = plain_free mark (kind_word k) low (kind_plain k)

-- ---- words in a row

pub free_joined : (mark : ℕ) (words : List (List ℕ)) → eqb 32 mark ≡ false → AllByRecursion (λ word. is_free mark word ≡ true) words → is_free mark (line_of words) ≡ true
free_joined mark [] other all = refl
free_joined mark (w ∷ []) other all = all.0
free_joined mark (w ∷ v ∷ ws) other all = free_append mark w (32 ∷ line_of (v ∷ ws)) all.0 (and_from _ _ (not_from_false _ other) (free_joined mark (v ∷ ws) other all.1))

words_joined : (word : List ℕ) (words : List (List ℕ)) → AllByRecursion (λ w. is_free 32 w ≡ true) (word ∷ words) → words_of (line_of (word ∷ words)) ≡ word ∷ words
words_joined w [] all = words_last w (sym (cut_nowhere 32 w all.0))
words_joined w (v ∷ ws) all = words_next (w ++ 32 ∷ line_of (v ∷ ws)) w (line_of (v ∷ ws)) (sym (cut_there 32 w (line_of (v ∷ ws)) all.0)) ∙ ap (λ (l : List (List ℕ)). w ∷ l) (words_joined v ws all.1)

-- a word before some words
line_more : (word : List ℕ) (words : List (List ℕ)) → 0 < length words → line_of (word ∷ words) ≡ word ++ 32 ∷ line_of words
line_more w [] some = absurd (omega (arith, some))
line_more w (v ∷ ws) some = refl

-- ---- owners

nobody : User
nobody = record { name = []; pass = [] }

name_is : (users : List User) (i : ℕ) → i < length users → get_or (map (λ (user : User). user.name) users) i [] ≡ (get_or users i nobody).name
name_is users i lt = get_or-map (λ (user : User). user.name) users i nobody [] lt

at_offset : (found : Option ℕ) (o : UserId) → user_at_index found ≡ Some o → found ≡ Some o.0
at_offset None o h = absurd cc
at_offset (Some n) o h = ap (λ (u : UserId). Some u.0) (some_is (record { 0 = n }) o h)

pub named_back : (users : List User) (name : List ℕ) (o : UserId) → user_named users name ≡ Some o → (o.0 < length users) × (name_of users o ≡ name)
named_back users name o h =
    let found = unless_some (not (is_word_form name)) (user_at_index (position (λ (user : User). bytes_eq user.name name) users)) o h in
    let at = position-Some (λ (user : User). bytes_eq user.name name) users o.0 nobody (at_offset _ o found.1) in
    (at.0, name_is users o.0 at.0 ∙ bytes_eq_is _ _ at.1)

apart : (name : List ℕ) (u : User) (us : List User) (i : ℕ) → i < length us → AllByRecursion (λ (v : User). bytes_eq u.name v.name ≡ false) us → bytes_eq u.name (get_or (map (λ (user : User). user.name) us) i []) ≡ false
apart name u [] i lt all = absurd (omega (arith, lt))
apart name u (v ∷ vs) zero lt all = all.0
apart name u (v ∷ vs) (suc i) lt all = apart name u vs i (omega (arith, lt)) all.1

-- among users of different names, the first of a name is the user
index_there : (users : List User) (i : ℕ) → IsDistinct (λ (a b : User). bytes_eq a.name b.name) users → i < length users → position_or_len (λ (user : User). bytes_eq user.name (get_or (map (λ (u : User). u.name) users) i [])) users ≡ i
unfolding IsDistinct
index_there [] i d lt = absurd (omega (arith, lt))
index_there (u ∷ us) zero d lt = rw (bytes_eq_self u.name) refl
index_there (u ∷ us) (suc i) d lt =
    let below : i < length us = omega (arith, lt) in
    rw (apart [] u us i below d.0, index_there us i d.1 below) (omega arith)

name_word : (users : List User) (i : ℕ) → AllByRecursion IsUser users → i < length users → IsWord (get_or (map (λ (user : User). user.name) users) i [])
name_word [] i all lt = absurd (omega (arith, lt))
name_word (u ∷ us) zero all lt = all.0.name
name_word (u ∷ us) (suc i) all lt = name_word us i all.1 (omega (arith, lt))

pub named_there : (users : List User) (o : UserId) → AllByRecursion IsUser users → IsDistinct (λ (a b : User). bytes_eq a.name b.name) users → o.0 < length users → user_named users (name_of users o) ≡ Some o
named_there users o all d lt =
    rw (not_from_true _ (word_passes (name_of users o) (name_word users o.0 all lt)), index_there users o.0 d lt, lt-ltb _ _ lt) refl

-- owners are users, each once
pub record AreOwners (users : List User) (owners : List UserId) : Type 0 where
  pub named : AllByRecursion (λ (u : UserId). u.0 < length users) owners
  pub once : IsDistinct (λ (u v : UserId). u.0 == v.0) owners

pub owners_back : (users : List User) (owners : List UserId) (names : List (List ℕ)) (all : List UserId) → AreOwners users owners → owners_from users owners names ≡ Some all → (map (name_of users) all ≡ map (name_of users) owners ++ names) × AreOwners users all
unfolding owners_from
owners_back users owners [] all good h =
    let same : owners ≡ all = some_is owners all h in
    subst (λ (l : List UserId). (map (name_of users) l ≡ map (name_of users) owners ++ []) × AreOwners users l) same (sym (append-nil _), good)
owners_back users owners (name ∷ names) all good h =
    let a = bind_some (owner_more users owners name) (λ more. owners_from users more names) all h in
    let b = bind_some (user_named users name) (λ owner. unless (is_listed owner owners) (Some (owners ++ owner ∷ []))) a.0 a.1 in
    let d = unless_some (is_listed b.0 owners) (Some (owners ++ b.0 ∷ [])) a.0 b.2 in
    let more : owners ++ b.0 ∷ [] ≡ a.0 = some_is (owners ++ b.0 ∷ []) a.0 d.1 in
    let named = named_back users name b.0 b.1 in
    let longer : AreOwners users (owners ++ b.0 ∷ []) = record { named = all_push (λ (u : UserId). u.0 < length users) owners b.0 good.named named.0; once = distinct_push (λ (u v : UserId). u.0 == v.0) owners b.0 good.once d.0 } in
    let rest = owners_back users a.0 names all (subst (λ (l : List UserId). AreOwners users l) more longer) a.2 in
    let prefix : map (name_of users) a.0 ≡ map (name_of users) owners ++ name ∷ [] = ap (map (name_of users)) (sym more) ∙ map-append (name_of users) owners (b.0 ∷ []) ∙ ap (λ (n : List ℕ). map (name_of users) owners ++ n ∷ []) named.1 in
    (rest.0 ∙ ap (λ (l : List (List ℕ)). l ++ names) prefix ∙ append_assoc (map (name_of users) owners) (name ∷ []) names, rest.1)

pub owners_there : (users : List User) (owners more : List UserId) → AllByRecursion IsUser users → IsDistinct (λ (a b : User). bytes_eq a.name b.name) users → AreOwners users (owners ++ more) → owners_from users owners (map (name_of users) more) ≡ Some (owners ++ more)
unfolding owners_from
owners_there users owners [] all names good = ap (λ (l : List UserId). Some l) (sym (append-nil owners))
owners_there users owners (o ∷ os) all names good =
    let user : o.0 < length users = all_at (λ (u : UserId). u.0 < length users) owners o os good.named in
    let new : is_listed o owners ≡ false = distinct_prefix (λ (u v : UserId). u.0 == v.0) owners o os good.once in
    let one : owner_more users owners (name_of users o) ≡ Some (owners ++ o ∷ []) = rw (named_there users o all names user, new) refl in
    let grouped : (owners ++ o ∷ []) ++ os ≡ owners ++ o ∷ os = append_assoc owners (o ∷ []) os in
    rw one (owners_there users (owners ++ o ∷ []) os all names (subst (λ (l : List UserId). AreOwners users l) (sym grouped) good) ∙ ap (λ (l : List UserId). Some l) grouped)

pub names_free : (mark : ℕ) (users : List User) (owners : List UserId) → mark < 33 → AllByRecursion IsUser users → AllByRecursion (λ (u : UserId). u.0 < length users) owners → AllByRecursion (λ word. is_free mark word ≡ true) (map (name_of users) owners)
names_free mark users [] low all named = tt
names_free mark users (o ∷ os) low all named = (word_free mark _ low (name_word users o.0 all named.0), names_free mark users os low all named.1)

words_again : (words : List (List ℕ)) → 0 < length words → AllByRecursion (λ word. is_free 32 word ≡ true) words → words_of (line_of words) ≡ words
words_again [] some all = absurd (omega (arith, some))
words_again (w ∷ ws) some all = words_joined w ws all

-- ---- the line of an account

abbrev made : List ℕ → List ℕ → AcctKind → ℤ → List UserId → AccountLine
made bank number kind opening owners = record { name = record { bank = bank; number = number; kind = kind }; opening = record { 0 = opening }; owners = owners }

abbrev by_owners : List ℕ → List User → List ℕ → AcctKind → ℕ → List ℕ → Option AccountLine
by_owners bank users number kind opening names = owners_at users names >>= λ owners. Some (made bank number kind (pos opening) owners)

abbrev by_opening : List ℕ → List User → List ℕ → AcctKind → List ℕ → List ℕ → Option AccountLine
by_opening bank users number kind opening_word names = number_of opening_word >>= λ opening. by_owners bank users number kind opening names

abbrev by_kind : List ℕ → List User → List ℕ → List ℕ → List ℕ → List ℕ → Option AccountLine
by_kind bank users number kind_text opening_word names = unless (not (is_word_form number)) (kind_at kind_text) >>= λ kind. by_opening bank users number kind opening_word names

-- what follows `ACCT`
abbrev pub account_fields : List User → AccountLine → List ℕ
account_fields users a = a.name.number ++ 32 ∷ (kind_word a.name.kind ++ 32 ∷ (signed_decimal a.opening.0 ++ 32 ∷ line_of (map (name_of users) a.owners)))

pub account_line_is : (users : List User) (a : AccountLine) → 0 < length a.owners → account_line users a ≡ codes "ACCT" ++ 32 ∷ account_fields users a
account_line_is users a some =
    let more : line_of (signed_decimal a.opening.0 ∷ map (name_of users) a.owners) ≡ signed_decimal a.opening.0 ++ 32 ∷ line_of (map (name_of users) a.owners) = line_more _ _ (omega (arith, some, length-map a.owners (name_of users))) in
    ap (λ (l : List ℕ). codes "ACCT" ++ 32 ∷ (a.name.number ++ 32 ∷ (kind_word a.name.kind ++ 32 ∷ l))) more

pub account_back : (bank : List ℕ) (users : List User) (fields : List ℕ) (a : AccountLine) → account_at bank users fields ≡ Some a → (codes "ACCT" ++ 32 ∷ fields ≡ account_line users a) × IsAccountOf bank users a
unfolding account_at
account_back bank users fields a h =
    let n = bind_some (cut 32 fields) (λ n. cut 32 n.1 >>= λ k. cut 32 k.1 >>= λ o. by_kind bank users n.0 k.0 o.0 o.1) a h in
    let k = bind_some (cut 32 n.0.1) (λ k. cut 32 k.1 >>= λ o. by_kind bank users n.0.0 k.0 o.0 o.1) a n.2 in
    let o = bind_some (cut 32 k.0.1) (λ o. by_kind bank users n.0.0 k.0.0 o.0 o.1) a k.2 in
    let kind = bind_some (unless (not (is_word_form n.0.0)) (kind_at k.0.0)) (λ kind. by_opening bank users n.0.0 kind o.0.0 o.0.1) a o.2 in
    let word = unless_some (not (is_word_form n.0.0)) (kind_at k.0.0) kind.0 kind.1 in
    let opening = bind_some (number_of o.0.0) (λ opening. by_owners bank users n.0.0 kind.0 opening o.0.1) a kind.2 in
    let owners = bind_some (owners_at users o.0.1) (λ owners. Some (made bank n.0.0 kind.0 (pos opening.0) owners)) a opening.2 in
    let read : AccountLine = made bank n.0.0 kind.0 (pos opening.0) owners.0 in
    let none : AreOwners users [] = record { named = tt; once = unfold IsDistinct in tt } in
    let all = owners_back users [] (words_of o.0.1) owners.0 none owners.1 in
    let some : 0 < length owners.0 = omega (arith, length-map owners.0 (name_of users), ap length all.0, length-slice_split (λ b. b == 32) o.0.1) in
    let names : o.0.1 ≡ line_of (map (name_of users) owners.0) = sym (join_with_byte-slice_split 32 o.0.1) ∙ ap line_of (sym all.0) in
    let third : k.0.1 ≡ decimal opening.0 ++ 32 ∷ line_of (map (name_of users) owners.0) = cut_back 32 k.0.1 o.0 o.1 ∙ ap (λ (l : List ℕ). l ++ 32 ∷ o.0.1) (number_back o.0.0 opening.0 opening.1).0 ∙ ap (λ (l : List ℕ). decimal opening.0 ++ 32 ∷ l) names in
    let second : n.0.1 ≡ kind_word kind.0 ++ 32 ∷ (decimal opening.0 ++ 32 ∷ line_of (map (name_of users) owners.0)) = cut_back 32 n.0.1 k.0 k.1 ∙ ap (λ (l : List ℕ). l ++ 32 ∷ k.0.1) (kind_back k.0.0 kind.0 word.1) ∙ ap (λ (l : List ℕ). kind_word kind.0 ++ 32 ∷ l) third in
    let text : fields ≡ account_fields users read = cut_back 32 fields n.0 n.1 ∙ ap (λ (l : List ℕ). n.0.0 ++ 32 ∷ l) second in
    let line : codes "ACCT" ++ 32 ∷ fields ≡ account_line users read = ap (λ (l : List ℕ). codes "ACCT" ++ 32 ∷ l) text ∙ sym (account_line_is users read some) in
    let whole : IsAccountOf bank users read = record {
      bank = refl;
      number = word_parts n.0.0 (not-false _ word.0);
      opening = omega (arith, ints);
      owned = some;
      owners = all.1.named;
      once = all.1.once;
    } in
    subst (λ (b : AccountLine). (codes "ACCT" ++ 32 ∷ fields ≡ account_line users b) × IsAccountOf bank users b) (some_is read a owners.2) (line, whole)

cents : ℤ → ℕ
cents (pos n) = n
cents (negsuc n) = 0

cents_is : (z : ℤ) → pos 0 ≤ℤ z → z ≡ pos (cents z)
unfolding cents
cents_is (pos n) h = refl
cents_is (negsuc n) h = absurd (omega (arith, ints, h))

account_made : (bank number : List ℕ) (kind : AcctKind) (n : ℕ) (owners : List UserId) (users : List User) → IsWord number → n < 10 ^ 13 → 0 < length owners → AllByRecursion IsUser users → IsDistinct (λ (a b : User). bytes_eq a.name b.name) users → AreOwners users owners
    → account_at bank users (account_fields users (made bank number kind (pos n) owners)) ≡ Some (made bank number kind (pos n) owners)
unfolding account_at
account_made bank number kind n owners users word small some all names good =
    let passes : not (is_word_form number) ≡ false = not_from_true _ (word_passes number word) in
    let again : words_of (line_of (map (name_of users) owners)) ≡ map (name_of users) owners = words_again (map (name_of users) owners) (omega (arith, some, length-map owners (name_of users))) (names_free 32 users owners (omega arith) all good.named) in
    let read : owners_at users (line_of (map (name_of users) owners)) ≡ Some owners = ap (owners_from users []) again ∙ owners_there users [] owners all names good in
    rw (
      cut_there 32 number (kind_word kind ++ 32 ∷ (decimal n ++ 32 ∷ line_of (map (name_of users) owners))) (word_free 32 number (omega arith) word),
      cut_there 32 (kind_word kind) (decimal n ++ 32 ∷ line_of (map (name_of users) owners)) (kind_free 32 kind (omega arith)),
      cut_there 32 (decimal n) (line_of (map (name_of users) owners)) (decimal_free 32 n (omega arith) small),
      passes,
      kind_there kind,
      number_there n small,
      read,
    ) refl

pub account_there : (bank : List ℕ) (users : List User) (a : AccountLine) → IsAccountOf bank users a → a.opening.0 ≤ℤ pos 9999999999999 → AllByRecursion IsUser users → IsDistinct (λ (b c : User). bytes_eq b.name c.name) users
    → account_at bank users (account_fields users a) ≡ Some a
account_there bank users a is most all names =
    let n_is : a.opening.0 ≡ pos (cents a.opening.0) = cents_is a.opening.0 is.opening in
    let small : cents a.opening.0 < 10 ^ 13 = omega (arith, ints, most, n_is) in
    let at_cents = account_made bank a.name.number a.name.kind (cents a.opening.0) a.owners users is.number small is.owned all names (record { named = is.owners; once = is.once }) in
    let at_opening : account_at bank users (account_fields users a) ≡ Some (made bank a.name.number a.name.kind a.opening.0 a.owners) = subst (λ (z : ℤ). account_at bank users (account_fields users (made bank a.name.number a.name.kind z a.owners)) ≡ Some (made bank a.name.number a.name.kind z a.owners)) (sym n_is) at_cents in
    at_opening ∙ ap (λ (b : List ℕ). Some (made b a.name.number a.name.kind a.opening.0 a.owners)) (sym is.bank)

-- no LF or CR is in a line
pub account_free : (mark : ℕ) (bank : List ℕ) (users : List User) (a : AccountLine) → mark < 32 → is_free mark (codes "ACCT") ≡ true → IsAccountOf bank users a → a.opening.0 ≤ℤ pos 9999999999999 → AllByRecursion IsUser users → is_free mark (account_line users a) ≡ true
account_free mark bank users a low key is most all =
    let n_is : a.opening.0 ≡ pos (cents a.opening.0) = cents_is a.opening.0 is.opening in
    let small : cents a.opening.0 < 10 ^ 13 = omega (arith, ints, most, n_is) in
    let opening : is_free mark (signed_decimal a.opening.0) ≡ true = subst (λ (z : ℤ). is_free mark (signed_decimal z) ≡ true) (sym n_is) (decimal_free mark (cents a.opening.0) (omega arith) small) in
    free_joined mark (codes "ACCT" ∷ a.name.number ∷ kind_word a.name.kind ∷ signed_decimal a.opening.0 ∷ map (name_of users) a.owners) (ne_eqb _ _ (λ e. omega (arith, e)))
    (key, (word_free mark a.name.number (omega arith) is.number, (kind_free mark a.name.kind (omega arith), (opening, names_free mark users a.owners (omega arith) all is.owners))))

pub user_free : (mark : ℕ) (u : User) → mark < 32 → is_free mark (codes "USER") ≡ true → IsUser u → is_free mark (user_line u) ≡ true
user_free mark u low key is =
    free_joined mark (codes "USER" ∷ u.name ∷ u.pass ∷ []) (ne_eqb _ _ (λ e. omega (arith, e))) (key, (word_free mark u.name (omega arith) is.name, (word_free mark u.pass (omega arith) is.pass, tt)))
