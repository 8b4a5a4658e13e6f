-- Names of files: each is of one client, and has one number.
use Rattle.std.proofs.Common.{◌≡◌, ◌≢◌, ℕ, ◌<◌, ◌^◌, true, List, [], ◌∷◌, ◌++◌, slice_get, Some, refl, sym, ap, subst, ◌∙◌, arith}
use Rattle.std.proofs.lemmas.Bool.{and_parts}
use Rattle.std.proofs.lemmas.Fmt.{decimal_injective}
use Rattle.std.specs.Char.{is_ascii_alphanumeric}
use Rattle.std.specs.Fmt.{decimal}
use Rattle.std.specs.List.{All, list_all}
use Rattle.client_saved.specs.Bounds.{IsName}
use Rattle.client_core.specs.Making.{file_name}
use Rattle.bank_model.specs.declared.setup.Setup.{Setup}
use Rattle.ofx_world.specs.Customer.{CustomerView}
use Rattle.ofx_world.specs.Sound.{HaveOwnNames, IsNumbered, IsSoundCustomer}
use Rattle.ofx_world.proofs.Lists.{same_some, at_all}

no_dash : (b : ℕ) → is_ascii_alphanumeric b ≡ true → b ≢ 45
no_dash b is same = let dash : is_ascii_alphanumeric 45 ≡ true = subst (λ (c : ℕ). is_ascii_alphanumeric c ≡ true) same is in absurd cc

-- Letters and digits end at the first dash.
split : (a b xs ys : List ℕ) → list_all is_ascii_alphanumeric a ≡ true → list_all is_ascii_alphanumeric b ≡ true → a ++ 45 ∷ xs ≡ b ++ 45 ∷ ys → (a ≡ b) × (xs ≡ ys)
split [] [] xs ys of_a of_b same = let rest : xs ≡ ys = cc in (refl, rest)
split [] (y ∷ b) xs ys of_a of_b same =
    let first : y ≡ 45 = cc in
    absurd (no_dash y (and_parts (is_ascii_alphanumeric y) (list_all is_ascii_alphanumeric b) of_b).0 first)
split (x ∷ a) [] xs ys of_a of_b same =
    let first : x ≡ 45 = cc in
    absurd (no_dash x (and_parts (is_ascii_alphanumeric x) (list_all is_ascii_alphanumeric a) of_a).0 first)
split (x ∷ a) (y ∷ b) xs ys of_a of_b same =
    let first : x ≡ y = cc in
    let rest : a ++ 45 ∷ xs ≡ b ++ 45 ∷ ys = cc in
    let both = split a b xs ys (and_parts (is_ascii_alphanumeric x) (list_all is_ascii_alphanumeric a) of_a).1
    (and_parts (is_ascii_alphanumeric y) (list_all is_ascii_alphanumeric b) of_b).1 rest in
    let prefix : a ≡ b = both.0 in
    let whole : x ∷ a ≡ y ∷ b = cc in
    (whole, both.1)

-- A file is of one client, and has one number.
pub one_name : (a b : List ℕ) (m n : ℕ) → IsName a → IsName b → m < 2 ^ 64 → n < 2 ^ 64 → file_name a m ≡ file_name b n → (a ≡ b) × (m ≡ n)
unfolding file_name
one_name a b m n of_a of_b short_m short_n same =
    let both = split a b (decimal m) (decimal n) of_a.1 of_b.1 same in
    (both.0, decimal_injective m n short_m short_n both.1)

-- ---- the client that has given a name

short : (setup : Setup) (customer : CustomerView) (number : ℕ) → IsSoundCustomer setup customer → number < customer.client.next → number < 2 ^ 64
short setup customer number sound below = let few = sound.saved.sound.next in omega (arith, below, few)

-- A name is one client's, and has one number.
pub one_client : (setup : Setup) (customers : List CustomerView) (j k : ℕ) (a b : CustomerView) (m n : ℕ) (name : List ℕ)
    → All (IsSoundCustomer setup) customers → HaveOwnNames customers → slice_get customers j ≡ Some a → slice_get customers k ≡ Some b
    → IsNumbered a.client m name → IsNumbered b.client n name → (j ≡ k) × (a ≡ b) × (m ≡ n)
one_client setup customers j k a b m n name sound own at_j at_k is_m is_n =
    let of_a = at_all (IsSoundCustomer setup) customers j a sound at_j in
    let of_b = at_all (IsSoundCustomer setup) customers k b sound at_k in
    let same = one_name a.client.name b.client.name m n of_a.saved.sound.name of_b.saved.sound.name
    (short setup a m of_a is_m.0) (short setup b n of_b is_n.0) (sym is_m.1 ∙ is_n.1) in
    let index : j ≡ k = own j k a b at_j at_k same.0 in
    (index, same_some a b (sym at_j ∙ ap (slice_get customers) index ∙ at_k), same.1)

-- The number that a client gives next is no number that it has given.
pub new_number : (setup : Setup) (customer : CustomerView) (number : ℕ) → IsSoundCustomer setup customer → number < customer.client.next
    → file_name customer.client.name customer.client.next ≡ file_name customer.client.name number → ⊥
new_number setup customer number sound below same =
    let few = sound.saved.sound.next in
    let numbers = (one_name customer.client.name customer.client.name customer.client.next number sound.saved.sound.name sound.saved.sound.name
    (omega (arith, few)) (short setup customer number sound below) same).1 in
    absurd (omega (arith, numbers, below))

-- Nor has any client given the name of that file.
pub new_name : (setup : Setup) (customers : List CustomerView) (j k : ℕ) (a b : CustomerView) (n : ℕ)
    → All (IsSoundCustomer setup) customers → HaveOwnNames customers → slice_get customers j ≡ Some a → slice_get customers k ≡ Some b
    → IsNumbered b.client n (file_name a.client.name a.client.next) → ⊥
new_name setup customers j k a b n sound own at_j at_k is =
    let of_a = at_all (IsSoundCustomer setup) customers j a sound at_j in
    let of_b = at_all (IsSoundCustomer setup) customers k b sound at_k in
    let few = of_a.saved.sound.next in
    let same = one_name a.client.name b.client.name a.client.next n of_a.saved.sound.name of_b.saved.sound.name
    (omega (arith, few)) (short setup b n of_b is.0) is.1 in
    let index : j ≡ k = own j k a b at_j at_k same.0 in
    let one : a ≡ b = same_some a b (sym at_j ∙ ap (slice_get customers) index ∙ at_k) in
    let next : a.client.next ≡ b.client.next = ap (λ (c : CustomerView). c.client.next) one in
    let numbers = same.1 in
    let below = is.0 in
    absurd (omega (arith, next, numbers, below))
