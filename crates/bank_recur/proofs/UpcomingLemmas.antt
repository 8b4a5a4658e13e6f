-- Next transfers in order: where one stands, one more, one less, and the first.
use Rattle.std.proofs.Common.{◌≡◌, ℕ, zero, suc, ◌<◌, ⊎_elim, ℤ, Bool, true, false, ◌||◌, ◌&&◌, cond, eqb, nat_lt, List, [], ◌∷◌, length, get_or, insert, remove, Option, None, Some, refl, sym, ap, ◌∙◌, subst, arith}
use Rattle.std.proofs.lemmas.Bool.{both_ways, eqb-true, eq-eqb, cases_eq}
use Rattle.std.proofs.lemmas.Bool.Decides.{nat_tests}
use Rattle.std.proofs.lemmas.Int.{ints}
use Rattle.std.specs.Prelude.{int_le, int_lt}
use Rattle.std.specs.Cmp.{nat_eq_equiv}
use Rattle.std.specs.Option.{option_map}
use Rattle.std.specs.List.{AllByRecursion, AllWithin, find, slice_get}
use Rattle.std.specs.List.Sorted.{IsPartitionedBy}
use Rattle.ofx_types.specs.declared.number.Day.{Day}
use Rattle.bank_recur.specs.Spawning.{is_before_spawn}
use Rattle.bank_recur.specs.Upcoming.{Precedes, IsInOrder, IsIndex, IsFirst, day_in}
use Rattle.bank_recur.specs.declared.spawn.Spawn.{Spawn}
use Rattle.bank_recur.proofs.InOrderLemmas.{all_at, in_order_insert, in_order_pairs}

-- ---- the order of two

itself_late : (x : ℤ) (i : ℕ) → (int_lt x x || (int_le x x && nat_lt i i)) ≡ false
itself_late x i = grind (arith, ints, nat_tests)

later_late : (x y : ℤ) (i j : ℕ) → (int_lt x y || (int_le x y && nat_lt i j)) ≡ true → (int_lt y x || (int_le y x && nat_lt j i)) ≡ false
later_late x y i j early = grind (arith, ints, nat_tests)

other_early : (x y : ℤ) (i j : ℕ) → (int_lt x y || (int_le x y && nat_lt i j)) ≡ false → eqb j i ≡ false → (int_lt y x || (int_le y x && nat_lt j i)) ≡ true
other_early x y i j late apart = grind (arith, ints, nat_tests)

early_through : (x y z : ℤ) (i j k : ℕ) → (int_lt x y || (int_le x y && nat_lt i j)) ≡ true → (int_lt y z || (int_le y z && nat_lt j k)) ≡ true → (int_lt x z || (int_le x z && nat_lt i k)) ≡ true
early_through x y z i j k first second = grind (arith, ints, nat_tests)

-- no transfer comes before itself
pub never_before_itself : (a : Spawn) → is_before_spawn a a ≡ false
never_before_itself a = itself_late a.day.0 a.id

pub never_both : (a b : Spawn) → is_before_spawn a b ≡ true → is_before_spawn b a ≡ false
never_both a b early = later_late a.day.0 b.day.0 a.id b.id early

pub one_of_both : (a b : Spawn) → is_before_spawn a b ≡ false → eqb b.id a.id ≡ false → is_before_spawn b a ≡ true
one_of_both a b late apart = other_early a.day.0 b.day.0 a.id b.id late apart

pub before_through : (a b c : Spawn) → is_before_spawn a b ≡ true → is_before_spawn b c ≡ true → is_before_spawn a c ≡ true
before_through a b c first second = early_through a.day.0 b.day.0 c.day.0 a.id b.id c.id first second

-- those before of a transfer's place come before it
pub parted : (x : Spawn) (xs : List Spawn) → IsInOrder xs → IsPartitionedBy (λ (s : Spawn). is_before_spawn s x) xs
parted x xs order i j d most within early = ⊎_elim (λ same. subst (λ k. is_before_spawn (get_or xs k d) x ≡ true) (sym same) early) (λ other. before_through (get_or xs i d) (get_or xs j d) x (in_order_pairs Precedes xs i j d (omega arith) within order).before early) (cases_eq i j)

-- ---- the day of a recurring transfer

day_step : (id : ℕ) (y : Spawn) (ys : List Spawn) → day_in id (y ∷ ys) ≡ cond (eqb y.id id) (Some y.day) (day_in id ys)
day_step id y ys = chosen (eqb y.id id)
  where
    chosen : (b : Bool) → option_map (λ (s : Spawn). s.day) (cond b (Some y) (find (λ (s : Spawn). eqb s.id id) ys)) ≡ cond b (Some y.day) (day_in id ys)
    chosen true = refl
    chosen false = refl

same_spawn : (y x : Spawn) → eqb y.id x.id ≡ true → Some y.day ≡ Some x.day → y ≡ x
same_spawn y x e is = let id = eqb-true y.id x.id e in let day : y.day ≡ x.day = cc in (λ i. record { day = day i; id = id i })

-- what holds of each holds of the one with that id
day_holds : (P : Spawn → Type 0) (xs : List Spawn) (id : ℕ) (day : Day) → AllByRecursion P xs → day_in id xs ≡ Some day → P (record { day = day; id = id })
day_holds P [] id day all is = cc
day_holds P (y ∷ xs) id day all is = named (day_holds P xs id day all.1) (eqb y.id id) refl (sym (day_step id y xs) ∙ is)
  where
    named : (day_in id xs ≡ Some day → P (record { day = day; id = id })) → (b : Bool) → eqb y.id id ≡ b → cond b (Some y.day) (day_in id xs) ≡ Some day → P (record { day = day; id = id })
    named more true e is = subst P (same_spawn y (record { day = day; id = id }) e is) all.0
    named more false e is = more is

-- none has an id that no day is found for
none_in : (id : ℕ) (xs : List Spawn) → day_in id xs ≡ None → AllByRecursion (λ (s : Spawn). eqb s.id id ≡ false) xs
none_in id [] none = tt
none_in id (y ∷ xs) none = named (none_in id xs) (eqb y.id id) refl (sym (day_step id y xs) ∙ none)
  where
    named : (day_in id xs ≡ None → AllByRecursion (λ (s : Spawn). eqb s.id id ≡ false) xs) → (b : Bool) → eqb y.id id ≡ b → cond b (Some y.day) (day_in id xs) ≡ None → (eqb y.id id ≡ false) × AllByRecursion (λ (s : Spawn). eqb s.id id ≡ false) xs
    named more true e is = cc
    named more false e is = (e, more is)

-- Those after one aren't of its recurring transfer.
none_after : (y : Spawn) (xs : List Spawn) (other : ℕ) → AllByRecursion (Precedes y) xs → eqb y.id other ≡ true → day_in other xs ≡ None
none_after y xs other rest same = looked (day_in other xs) refl
  where
    looked : (day : Option Day) → day_in other xs ≡ day → day ≡ None
    looked None is = refl
    looked (Some day) is = absurd (both_ways (eqb y.id other) (day_holds (Precedes y) xs other day rest is).apart same)

swapped : (y x other : ℕ) (a b : Bool) (day : Day) (its rest : Option Day) → eqb y x ≡ false → eqb y other ≡ a → eqb x other ≡ b → cond a (Some day) (cond b its rest) ≡ cond b its (cond a (Some day) rest)
swapped y x other true true day its rest apart e f = absurd (both_ways (eqb y x) apart (eq-eqb y x (eqb-true y other e ∙ sym (eqb-true x other f))))
swapped y x other true false day its rest apart e f = refl
swapped y x other false true day its rest apart e f = refl
swapped y x other false false day its rest apart e f = refl

-- ---- one more

pub order_insert : (x : Spawn) (xs : List Spawn) (at : ℕ) → IsInOrder xs → IsIndex x xs at → day_in x.id xs ≡ None → IsInOrder (insert xs at x)
order_insert x xs at order index none =
    in_order_insert Precedes xs at x
    (λ k d low high. record { before = index.parts.0 k d low high; apart = apart k d (omega (arith, index.within)) })
    (λ k d low high. record {
      before = one_of_both (get_or xs k d) x (index.parts.1 k d low high) (other k d high);
      apart = other k d high;
    })
    index.within order
  where
    apart : (k : ℕ) (d : Spawn) → k < length xs → eqb (get_or xs k d).id x.id ≡ false
    apart k d high = all_at (λ (s : Spawn). eqb s.id x.id ≡ false) xs k d high (none_in x.id xs none)

    other : (k : ℕ) (d : Spawn) → k < length xs → eqb x.id (get_or xs k d).id ≡ false
    other k d high = nat_eq_equiv.symm x.id (get_or xs k d).id ∙ apart k d high

pub day_insert : (x : Spawn) (xs : List Spawn) (at other : ℕ) → day_in x.id xs ≡ None → day_in other (insert xs at x) ≡ cond (eqb x.id other) (Some x.day) (day_in other xs)
day_insert x xs zero other none = day_step other x xs
day_insert x [] (suc at) other none = day_step other x []
day_insert x (y ∷ xs) (suc at) other none =
    let parts = apart (eqb y.id x.id) refl (sym (day_step x.id y xs) ∙ none) in
    day_step other y (insert xs at x)
    ∙ ap (cond (eqb y.id other) (Some y.day)) (day_insert x xs at other parts.1)
    ∙ swapped y.id x.id other (eqb y.id other) (eqb x.id other) y.day (Some x.day) (day_in other xs) parts.0 refl refl
    ∙ sym (ap (cond (eqb x.id other) (Some x.day)) (day_step other y xs))
  where
    apart : (b : Bool) → eqb y.id x.id ≡ b → cond b (Some y.day) (day_in x.id xs) ≡ None → (eqb y.id x.id ≡ false) × (day_in x.id xs ≡ None)
    apart true e is = cc
    apart false e is = (e, is)

-- ---- one less

-- The transfer is at a place.
pub record IsThere (x : Spawn) (xs : List Spawn) (at : ℕ) : Type 0 where
  pub within : at < length xs
  pub element : get_or xs at x ≡ x

-- One that is there is at its place.
pub there_at : (x : Spawn) (xs : List Spawn) (at : ℕ) → IsInOrder xs → AllWithin (λ (s : Spawn). is_before_spawn s x ≡ true) xs 0 at → AllWithin (λ (s : Spawn). is_before_spawn s x ≡ false) xs at (length xs) → day_in x.id xs ≡ Some x.day → IsThere x xs at
there_at x [] at order prefix rest is = cc
there_at x (y ∷ xs) zero order prefix rest is = named (eqb y.id x.id) refl (sym (day_step x.id y xs) ∙ is)
  where
    named : (b : Bool) → eqb y.id x.id ≡ b → cond b (Some y.day) (day_in x.id xs) ≡ Some x.day → IsThere x (y ∷ xs) 0
    named true e is = record { within = omega arith; element = same_spawn y x e is }
    named false e is = absurd (both_ways (is_before_spawn y x) (rest 0 y (omega arith) (omega arith)) (day_holds (Precedes y) xs x.id x.day order.0 is).before)
there_at x (y ∷ xs) (suc at) order prefix rest is =
    let more = λ (found : day_in x.id xs ≡ Some x.day). there_at x xs at order.1 (λ k d low high. prefix (suc k) d (omega arith) (omega arith)) (λ k d low high. rest (suc k) d (omega arith) (omega arith)) found in
    named more (eqb y.id x.id) refl (sym (day_step x.id y xs) ∙ is)
  where
    named : (day_in x.id xs ≡ Some x.day → IsThere x xs at) → (b : Bool) → eqb y.id x.id ≡ b → cond b (Some y.day) (day_in x.id xs) ≡ Some x.day → IsThere x (y ∷ xs) (suc at)
    named more true e is = absurd (both_ways (is_before_spawn x x) (never_before_itself x) (subst (λ (s : Spawn). is_before_spawn s x ≡ true) (same_spawn y x e is) (prefix 0 y (omega arith) (omega arith))))
    named more false e is = let there = more is in let within = there.within in record { within = omega arith; element = there.element }

pub day_remove : (x : Spawn) (xs : List Spawn) (at other : ℕ) → IsInOrder xs → IsThere x xs at → day_in other (remove xs at) ≡ cond (eqb x.id other) None (day_in other xs)
day_remove x [] at other order there = let none = there.within in absurd (omega arith)
day_remove x (y ∷ xs) zero other order there = gone (eqb y.id other) refl ∙ ap (λ (s : Spawn). cond (eqb s.id other) None (day_in other (y ∷ xs))) there.element
  where
    gone : (b : Bool) → eqb y.id other ≡ b → day_in other xs ≡ cond b None (day_in other (y ∷ xs))
    gone true e = none_after y xs other order.0 e
    gone false e = sym (day_step other y xs ∙ ap (λ b. cond b (Some y.day) (day_in other xs)) e)
day_remove x (y ∷ xs) (suc at) other order there =
    let within : at < length xs = omega (arith, there.within) in
    let apart : eqb y.id x.id ≡ false = (subst (Precedes y) there.element (all_at (Precedes y) xs at x within order.0)).apart in
    day_step other y (remove xs at)
    ∙ ap (cond (eqb y.id other) (Some y.day)) (day_remove x xs at other order.1 (record { within = within; element = there.element }))
    ∙ swapped y.id x.id other (eqb y.id other) (eqb x.id other) y.day None (day_in other xs) apart refl refl
    ∙ sym (ap (cond (eqb x.id other) None) (day_step other y xs))

-- ---- the first

none_earlier : (first : Spawn) (xs : List Spawn) → AllByRecursion (Precedes first) xs → AllByRecursion (λ (s : Spawn). is_before_spawn s first ≡ false) xs
none_earlier first [] all = tt
none_earlier first (y ∷ xs) all = (never_both first y all.0.before, none_earlier first xs all.1)

pub first_is : (first : Spawn) (xs : List Spawn) → IsInOrder (first ∷ xs) → IsFirst (Some first) (first ∷ xs)
first_is first xs order = (
  day_step first.id first xs ∙ ap (λ b. cond b (Some first.day) (day_in first.id xs)) (eq-eqb first.id first.id refl),
  λ id day is. day_holds (λ (s : Spawn). is_before_spawn s first ≡ false) (first ∷ xs) id day (never_before_itself first, none_earlier first xs order.0) is,
)

pub first_of : (first : Spawn) (xs now : List Spawn) → Some first ≡ slice_get xs 0 → IsInOrder xs → xs ≡ now → IsFirst (Some first) now
first_of first [] now is order same = cc
first_of first (y ∷ xs) now is order same =
    let here : y ≡ first = cc in
    subst (IsFirst (Some first)) same (subst (λ (s : Spawn). IsFirst (Some s) (y ∷ xs)) here (first_is y xs order))

-- ---- as the calls see them

pub there_in : (x : Spawn) (xs seen now : List Spawn) (at : ℕ) (day : Option Day) → IsInOrder xs → IsIndex x seen at → seen ≡ xs → xs ≡ now → day_in x.id now ≡ day → day ≡ Some x.day → IsThere x xs at
there_in x xs seen now at day order index looked same is given =
    let here = subst (λ l. IsIndex x l at) looked index in
    there_at x xs at order here.parts.0 here.parts.1 (ap (day_in x.id) same ∙ is ∙ given)
