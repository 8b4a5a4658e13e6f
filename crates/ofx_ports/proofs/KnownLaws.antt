-- What several calls in a row do to a list that is known.
use Rattle.std.proofs.Common.{List, [], ◌++◌, refl, sym, append_assoc, append-nil, Option, None, Some}
use Rattle.ofx_ports.specs.Known.{Stays, Grows}

-- no call leaves the list as it is
pub Stays-refl : {A : Type 0} (a : Option (List A)) → Stays a a
Stays-refl None = tt
Stays-refl (Some xs) = refl

pub Stays-trans : {A : Type 0} (a b c : Option (List A)) → Stays a b → Stays b c → Stays a c
Stays-trans None b c p q = tt
Stays-trans (Some xs) None c p q = absurd p
Stays-trans (Some xs) (Some ys) None p q = absurd q
Stays-trans (Some xs) (Some ys) (Some zs) p q = cc

-- no call adds nothing
pub Grows-nil : {A : Type 0} (a : Option (List A)) → Grows a a []
Grows-nil None = tt
Grows-nil (Some xs) = sym (append-nil xs)

-- the items of two calls stand one after another
pub Grows-trans : {A : Type 0} (a b c : Option (List A)) (xs ys : List A) → Grows a b xs → Grows b c ys → Grows a c (xs ++ ys)
Grows-trans None b c xs ys p q = tt
Grows-trans (Some ws) None c xs ys p q = absurd p
Grows-trans (Some ws) (Some bs) None xs ys p q = absurd q
Grows-trans (Some ws) (Some bs) (Some cs) xs ys p q = rw (q, p) (append_assoc ws xs ys)

-- a list that grew and then stayed has grown
pub Grows-kept : {A : Type 0} (a b c : Option (List A)) (xs : List A) → Grows a b xs → Stays b c → Grows a c xs
Grows-kept None b c xs p q = tt
Grows-kept (Some ws) None c xs p q = absurd p
Grows-kept (Some ws) (Some bs) None xs p q = absurd q
Grows-kept (Some ws) (Some bs) (Some cs) xs p q = cc
