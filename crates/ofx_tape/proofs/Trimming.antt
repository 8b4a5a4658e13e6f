-- Decoding and trimming in either order: entities stand for no white space.
use Rattle.std.proofs.Common.{◌≡◌, ℕ, zero, suc, Bool, true, false, cond, ◌&&◌, not, List, [], ◌∷◌, ◌++◌, length, reverse, take, nat_eq, codes, refl, sym, ap, subst, ◌∙◌, ◌⊎◌, inl, inr}
use Rattle.std.proofs.lemmas.Bool.{eqb-true, eq-eqb, and_parts}
use Rattle.std.proofs.lemmas.List.{reverse-append}
use Rattle.std.proofs.lemmas.List.Folds.{list_all-append}
use Rattle.std.proofs.lemmas.Slice.Eq.{bytes_eq-Decides}
use Rattle.std.specs.List.{list_all, list_any, starts_with}
use Rattle.ofx_types.specs.TextRules.{is_white, trim_start, trim_end, trimmed}
use Rattle.ofx_types.specs.ValueForm.{decoded_past, decoded, value_of}
use Rattle.ofx_types.proofs.Trimming.{trim_start-kept}
use Rattle.ofx_tape.proofs.Decoding.{decoded-other, decoded-plain}

-- trimming at the end, from the start on
unfoldable pub cut_end : List ℕ → List ℕ
cut_end [] = []
cut_end (b ∷ bs) = cond (list_all is_white (b ∷ bs)) [] (b ∷ cut_end bs)

cut_end-white : (xs : List ℕ) → list_all is_white xs ≡ true → cut_end xs ≡ []
unfolding cut_end
cut_end-white [] h = refl
cut_end-white (x ∷ xs) h = ap (λ b. cond b [] (x ∷ cut_end xs)) h

cut_end-kept : (x : ℕ) (xs : List ℕ) → list_all is_white (x ∷ xs) ≡ false → cut_end (x ∷ xs) ≡ x ∷ cut_end xs
unfolding cut_end
cut_end-kept x xs h = ap (λ b. cond b [] (x ∷ cut_end xs)) h

all_white-kept : (x : ℕ) (xs : List ℕ) → is_white x ≡ false → list_all is_white (x ∷ xs) ≡ false
all_white-kept x xs h = ap (λ b. b && list_all is_white xs) h

-- trimming before one more byte
trim_start-last : (xs : List ℕ) (x : ℕ) → trim_start (xs ++ x ∷ []) ≡ cond (list_all is_white xs) (trim_start (x ∷ [])) (trim_start xs ++ x ∷ [])
trim_start-last [] x = refl
trim_start-last (y ∷ ys) x =
    elim (is_white y) as (λ b. cond b (trim_start (ys ++ x ∷ [])) (y ∷ (ys ++ x ∷ []))
    ≡ cond (b && list_all is_white ys) (trim_start (x ∷ [])) (cond b (trim_start ys) (y ∷ ys) ++ x ∷ []))
    [ true ↦ trim_start-last ys x | false ↦ refl ]

and_commutes : (a b : Bool) → (a && b) ≡ (b && a)
and_commutes true true = refl
and_commutes true false = refl
and_commutes false true = refl
and_commutes false false = refl

all_white-reverse : (xs : List ℕ) → list_all is_white (reverse xs) ≡ list_all is_white xs
all_white-reverse [] = refl
all_white-reverse (x ∷ xs) =
    ap (list_all is_white) (reverse-append (x ∷ []) xs)
    ∙ list_all-append is_white (reverse xs) (x ∷ [])
    ∙ ap (λ b. b && (is_white x && true)) (all_white-reverse xs)
    ∙ and_commutes (list_all is_white xs) (is_white x && true)
    ∙ elim (is_white x) as (λ b. ((b && true) && list_all is_white xs) ≡ (b && list_all is_white xs)) [ true ↦ refl | false ↦ refl ]

trim_end-cut : (xs : List ℕ) → trim_end xs ≡ cut_end xs
unfolding cut_end
trim_end-cut [] = refl
trim_end-cut (x ∷ xs) =
    ap (λ (l : List ℕ). reverse (trim_start l)) (reverse-append (x ∷ []) xs)
    ∙ ap reverse (trim_start-last (reverse xs) x)
    ∙ ap (λ b. reverse (cond b (trim_start (x ∷ [])) (trim_start (reverse xs) ++ x ∷ []))) (all_white-reverse xs)
    ∙ by_cases (list_all is_white xs) refl (trim_end-cut xs)
  where
    by_cases : (w : Bool) → list_all is_white xs ≡ w → trim_end xs ≡ cut_end xs
        → reverse (cond w (trim_start (x ∷ [])) (trim_start (reverse xs) ++ x ∷ [])) ≡ cond (is_white x && w) [] (x ∷ cut_end xs)
    by_cases true h again =
        elim (is_white x) as (λ b. reverse (cond b [] (x ∷ [])) ≡ cond (b && true) [] (x ∷ cut_end xs))
        [ true ↦ refl | false ↦ ap (λ (l : List ℕ). x ∷ l) (sym (cut_end-white xs h)) ]
    by_cases false h again =
        reverse-append (trim_start (reverse xs)) (x ∷ [])
        ∙ ap (λ (l : List ℕ). x ∷ l) again
        ∙ elim (is_white x) as (λ b. x ∷ cut_end xs ≡ cond (b && false) [] (x ∷ cut_end xs)) [ true ↦ refl | false ↦ refl ]

abbrev is_visible : ℕ → Bool
is_visible b = not (is_white b)

white_apart : (c b : ℕ) → is_white c ≡ false → is_white b ≡ true → nat_eq c b ≡ false
white_apart c b plain white = by_cases (nat_eq c b) refl
  where
    by_cases : (same : Bool) → nat_eq c b ≡ same → nat_eq c b ≡ false
    by_cases true h = let e : c ≡ b = eqb-true c b h in let kept : is_white c ≡ is_white b = ap is_white e in cc
    by_cases false h = h

visible : (b : ℕ) → not (is_white b) ≡ true → is_white b ≡ false
visible b h = by_cases (is_white b) refl
  where
    by_cases : (w : Bool) → is_white b ≡ w → is_white b ≡ false
    by_cases true e = let flipped : not (is_white b) ≡ false = ap not e in cc
    by_cases false e = e

white_or_visible : (b : ℕ) → (is_white b ≡ true) ⊎ (is_white b ≡ false)
white_or_visible b = elim (is_white b) as (λ w. (w ≡ true) ⊎ (w ≡ false)) [ true ↦ inl refl | false ↦ inr refl ]

-- a name without white space is at the start as before, where the end is trimmed
starts_with-cut : (name bs : List ℕ) → list_all is_visible name ≡ true → starts_with nat_eq (cut_end bs) name ≡ starts_with nat_eq bs name
unfolding cut_end
starts_with-cut [] bs h = refl
starts_with-cut (c ∷ cs) [] h = refl
starts_with-cut (c ∷ cs) (b ∷ bs) h = by_cases (list_all is_white (b ∷ bs)) refl (starts_with-cut cs bs (and_parts _ _ h).1)
  where
    by_cases : (w : Bool) → list_all is_white (b ∷ bs) ≡ w → starts_with nat_eq (cut_end bs) cs ≡ starts_with nat_eq bs cs
        → starts_with nat_eq (cond w [] (b ∷ cut_end bs)) (c ∷ cs) ≡ starts_with nat_eq (b ∷ bs) (c ∷ cs)
    by_cases true e again =
        let apart : nat_eq c b ≡ false = white_apart c b (visible c (and_parts _ _ h).0) (and_parts _ _ e).0 in
        sym (ap (λ same. same && starts_with nat_eq bs cs) apart)
    by_cases false e again = ap (λ more. nat_eq c b && more) again

-- What is decoded at a byte: the byte that it stands for, and how many bytes after it are passed over. It is the same
-- where the end is trimmed.
record Decodes (b : ℕ) (bs : List ℕ) : Type 0 where
  pub byte : ℕ
  pub passed : ℕ
  pub same_kind : is_white byte ≡ is_white b
  pub is_alone : (passed ≡ 0) ⊎ (is_white b ≡ false)
  pub is_visible_passed : list_all is_visible (take passed bs) ≡ true
  pub here : decoded (b ∷ bs) ≡ byte ∷ decoded_past passed bs
  pub cut : decoded (b ∷ cut_end bs) ≡ byte ∷ decoded_past passed (cut_end bs)

taken : (name bs : List ℕ) → list_all is_visible name ≡ true → starts_with nat_eq bs name ≡ true → list_all is_visible (take (length name) bs) ≡ true
taken name bs h e = ap (list_all is_visible) (sym ((bytes_eq-Decides name (take (length name) bs)).0 e)) ∙ h

at_ampersand : (bs : List ℕ) → Decodes 38 bs
unfolding decoded_past
at_ampersand bs = by_lt (starts_with nat_eq bs (codes "lt;")) refl
  where
    by_amp : (amp : Bool) → starts_with nat_eq bs (codes "amp;") ≡ amp
        → starts_with nat_eq bs (codes "lt;") ≡ false → starts_with nat_eq bs (codes "gt;") ≡ false → Decodes 38 bs
    by_amp true e no_lt no_gt = record {
      byte = 38;
      passed = 4;
      same_kind = refl;
      is_alone = inr refl;
      is_visible_passed = taken (codes "amp;") bs refl e;
      here = rw (no_lt, no_gt, e) refl;
      cut = rw (starts_with-cut (codes "lt;") bs refl, starts_with-cut (codes "gt;") bs refl, starts_with-cut (codes "amp;") bs refl, no_lt, no_gt, e) refl;
    }
    by_amp false e no_lt no_gt = record {
      byte = 38;
      passed = 0;
      same_kind = refl;
      is_alone = inr refl;
      is_visible_passed = refl;
      here = rw (no_lt, no_gt, e) refl;
      cut = rw (starts_with-cut (codes "lt;") bs refl, starts_with-cut (codes "gt;") bs refl, starts_with-cut (codes "amp;") bs refl, no_lt, no_gt, e) refl;
    }

    by_gt : (gt : Bool) → starts_with nat_eq bs (codes "gt;") ≡ gt → starts_with nat_eq bs (codes "lt;") ≡ false → Decodes 38 bs
    by_gt true e no_lt = record {
      byte = 62;
      passed = 3;
      same_kind = refl;
      is_alone = inr refl;
      is_visible_passed = taken (codes "gt;") bs refl e;
      here = rw (no_lt, e) refl;
      cut = rw (starts_with-cut (codes "lt;") bs refl, starts_with-cut (codes "gt;") bs refl, no_lt, e) refl;
    }
    by_gt false e no_lt = by_amp (starts_with nat_eq bs (codes "amp;")) refl no_lt e

    by_lt : (lt : Bool) → starts_with nat_eq bs (codes "lt;") ≡ lt → Decodes 38 bs
    by_lt true e = record {
      byte = 60;
      passed = 3;
      same_kind = refl;
      is_alone = inr refl;
      is_visible_passed = taken (codes "lt;") bs refl e;
      here = rw e refl;
      cut = rw (starts_with-cut (codes "lt;") bs refl, e) refl;
    }
    by_lt false e = by_gt (starts_with nat_eq bs (codes "gt;")) refl e

decodes_at : (b : ℕ) (bs : List ℕ) → Decodes b bs
decodes_at b bs = by_cases (nat_eq b 38) refl
  where
    by_cases : (same : Bool) → nat_eq b 38 ≡ same → Decodes b bs
    by_cases true h = let P : ℕ → Type 0 = λ n. Decodes n bs in subst P (sym (eqb-true b 38 h)) (at_ampersand bs)
    by_cases false h = record {
      byte = b;
      passed = 0;
      same_kind = refl;
      is_alone = inl refl;
      is_visible_passed = refl;
      here = decoded-other b bs h;
      cut = decoded-other b (cut_end bs) h;
    }

all_white_step : (b : ℕ) (bs : List ℕ) (d : Decodes b bs) → (d.passed ≡ 0) ⊎ (is_white b ≡ false)
    → list_all is_white (decoded bs) ≡ list_all is_white bs → list_all is_white (decoded (b ∷ bs)) ≡ list_all is_white (b ∷ bs)
all_white_step b bs d (inl alone) again =
    ap (list_all is_white) d.here ∙ ap (λ w. w && list_all is_white (decoded_past d.passed bs)) d.same_kind
    ∙ ap (λ n. is_white b && list_all is_white (decoded_past n bs)) alone ∙ ap (λ w. is_white b && w) again
all_white_step b bs d (inr kept) again =
    ap (list_all is_white) d.here ∙ all_white-kept d.byte (decoded_past d.passed bs) (d.same_kind ∙ kept) ∙ sym (all_white-kept b bs kept)

-- what is decoded is white space exactly where the bytes are
all_white-decoded : (raw : List ℕ) → list_all is_white (decoded raw) ≡ list_all is_white raw
unfolding decoded_past
all_white-decoded [] = refl
all_white-decoded (b ∷ bs) = all_white_step b bs (decodes_at b bs) (decodes_at b bs).is_alone (all_white-decoded bs)

trim_start-white : (x : ℕ) (xs : List ℕ) → is_white x ≡ true → trim_start (x ∷ xs) ≡ trim_start xs
trim_start-white x xs h = ap (λ b. cond b (trim_start xs) (x ∷ xs)) h

-- white space stands for itself
decoded-white : (b : ℕ) (bs : List ℕ) → is_white b ≡ true → decoded (b ∷ bs) ≡ b ∷ decoded bs
decoded-white b bs h = decoded-other b bs (eq_turned (white_apart 38 b refl h))
  where
    eq_turned : nat_eq 38 b ≡ false → nat_eq b 38 ≡ false
    eq_turned e = by_cases (nat_eq b 38) refl
      where
        by_cases : (same : Bool) → nat_eq b 38 ≡ same → nat_eq b 38 ≡ false
        by_cases true g = let turned : nat_eq 38 b ≡ true = eq-eqb 38 b (sym (eqb-true b 38 g)) in cc
        by_cases false g = g

trim_start-decoded : (raw : List ℕ) → trim_start (decoded raw) ≡ decoded (trim_start raw)
unfolding decoded_past
trim_start-decoded [] = refl
trim_start-decoded (b ∷ bs) = by_cases (white_or_visible b) (decodes_at b bs) (trim_start-decoded bs)
  where
    by_cases : (is_white b ≡ true) ⊎ (is_white b ≡ false) → Decodes b bs → trim_start (decoded bs) ≡ decoded (trim_start bs)
        → trim_start (decoded (b ∷ bs)) ≡ decoded (trim_start (b ∷ bs))
    by_cases (inl white) d again =
        ap trim_start (decoded-white b bs white) ∙ trim_start-white b (decoded bs) white ∙ again ∙ sym (ap decoded (trim_start-white b bs white))
    by_cases (inr kept) d again =
        ap trim_start d.here ∙ trim_start-kept d.byte (decoded_past d.passed bs) (d.same_kind ∙ kept) ∙ sym d.here
        ∙ sym (ap decoded (trim_start-kept b bs kept))

cut_end_step : (b : ℕ) (bs : List ℕ) (w : Bool) (d : Decodes b bs) → list_all is_white (b ∷ bs) ≡ w
    → cut_end (decoded_past d.passed bs) ≡ decoded_past d.passed (cut_end bs) → cut_end (decoded (b ∷ bs)) ≡ decoded (cut_end (b ∷ bs))
unfolding decoded_past
cut_end_step b bs true d h again =
    cut_end-white (decoded (b ∷ bs)) (all_white-decoded (b ∷ bs) ∙ h) ∙ sym (ap decoded (cut_end-white (b ∷ bs) h))
cut_end_step b bs false d h again =
    ap cut_end d.here
    ∙ cut_end-kept d.byte (decoded_past d.passed bs) (ap (list_all is_white) (sym d.here) ∙ all_white-decoded (b ∷ bs) ∙ h)
    ∙ ap (λ (l : List ℕ). d.byte ∷ l) again
    ∙ sym d.cut
    ∙ sym (ap decoded (cut_end-kept b bs h))

-- the bytes to be passed over aren't white space
cut_end-decoded_past : (n : ℕ) (raw : List ℕ) → list_all is_visible (take n raw) ≡ true → cut_end (decoded_past n raw) ≡ decoded_past n (cut_end raw)
unfolding decoded_past cut_end
cut_end-decoded_past n [] h = refl
cut_end-decoded_past zero (b ∷ bs) h =
    let d = decodes_at b bs in
    cut_end_step b bs (list_all is_white (b ∷ bs)) d refl (cut_end-decoded_past d.passed bs d.is_visible_passed)
cut_end-decoded_past (suc n) (b ∷ bs) h =
    let parts = and_parts _ _ h in
    cut_end-decoded_past n bs parts.1 ∙ sym (ap (decoded_past (suc n)) (cut_end-kept b bs (all_white-kept b bs (visible b parts.0))))

-- a value may be trimmed before it is decoded
pub value_of-trimmed : (raw : List ℕ) → value_of raw ≡ decoded (trimmed raw)
value_of-trimmed raw =
    ap trim_end (trim_start-decoded raw)
    ∙ trim_end-cut (decoded (trim_start raw))
    ∙ cut_end-decoded_past 0 (trim_start raw) refl
    ∙ ap decoded (sym (trim_end-cut (trim_start raw)))

-- and where no `&` is in it nothing else is done
pub value_of-plain : (raw cut : List ℕ) → cut ≡ trimmed raw → list_any (λ b. nat_eq b 38) cut ≡ false → value_of raw ≡ cut
value_of-plain raw cut e h = value_of-trimmed raw ∙ ap decoded (sym e) ∙ decoded-plain cut h

pub ruleset trimmed_raw = (value_of-trimmed, decoded-plain)
