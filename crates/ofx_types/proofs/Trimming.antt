-- What is trimmed stays as it is, and a text without a fault is clean.
use Rattle.std.proofs.Common.{◌≡◌, ℕ, ◌≤◌, ◌<◌, ◌^◌, Bool, true, false, cond, List, [], ◌∷◌, ◌++◌, length, reverse, position, Option, None, Some, nat_lt, nat_eq, ltb-false, take, codes, refl, sym, ap, ◌∙◌, arith}
use Rattle.std.proofs.lemmas.List.{reverse-append, reverse-reverse}
use Rattle.std.proofs.lemmas.Grind.{common_steps}
use Rattle.ofx_types.specs.TextRules.{is_white, trim_start, trim_end, trimmed, is_refused_in_text, is_refused_in_uid, IsText, IsTrnUid, IsFileUid}
use Rattle.ofx_types.specs.TextOutcome.{text_fault, refused_at, trnuid_fault, file_uid_fault}
use Rattle.ofx_types.specs.declared.text.TextFault.{TextFault}
use Rattle.ofx_types.specs.declared.text.TextFault.TheVariants.{Empty, TooLong}
use Rattle.ofx_types.specs.Bounds.{IsTextWithin}
use Rattle.ofx_types.specs.ValueForm.{decoded, Represents}
use Rattle.ofx_types.specs.Nodes.{Item}
use Rattle.ofx_types.specs.FormWords.{IsTextIn}
use Rattle.std.specs.Str.{bytes_eq}
use Rattle.std.proofs.lemmas.Bool.{le-ltb}

-- before a byte that is no white space nothing is trimmed
pub trim_start-kept : (x : ℕ) (xs : List ℕ) → is_white x ≡ false → trim_start (x ∷ xs) ≡ x ∷ xs
trim_start-kept x xs h = grind (arith, common_steps)

-- trimming before a last byte that is no white space
trim_start-last : (xs : List ℕ) (x : ℕ) → is_white x ≡ false → trim_start (xs ++ x ∷ []) ≡ trim_start xs ++ x ∷ []
trim_start-last [] x h = trim_start-kept x [] h
trim_start-last (y ∷ ys) x h =
    elim (is_white y) as (λ b. cond b (trim_start (ys ++ x ∷ [])) (y ∷ (ys ++ x ∷ [])) ≡ cond b (trim_start ys) (y ∷ ys) ++ x ∷ [])
    [ true ↦ trim_start-last ys x h | false ↦ refl ]

-- a first byte that is no white space stays under trimming at the end
trim_end-kept : (x : ℕ) (xs : List ℕ) → is_white x ≡ false → trim_end (x ∷ xs) ≡ x ∷ reverse (trim_start (reverse xs))
trim_end-kept x xs h =
    let turned : reverse (x ∷ xs) ≡ reverse xs ++ x ∷ [] = reverse-append (x ∷ []) xs in
    ap (λ (l : List ℕ). reverse (trim_start l)) turned
    ∙ ap reverse (trim_start-last (reverse xs) x h)
    ∙ reverse-append (trim_start (reverse xs)) (x ∷ [])

prefix_kept : (x : ℕ) (xs : List ℕ) → is_white x ≡ false → trim_start (trim_end (x ∷ xs)) ≡ trim_end (x ∷ xs)
prefix_kept x xs h = ap trim_start (trim_end-kept x xs h) ∙ trim_start-kept x _ h ∙ sym (trim_end-kept x xs h)

-- trimming at the end leaves a front that is trimmed
trim_start-trim_end : (xs : List ℕ) → trim_start (trim_end (trim_start xs)) ≡ trim_end (trim_start xs)
trim_start-trim_end [] = refl
trim_start-trim_end (x ∷ xs) = by_cases (is_white x) refl (trim_start-trim_end xs)
  where
    by_cases : (b : Bool) → is_white x ≡ b → trim_start (trim_end (trim_start xs)) ≡ trim_end (trim_start xs) → trim_start (trim_end (trim_start (x ∷ xs))) ≡ trim_end (trim_start (x ∷ xs))
    by_cases true h again = ap (λ (c : Bool). trim_start (trim_end (cond c (trim_start xs) (x ∷ xs)))) h ∙ again ∙ sym (ap (λ (c : Bool). trim_end (cond c (trim_start xs) (x ∷ xs))) h)
    by_cases false h again = ap (λ (c : Bool). trim_start (trim_end (cond c (trim_start xs) (x ∷ xs)))) h ∙ prefix_kept x xs h ∙ sym (ap (λ (c : Bool). trim_end (cond c (trim_start xs) (x ∷ xs))) h)

trim_start-again : (xs : List ℕ) → trim_start (trim_start xs) ≡ trim_start xs
trim_start-again [] = refl
trim_start-again (x ∷ xs) = by_cases (is_white x) refl (trim_start-again xs)
  where
    by_cases : (b : Bool) → is_white x ≡ b → trim_start (trim_start xs) ≡ trim_start xs → trim_start (trim_start (x ∷ xs)) ≡ trim_start (x ∷ xs)
    by_cases true h again = ap (λ (c : Bool). trim_start (cond c (trim_start xs) (x ∷ xs))) h ∙ again ∙ sym (ap (λ (c : Bool). cond c (trim_start xs) (x ∷ xs)) h)
    by_cases false h again = ap (λ (c : Bool). trim_start (cond c (trim_start xs) (x ∷ xs))) h ∙ trim_start-kept x xs h ∙ sym (ap (λ (c : Bool). cond c (trim_start xs) (x ∷ xs)) h)

trim_end-again : (xs : List ℕ) → trim_end (trim_end xs) ≡ trim_end xs
trim_end-again xs =
    let turned : reverse (trim_end xs) ≡ trim_start (reverse xs) = reverse-reverse (trim_start (reverse xs)) in
    ap (λ (l : List ℕ). reverse (trim_start l)) turned ∙ ap reverse (trim_start-again (reverse xs))

-- what is trimmed stays as it is
pub trimmed-again : (xs : List ℕ) → trimmed (trimmed xs) ≡ trimmed xs
trimmed-again xs = ap trim_end (trim_start-trim_end xs) ∙ trim_end-again (trim_start xs)

no_fault : (too_long : Bool) (fault : TextFault) (refused : Option ℕ) → cond too_long (Some fault) (refused_at refused) ≡ None → (too_long ≡ false) × (refused ≡ None)
no_fault true fault refused h = cc
no_fault false fault None h = (refl, refl)
no_fault false fault (Some at) h = cc

-- without a fault a text is no longer than the limit, and none of its bytes is refused
pub faultless : (is_refused : ℕ → Bool) (most : ℕ) (text : List ℕ) → text_fault is_refused most text ≡ None → (length text ≤ most) × (position is_refused text ≡ None)
faultless is_refused most text h =
    let parts = no_fault (nat_lt most (length text)) (TooLong (length text)) (position is_refused text) h in
    (ltb-false most (length text) parts.0, parts.1)

-- and bytes that are no longer and have none that is refused have no fault
pub no_text_fault : (is_refused : ℕ → Bool) (most : ℕ) (text : List ℕ) → length text ≤ most → position is_refused text ≡ None → text_fault is_refused most text ≡ None
no_text_fault is_refused most text short clean = rw (le-ltb _ _ short, clean) refl

-- trimmed bytes without a fault are a text
pub text_of_faultless : (most : ℕ) (bytes text items : List ℕ) → items ≡ text → text ≡ trimmed bytes → None ≡ text_fault is_refused_in_text most text → most < 2 ^ 32 → IsText items
text_of_faultless most bytes text items same e h small =
    let clean = faultless is_refused_in_text most text (sym h) in
    let whole : IsText text = record {
      is_trimmed = ap trimmed e ∙ trimmed-again bytes ∙ sym e;
      is_clean = clean.1;
      is_short = omega (arith, clean.0);
    } in
    rw same whole

-- a test that finds no fault lets the next one speak
pub guard_none : (refuses : Bool) (fault : TextFault) (next : Option TextFault) → None ≡ cond refuses (Some fault) next → (refuses ≡ false) × (next ≡ None)
guard_none true fault next h = cc
guard_none false fault next h = (refl, sym h)

pub not_empty : (xs : List ℕ) → nat_eq (length xs) 0 ≡ false → 0 < length xs
not_empty [] h = cc
not_empty (x ∷ xs) h = omega arith

-- trimmed bytes without a fault are a transaction uid
pub trnuid_of_faultless : (bytes text stored : List ℕ) → take (length text) stored ≡ text → text ≡ trimmed bytes → None ≡ trnuid_fault text → (length text ≤ 36) × IsTrnUid (take (length text) stored)
trnuid_of_faultless bytes text stored same e h =
    let there = guard_none (nat_eq (length text) 0) Empty _ h in
    let clean = faultless is_refused_in_text 36 text there.1 in
    let whole : IsTrnUid text = record {
      is_text = text_of_faultless 36 bytes text text refl e (sym there.1) (omega arith);
      is_there = not_empty text there.0;
      is_within = clean.0;
    } in
    (clean.0, rw same whole)

-- trimmed bytes without a fault are a file uid
pub file_uid_of_faultless : (bytes text stored : List ℕ) → take (length text) stored ≡ text → text ≡ trimmed bytes → None ≡ file_uid_fault text → (length text ≤ 36) × IsFileUid (take (length text) stored)
file_uid_of_faultless bytes text stored same e h =
    let there = guard_none (nat_eq (length text) 0) Empty _ h in
    let named = guard_none (bytes_eq text (codes "NONE")) Empty _ (sym there.1) in
    let clean = faultless is_refused_in_uid 36 text named.1 in
    let whole : IsFileUid text = record {
      is_trimmed = ap trimmed e ∙ trimmed-again bytes ∙ sym e;
      is_clean = clean.1;
      is_there = not_empty text there.0;
      is_within = clean.0;
      is_some = λ is_none. let word : bytes_eq text (codes "NONE") ≡ true = ap (λ (t : List ℕ). bytes_eq t (codes "NONE")) is_none in cc;
    } in
    (clean.0, rw same whole)

-- What a value stands for is a text within its limit.
pub text_within : (most : ℕ) (value text : List ℕ) → most < 2 ^ 32 → Represents most value text → IsTextWithin most text
text_within most value text small holds = record {
  is_text = text_of_faultless most (decoded value) text text refl holds.value (sym holds.is_faultless) small;
  is_there = holds.is_there;
  is_within = (faultless is_refused_in_text most text holds.is_faultless).0;
}

pub text_within_in : (name : List ℕ) (most : ℕ) (parent : Item) (text : List ℕ) → most < 2 ^ 32 → IsTextIn name most parent text → IsTextWithin most text
text_within_in name most parent text small t = text_within most t.child.node.text text small t.holds
