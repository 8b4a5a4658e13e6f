-- Bytes that are cut at a mark, lines and their ends, and words.
use Rattle.std.proofs.Common.{◌≡◌, ℕ, suc, ◌+◌, ◌-◌, ◌<◌, ◌≤◌, ◌⊎◌, Bool, true, false, cond, not, ◌&&◌, eqb, ltb, leb, List, [], ◌∷◌, ◌++◌, length, get_or, take, drop, reverse, Option, Some, None, refl, sym, ap, ◌∙◌, append_assoc, arith, inl, inr}
use Rattle.std.specs.Str.{bytes_eq}
use Rattle.std.specs.Str.Lines.{strip_carriage_return}
use Rattle.std.specs.List.{position_or_len, list_all, onto_first, slice_split}
use Rattle.std.proofs.lemmas.Bool.{eqb-true, eq-eqb, ne_eqb, lt-ltb, le-ltb, ltb-true, ltb-false, leb-true, and_parts, and_from, not-true, not_from_false}
use Rattle.std.proofs.lemmas.List.Folds.{list_all-append}
use Rattle.ofx_types.specs.TextRules.{is_white, trim_start, trim_end, trimmed}
use Rattle.ofx_types.proofs.Bytes.{bytes_eq_self, bytes_eq_is}
use Rattle.std.proofs.lemmas.List.{reverse-append, reverse-reverse, length-append, take_at, take_more, take_all, get_or_at}
use Rattle.std.proofs.lemmas.List.Recursion.{and_at}
use Rattle.bank_model.specs.SetupForm.{is_word_byte, IsWord}
use Rattle.bank_model.specs.SetupReading.{◌>>=◌, unless, cut, after_key, is_word_form, line_at, words_of}

eqb_self : (n : ℕ) → eqb n n ≡ true
eqb_self n = eq-eqb n n refl

some_bytes : (b : ℕ) (bs : List ℕ) → eqb (length (b ∷ bs)) 0 ≡ false
some_bytes b bs = ne_eqb _ _ (λ e. omega (arith, e))

-- ---- what was found

-- the value of a step that found one
pub bind_some : {A B : Type 0} (found : Option A) (f : A → Option B) (y : B) → (found >>= f) ≡ Some y → (x : A) × (found ≡ Some x) × (f x ≡ Some y)
bind_some (Some x) f y e = (x, refl, e)
bind_some None f y e = absurd cc

-- a test that found nothing amiss
pub unless_some : {A : Type 0} (test : Bool) (found : Option A) (y : A) → unless test found ≡ Some y → (test ≡ false) × (found ≡ Some y)
unless_some true found y e = absurd cc
unless_some false found y e = (refl, e)

pub chosen_some : {A : Type 0} (test : Bool) (x y : A) → cond test (Some x) None ≡ Some y → (test ≡ true) × (x ≡ y)
chosen_some true x y e = (refl, cc)
chosen_some false x y e = absurd cc

abbrev found : {A : Type 0} → A → Option A
found x = Some x

pub some_is : {A : Type 0} (x y : A) → found x ≡ found y → x ≡ y
some_is x y e = cc

-- ---- cutting at a mark

-- the place of the first mark, or the length
abbrev index : ℕ → List ℕ → ℕ
index mark bytes = position_or_len (λ (b : ℕ). eqb b mark) bytes

-- the parts round that place
abbrev parts_at : ℕ → List ℕ → Option (List ℕ × List ℕ)
parts_at n bytes = cond (ltb n (length bytes)) (Some (take n bytes, drop (n + 1) bytes)) None

parts_after : (b : ℕ) (bs : List ℕ) (n : ℕ) → (parts_at n bs >>= λ parts. Some (b ∷ parts.0, parts.1)) ≡ parts_at (1 + n) (b ∷ bs)
parts_after b bs n = by_cases (ltb n (length bs)) refl
  where
    next : 1 + n ≡ suc n
    next = omega arith

    by_cases : (t : Bool) → ltb n (length bs) ≡ t → (parts_at n bs >>= λ parts. Some (b ∷ parts.0, parts.1)) ≡ parts_at (1 + n) (b ∷ bs)
    by_cases true h =
        let more : ltb (suc n) (suc (length bs)) ≡ true = lt-ltb _ _ (omega (arith, ltb-true n (length bs) h)) in
        let beyond : suc n + 1 ≡ suc (n + 1) = omega arith in
        rw (next, h, more, beyond) refl
    by_cases false h =
        let less : ltb (suc n) (suc (length bs)) ≡ false = le-ltb _ _ (omega (arith, ltb-false n (length bs) h)) in
        rw (next, h, less) refl

-- the bytes are cut where the first mark stands
pub cut_at_offset : (mark : ℕ) (bytes : List ℕ) → cut mark bytes ≡ parts_at (index mark bytes) bytes
unfolding cut
cut_at_offset mark [] = refl
cut_at_offset mark (b ∷ bs) =
    elim (eqb b mark) as (λ t. cond t (Some ([], bs)) (cut mark bs >>= λ parts. Some (b ∷ parts.0, parts.1)) ≡ parts_at (cond (not t) (1 + index mark bs) 0) (b ∷ bs)) [
      | true ↦ let first : ltb 0 (length (b ∷ bs)) ≡ true = lt-ltb _ _ (omega arith) in rw first refl
      | false ↦ ap (λ (found : Option (List ℕ × List ℕ)). found >>= λ parts. Some (b ∷ parts.0, parts.1)) (cut_at_offset mark bs) ∙ parts_after b bs (index mark bs)
    ]

-- no byte is the mark
abbrev pub is_free : ℕ → List ℕ → Bool
is_free mark bytes = list_all (λ b. not (eqb b mark)) bytes

pub cut_there : (mark : ℕ) (prefix rest : List ℕ) → is_free mark prefix ≡ true → cut mark (prefix ++ mark ∷ rest) ≡ Some (prefix, rest)
unfolding cut
cut_there mark [] rest h = rw (eqb_self mark) refl
cut_there mark (b ∷ bs) rest h =
    let parts = and_parts (not (eqb b mark)) (is_free mark bs) h in
    let other : eqb b mark ≡ false = not-true _ parts.0 in
    rw (other, cut_there mark bs rest parts.1) refl

pub cut_nowhere : (mark : ℕ) (bytes : List ℕ) → is_free mark bytes ≡ true → cut mark bytes ≡ None
unfolding cut
cut_nowhere mark [] h = refl
cut_nowhere mark (b ∷ bs) h =
    let parts = and_parts (not (eqb b mark)) (is_free mark bs) h in
    let other : eqb b mark ≡ false = not-true _ parts.0 in
    rw (other, cut_nowhere mark bs parts.1) refl

-- what is cut, put together again
abbrev Joined : ℕ → List ℕ → Option (List ℕ × List ℕ) → Type 0
Joined mark bytes None = Unit {0}
Joined mark bytes (Some parts) = bytes ≡ parts.0 ++ mark ∷ parts.1

joined_after : (mark b : ℕ) (bs : List ℕ) (found : Option (List ℕ × List ℕ)) → Joined mark bs found → Joined mark (b ∷ bs) (found >>= λ parts. Some (b ∷ parts.0, parts.1))
joined_after mark b bs None h = tt
joined_after mark b bs (Some parts) h = ap (λ (l : List ℕ). b ∷ l) h

cut_joined : (mark : ℕ) (bytes : List ℕ) → Joined mark bytes (cut mark bytes)
unfolding cut
cut_joined mark [] = tt
cut_joined mark (b ∷ bs) = by_cases (eqb b mark) refl (cut_joined mark bs)
  where
    by_cases : (t : Bool) → eqb b mark ≡ t → Joined mark bs (cut mark bs) → Joined mark (b ∷ bs) (cond (eqb b mark) (Some ([], bs)) (cut mark bs >>= λ parts. Some (b ∷ parts.0, parts.1)))
    by_cases true h suffix = rw h (ap (λ (n : ℕ). n ∷ bs) (eqb-true b mark h))
    by_cases false h suffix = rw h (joined_after mark b bs (cut mark bs) suffix)

pub cut_back : (mark : ℕ) (bytes : List ℕ) (parts : List ℕ × List ℕ) → cut mark bytes ≡ Some parts → bytes ≡ parts.0 ++ mark ∷ parts.1
cut_back mark bytes parts h = let all = cut_joined mark bytes in rw h at all

-- ---- the parts between marks

abbrev pub parts_of : ℕ → List ℕ → List (List ℕ)
parts_of mark bytes = slice_split (λ (b : ℕ). eqb b mark) bytes

-- the parts, where the bytes are cut at the first mark
abbrev AreParts : ℕ → List (List ℕ) → List ℕ → Option (List ℕ × List ℕ) → Type 0
AreParts mark all bytes None = all ≡ bytes ∷ []
AreParts mark all bytes (Some parts) = all ≡ parts.0 ∷ parts_of mark parts.1

parts_after_byte : (mark b : ℕ) (bs : List ℕ) (all : List (List ℕ)) (found : Option (List ℕ × List ℕ)) → AreParts mark all bs found → AreParts mark (onto_first b all) (b ∷ bs) (found >>= λ parts. Some (b ∷ parts.0, parts.1))
parts_after_byte mark b bs all None h = ap (onto_first b) h
parts_after_byte mark b bs all (Some parts) h = ap (onto_first b) h

parts_cut : (mark : ℕ) (bytes : List ℕ) → AreParts mark (parts_of mark bytes) bytes (cut mark bytes)
unfolding cut
parts_cut mark [] = refl
parts_cut mark (b ∷ bs) =
    elim (eqb b mark) as (λ t. AreParts mark (cond t ([] ∷ parts_of mark bs) (onto_first b (parts_of mark bs))) (b ∷ bs) (cond t (Some ([], bs)) (cut mark bs >>= λ parts. Some (b ∷ parts.0, parts.1)))) [
      | true ↦ refl
      | false ↦ parts_after_byte mark b bs (parts_of mark bs) (cut mark bs) (parts_cut mark bs)
    ]

pub parts_next : (mark : ℕ) (bytes prefix rest : List ℕ) → Some (prefix, rest) ≡ cut mark bytes → parts_of mark bytes ≡ prefix ∷ parts_of mark rest
parts_next mark bytes prefix rest h = let all = parts_cut mark bytes in rw (← h) at all

pub parts_last : (mark : ℕ) (bytes : List ℕ) → None ≡ cut mark bytes → parts_of mark bytes ≡ bytes ∷ []
parts_last mark bytes h = let all = parts_cut mark bytes in rw (← h) at all

pub words_next : (bytes prefix rest : List ℕ) → Some (prefix, rest) ≡ cut 32 bytes → words_of bytes ≡ prefix ∷ words_of rest
words_next bytes prefix rest h = parts_next 32 bytes prefix rest h

pub words_last : (bytes : List ℕ) → None ≡ cut 32 bytes → words_of bytes ≡ bytes ∷ []
words_last bytes h = parts_last 32 bytes h

-- ---- a key, and what follows it

pub after_there : (key rest : List ℕ) → is_free 32 key ≡ true → after_key key (key ++ 32 ∷ rest) ≡ Some rest
unfolding after_key
after_there key rest h = rw (cut_there 32 key rest h, bytes_eq_self key) refl

pub after_back : (key line rest : List ℕ) → after_key key line ≡ Some rest → line ≡ key ++ 32 ∷ rest
unfolding after_key
after_back key line rest h =
    let a = bind_some (cut 32 line) (λ parts. cond (bytes_eq parts.0 key) (Some parts.1) None) rest h in
    let b = chosen_some (bytes_eq a.0.0 key) a.0.1 rest a.2 in
    let same : a.0.0 ≡ key = bytes_eq_is _ _ b.0 in
    cut_back 32 line a.0 a.1 ∙ ap (λ (l : List ℕ). l ++ 32 ∷ a.0.1) same ∙ ap (λ (l : List ℕ). key ++ 32 ∷ l) b.1

-- a line of another key
pub after_other : (key other rest : List ℕ) → is_free 32 other ≡ true → bytes_eq other key ≡ false → after_key key (other ++ 32 ∷ rest) ≡ None
unfolding after_key
after_other key other rest h differs = rw (cut_there 32 other rest h, differs) refl

-- ---- lines and their ends

free_at : (mark : ℕ) (bytes : List ℕ) (i : ℕ) → i < length bytes → is_free mark bytes ≡ true → eqb (get_or bytes i 0) mark ≡ false
free_at mark bytes i lt h = not-true _ (and_at (is_free mark) (λ b. not (eqb b mark)) refl (λ _ _. refl) bytes i 0 lt h)

pub return_kept : (line : List ℕ) → is_free 13 line ≡ true → strip_carriage_return line ≡ line
return_kept [] h = refl
return_kept (b ∷ bs) h =
    let last : eqb (get_or (b ∷ bs) (length (b ∷ bs) - 1) 0) 13 ≡ false = free_at 13 (b ∷ bs) (length (b ∷ bs) - 1) (omega arith) h in
    rw last refl

pub return_dropped : (line : List ℕ) → strip_carriage_return (line ++ 13 ∷ []) ≡ line
return_dropped line =
    let long : length (line ++ 13 ∷ []) ≡ length line + 1 = length-append line (13 ∷ []) in
    let last : length (line ++ 13 ∷ []) - 1 ≡ length line = omega (arith, long) in
    let byte : get_or (line ++ 13 ∷ []) (length line) 0 ≡ 13 = get_or_at line 13 [] 0 (length line) refl in
    rw (last, byte) (take_at line (13 ∷ []) (length line) refl)

-- a line is what it is without the CR at its end, or that and a CR
pub return_back : (line : List ℕ) → (line ≡ strip_carriage_return line) ⊎ (line ≡ strip_carriage_return line ++ 13 ∷ [])
return_back [] = inl refl
return_back (b ∷ bs) = by_cases (eqb (get_or (b ∷ bs) (length (b ∷ bs) - 1) 0) 13) refl
  where
    chosen : (t : Bool) → eqb (get_or (b ∷ bs) (length (b ∷ bs) - 1) 0) 13 ≡ t → strip_carriage_return (b ∷ bs) ≡ cond t (take (length (b ∷ bs) - 1) (b ∷ bs)) (b ∷ bs)
    chosen t h = ap (λ (t : Bool). cond t (take (length (b ∷ bs) - 1) (b ∷ bs)) (b ∷ bs)) h

    by_cases : (t : Bool) → eqb (get_or (b ∷ bs) (length (b ∷ bs) - 1) 0) 13 ≡ t → (b ∷ bs ≡ strip_carriage_return (b ∷ bs)) ⊎ (b ∷ bs ≡ strip_carriage_return (b ∷ bs) ++ 13 ∷ [])
    by_cases false h = inl (sym (chosen false h))
    by_cases true h =
        let all : take (length (b ∷ bs) - 1 + 1) (b ∷ bs) ≡ b ∷ bs = take_all _ _ (omega arith) in
        let more : take (length (b ∷ bs) - 1 + 1) (b ∷ bs) ≡ take (length (b ∷ bs) - 1) (b ∷ bs) ++ get_or (b ∷ bs) (length (b ∷ bs) - 1) 0 ∷ [] = take_more (b ∷ bs) (length (b ∷ bs) - 1) 0 (omega arith) in
        inr (sym all ∙ more ∙ ap (λ (x : ℕ). take (length (b ∷ bs) - 1) (b ∷ bs) ++ x ∷ []) (eqb-true _ 13 h) ∙ ap (λ (l : List ℕ). l ++ 13 ∷ []) (sym (chosen true h)))

pub line_there_lf : (line rest : List ℕ) → is_free 10 line ≡ true → is_free 13 line ≡ true → line_at (line ++ 10 ∷ rest) ≡ Some (line, rest)
unfolding line_at
line_there_lf line rest no_lf no_cr = rw (cut_there 10 line rest no_lf, return_kept line no_cr) refl

pub free_append : (mark : ℕ) (a b : List ℕ) → is_free mark a ≡ true → is_free mark b ≡ true → is_free mark (a ++ b) ≡ true
free_append mark [] b h k = k
free_append mark (x ∷ xs) b h k =
    let parts = and_parts (not (eqb x mark)) (is_free mark xs) h in
    and_from _ _ parts.0 (free_append mark xs b parts.1 k)

pub line_there_crlf : (line rest : List ℕ) → is_free 10 line ≡ true → line_at (line ++ 13 ∷ 10 ∷ rest) ≡ Some (line, rest)
unfolding line_at
line_there_crlf line rest no_lf =
    let grouped : (line ++ 13 ∷ []) ++ 10 ∷ rest ≡ line ++ 13 ∷ 10 ∷ rest = append_assoc line (13 ∷ []) (10 ∷ rest) in
    rw (← grouped, cut_there 10 (line ++ 13 ∷ []) rest (free_append 10 line (13 ∷ []) no_lf refl), return_dropped line) refl

pub line_back : (bytes : List ℕ) (line rest : List ℕ) → line_at bytes ≡ Some (line, rest) → (bytes ≡ line ++ 10 ∷ rest) ⊎ (bytes ≡ line ++ 13 ∷ 10 ∷ rest)
unfolding line_at
line_back bytes line rest h =
    let a = bind_some (cut 10 bytes) (λ parts. Some (strip_carriage_return parts.0, parts.1)) (line, rest) h in
    let e : (strip_carriage_return a.0.0, a.0.1) ≡ (line, rest) = some_is (strip_carriage_return a.0.0, a.0.1) (line, rest) a.2 in
    let line_is : strip_carriage_return a.0.0 ≡ line = ap (λ (p : List ℕ × List ℕ). p.0) e in
    let rest_is : a.0.1 ≡ rest = ap (λ (p : List ℕ × List ℕ). p.1) e in
    let whole : bytes ≡ a.0.0 ++ 10 ∷ rest = cut_back 10 bytes a.0 a.1 ∙ ap (λ (l : List ℕ). a.0.0 ++ 10 ∷ l) rest_is in
    elim (return_back a.0.0) [
      | inl same ↦ inl (whole ∙ ap (λ (l : List ℕ). l ++ 10 ∷ rest) (same ∙ line_is))
      | inr longer ↦ inr (whole ∙ ap (λ (l : List ℕ). l ++ 10 ∷ rest) (longer ∙ ap (λ (l : List ℕ). l ++ 13 ∷ []) line_is) ∙ append_assoc line (13 ∷ []) (10 ∷ rest))
    ]

-- ---- words

-- the parts of a word's test
pub word_parts : (bytes : List ℕ) → is_word_form bytes ≡ true → IsWord bytes
word_parts [] h = absurd cc
word_parts (b ∷ bs) h = by_cases (ltb 32 (length (b ∷ bs))) refl (rw (some_bytes b bs) at h)
  where
    by_cases : (t : Bool) → ltb 32 (length (b ∷ bs)) ≡ t → cond (ltb 32 (length (b ∷ bs))) false (list_all is_word_byte (b ∷ bs)) ≡ true → IsWord (b ∷ bs)
    by_cases true e k = let no : false ≡ true = rw e at k in absurd cc
    by_cases false e k = record { is_there = omega arith; is_within = ltb-false 32 _ e; is_plain = rw e at k }

pub word_passes : (bytes : List ℕ) → IsWord bytes → is_word_form bytes ≡ true
word_passes bytes w =
    let some : eqb (length bytes) 0 ≡ false = ne_eqb _ _ (λ e. omega (arith, w.is_there, e)) in
    let short : ltb 32 (length bytes) ≡ false = le-ltb _ _ w.is_within in
    rw (some, short) w.is_plain

byte_free : (mark b : ℕ) → mark < 33 → is_word_byte b ≡ true → not (eqb b mark) ≡ true
byte_free mark b low h =
    let parts = and_parts (leb 33 b) _ (and_parts (leb 33 b && leb b 126) _ h).0 in
    let high : 33 ≤ b = leb-true 33 b parts.0 in
    not_from_false _ (ne_eqb b mark (λ e. omega (arith, e)))

pub plain_free : (mark : ℕ) (word : List ℕ) → mark < 33 → list_all is_word_byte word ≡ true → is_free mark word ≡ true
plain_free mark [] low h = refl
plain_free mark (b ∷ bs) low h =
    let parts = and_parts (is_word_byte b) (list_all is_word_byte bs) h in
    and_from _ _ (byte_free mark b low parts.0) (plain_free mark bs low parts.1)

-- no space, LF or CR is in a word
pub word_free : (mark : ℕ) (word : List ℕ) → mark < 33 → IsWord word → is_free mark word ≡ true
word_free mark word low w = plain_free mark word low w.is_plain

-- ---- a word is the text that is made of it

unwhite : (b : ℕ) → is_word_byte b ≡ true → is_white b ≡ false
unwhite b h =
    let parts = and_parts (leb 33 b) _ (and_parts (leb 33 b && leb b 126) _ h).0 in
    let high : 33 ≤ b = leb-true 33 b parts.0 in
    let space : eqb b 32 ≡ false = ne_eqb b 32 (λ e. omega (arith, e)) in
    let tab : eqb b 9 ≡ false = ne_eqb b 9 (λ e. omega (arith, e)) in
    let cr : eqb b 13 ≡ false = ne_eqb b 13 (λ e. omega (arith, e)) in
    let lf : eqb b 10 ≡ false = ne_eqb b 10 (λ e. omega (arith, e)) in
    rw (space, tab, cr, lf) refl

start_kept : (word : List ℕ) → list_all is_word_byte word ≡ true → trim_start word ≡ word
start_kept [] h = refl
start_kept (b ∷ bs) h = rw (unwhite b (and_parts (is_word_byte b) (list_all is_word_byte bs) h).0) refl

plain_reverse : (word : List ℕ) → list_all is_word_byte word ≡ true → list_all is_word_byte (reverse word) ≡ true
plain_reverse [] h = refl
plain_reverse (b ∷ bs) h =
    let parts = and_parts (is_word_byte b) (list_all is_word_byte bs) h in
    let turned : reverse (b ∷ bs) ≡ reverse bs ++ b ∷ [] = reverse-append (b ∷ []) bs in
    ap (list_all is_word_byte) turned ∙ list_all-append is_word_byte (reverse bs) (b ∷ []) ∙ and_from _ _ (plain_reverse bs parts.1) (and_from _ _ parts.0 refl)

pub word_trimmed : (word : List ℕ) → is_word_form word ≡ true → trimmed word ≡ word
word_trimmed word h =
    let plain : list_all is_word_byte word ≡ true = (word_parts word h).is_plain in
    ap trim_end (start_kept word plain) ∙ ap reverse (start_kept (reverse word) (plain_reverse word plain)) ∙ reverse-reverse word
