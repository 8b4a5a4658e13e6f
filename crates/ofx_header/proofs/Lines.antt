-- One line of a header: what reading finds is spelled so, what is spelled so is found, and a fault is that of the rule.
use Rattle.std.proofs.Common.{◌≡◌, ℕ, suc, ◌+◌, ◌<◌, ◌≤◌, Bool, true, false, not, ◌&&◌, ◌||◌, cond, List, [], ◌∷◌, ◌++◌, length, take, drop, position, nat_eq, nat_lt, Option, None, Some, is_some, Result, Ok, Err, refl, sym, ap, ◌∙◌, append_assoc, arith, rules}
use Rattle.std.proofs.lemmas.Grind.{common_steps}
use Rattle.std.proofs.lemmas.List.{length-append, length-drop, length-take-le, drop-drop}
use Rattle.std.proofs.Math.Seq.{drop-append_seam, take-append_seam}
use Rattle.std.proofs.lemmas.Bool.Decides.{Decides-eqb}
use Rattle.std.proofs.lemmas.Slice.Eq.{starts_is}
use Rattle.std.specs.List.{list_all, list_any, starts_with, position_or_len}
use Rattle.ofx_types.specs.TextRules.{trimmed}
use Rattle.ofx_types.specs.HeaderForm.{is_line_feed, IsHeaderLine, HeaderRule, rule, value_after, line_fault, or_else, fault_from}
use Rattle.ofx_types.specs.declared.fault.HeaderFault.{HeaderFault}
use Rattle.ofx_types.specs.declared.fault.HeaderFault.TheVariants.{Line, Value, Cut}
use Rattle.ofx_header.specs.HeaderReading.{◌>>=◌, after_mark, raw_at, if_allowed, line_at}

abbrev pub is_on_line : ℕ → Bool
is_on_line b = not (is_line_feed b)

-- ---- where a line ends

less_test : (a b : ℕ) → a < b → nat_lt a b ≡ true
less_test a b h = grind (arith, common_steps)

less_suc : (a b : ℕ) → nat_lt (1 + a) (suc b) ≡ nat_lt a b
less_suc a b = grind (arith, common_steps)

-- an LF is there where the first one has an offset
any_is_offset : (bytes : List ℕ) → list_any is_line_feed bytes ≡ nat_lt (position_or_len is_line_feed bytes) (length bytes)
any_is_offset [] = refl
any_is_offset (b ∷ bs) =
    elim (nat_eq b 10) as (λ t. (t || list_any is_line_feed bs) ≡ nat_lt (cond (not t) (1 + position_or_len is_line_feed bs) 0) (suc (length bs)))
    [ true ↦ sym (less_test 0 (suc (length bs)) (omega arith)) | false ↦ any_is_offset bs ∙ sym (less_suc _ _) ]

one_more : (n : ℕ) → 1 + n ≡ suc n
one_more n = omega arith

same_number : (a b : ℕ) → nat_eq a b ≡ true → a ≡ b
same_number a b h = grind (arith, common_steps)

-- the bytes up to an LF at this offset, that LF, and those after it
abbrev SplitsAt : List ℕ → ℕ → Type 0
SplitsAt bytes size = (bytes ≡ take size bytes ++ 10 ∷ drop (suc size) bytes) × (list_all is_on_line (take size bytes) ≡ true)

splits_later : (b : ℕ) (bs : List ℕ) (size : ℕ) → nat_eq b 10 ≡ false → SplitsAt bs size → SplitsAt (b ∷ bs) (suc size)
splits_later b bs size e (split, on) = (ap (λ x. b ∷ x) split, rw (e, on) refl)

split_at_end : (bytes : List ℕ) → nat_lt (position_or_len is_line_feed bytes) (length bytes) ≡ true → SplitsAt bytes (position_or_len is_line_feed bytes)
split_at_end [] h = cc
split_at_end (b ∷ bs) h = by_cases (nat_eq b 10) refl h (split_at_end bs)
  where
    by_cases : (t : Bool) → nat_eq b 10 ≡ t → nat_lt (position_or_len is_line_feed (b ∷ bs)) (suc (length bs)) ≡ true →
        (nat_lt (position_or_len is_line_feed bs) (length bs) ≡ true → SplitsAt bs (position_or_len is_line_feed bs)) → SplitsAt (b ∷ bs) (position_or_len is_line_feed (b ∷ bs))
    by_cases true e there again = rw e (ap (λ x. x ∷ bs) (same_number b 10 e), refl)
    by_cases false e there again =
        let there_after : nat_lt (position_or_len is_line_feed bs) (length bs) ≡ true = sym (less_suc _ _) ∙ rw e at there in
        rw (e, one_more) (splits_later b bs _ e (again there_after))

both : (x y : Bool) → (x && y) ≡ true → (x ≡ true) × (y ≡ true)
both true y e = (refl, e)
both false y e = cc

-- the first LF comes after bytes without one
end_is : (line rest : List ℕ) → list_all is_on_line line ≡ true → position_or_len is_line_feed (line ++ 10 ∷ rest) ≡ length line
end_is [] rest on = refl
end_is (b ∷ bs) rest on =
    let parts = both (is_on_line b) (list_all is_on_line bs) on in
    rw (parts.0, end_is bs rest parts.1, one_more) refl

offset_is : (line rest : List ℕ) → list_all is_on_line line ≡ true → position is_line_feed (line ++ 10 ∷ rest) ≡ Some (length line)
offset_is line rest on =
    let there : nat_lt (length line) (length (line ++ 10 ∷ rest)) ≡ true = less_test _ _ (simp length-append (omega arith)) in
    rw (end_is line rest on, there) refl

-- what holds of each byte holds of each after a front
all_after : (prefix rest : List ℕ) → list_all is_on_line (prefix ++ rest) ≡ true → list_all is_on_line rest ≡ true
all_after [] rest h = h
all_after (b ∷ bs) rest h = all_after bs rest (both (is_on_line b) _ h).1

pub all_joined : (prefix rest : List ℕ) → list_all is_on_line prefix ≡ true → list_all is_on_line rest ≡ true → list_all is_on_line (prefix ++ rest) ≡ true
all_joined [] rest p q = q
all_joined (b ∷ bs) rest p q = let parts = both (is_on_line b) _ p in rw (parts.0, all_joined bs rest parts.1 q) refl

-- ---- what is read is spelled so

-- a step that gave something had something
pub bind_ok : {A B : Type 0} (r : Result A HeaderFault) (f : A → Result B HeaderFault) (y : B) → (r >>= f) ≡ Ok y → (x : A) × (r ≡ Ok x) × (f x ≡ Ok y)
bind_ok (Err fault) f y h = cc
bind_ok (Ok x) f y h = (x, refl, h)

guard_ok : {A : Type 0} (b : Bool) (x y : A) (fault : HeaderFault) → cond b (Ok x) (Err fault) ≡ Ok y → (b ≡ true) × (x ≡ y)
guard_ok true x y fault h = (refl, cc)
guard_ok false x y fault h = cc

-- What follows the mark, up to the line's end.
record IsRaw (mark bytes : List ℕ) (at : ℕ) (raw : List ℕ) (next : ℕ) : Type 0 where
  split : drop at bytes ≡ mark ++ (raw ++ 10 ∷ drop next bytes)
  on_line : list_all is_on_line raw ≡ true
  within : next ≤ length bytes

after_found : (number : ℕ) (mark bytes : List ℕ) (at size : ℕ) (there : Bool) (raw : List ℕ × ℕ) → after_mark number mark bytes at (cond there (Some size) None) ≡ Ok raw →
    (there ≡ true) × (starts_with nat_eq (take size (drop at bytes)) mark ≡ true) × (raw.0 ≡ drop (length mark) (take size (drop at bytes))) × (raw.1 ≡ at + size + 1)
after_found number mark bytes at size false raw h = cc
after_found number mark bytes at size true raw h =
    let parts = guard_ok _ _ raw _ h in (refl, parts.0, ap (λ x. x.0) (sym parts.1), ap (λ x. x.1) (sym parts.1))

less : (a b : ℕ) → nat_lt a b ≡ true → a < b
less a b h = grind (arith, common_steps)

after_it : (bytes : List ℕ) (at size next : ℕ) → next ≡ at + size + 1 → drop (suc size) (drop at bytes) ≡ drop next bytes
after_it bytes at size next e =
    let offset : at + suc size ≡ next = omega arith in
    drop-drop (suc size) at bytes ∙ ap (λ n. drop n bytes) offset

raw_found : (number : ℕ) (mark bytes : List ℕ) (at : ℕ) (raw : List ℕ × ℕ) → at ≤ length bytes → raw_at number mark bytes at ≡ Ok raw → IsRaw mark bytes at raw.0 raw.1
unfolding raw_at
raw_found number mark bytes at raw h read =
    let size = position_or_len is_line_feed (drop at bytes) in
    let parts = after_found number mark bytes at size _ raw read in
    let ends : SplitsAt (drop at bytes) size = split_at_end (drop at bytes) parts.0 in
    let marked : take size (drop at bytes) ≡ mark ++ raw.0 =
    (starts_is Decides-eqb (take size (drop at bytes)) mark true (sym parts.1)).0 refl ∙ ap (λ x. mark ++ x) (sym parts.2) in
    let within : size < length (drop at bytes) = less _ _ parts.0 in
    record {
      split = ends.0 ∙ rw (marked, after_it bytes at size raw.1 parts.3) (append_assoc mark raw.0 _);
      on_line = all_after mark raw.0 (rw marked at ends.1);
      within = omega (arith, length-drop at bytes, parts.3);
    }

-- A line of the header is found: what its value stands for, and the offset after it.
pub record IsFound {A : Type 0} (meaning : List ℕ → Option A) (tag bytes : List ℕ) (at : ℕ) (x : A) (next : ℕ) : Type 0 where
  pub line : List ℕ
  pub value : List ℕ
  pub is_line : IsHeaderLine tag value line
  pub means : meaning value ≡ Some x
  pub split : drop at bytes ≡ line ++ drop next bytes
  pub within : next ≤ length bytes

allowed_found : {A : Type 0} (number at next : ℕ) (meant : Option A) (found : A × ℕ) → if_allowed number at next meant ≡ Ok found → (meant ≡ Some found.0) × (next ≡ found.1)
allowed_found number at next None found h = cc
allowed_found number at next (Some x) found h = (cc, cc)

joined_line : (tag raw rest : List ℕ) → (tag ++ 58 ∷ []) ++ (raw ++ 10 ∷ rest) ≡ (tag ++ 58 ∷ (raw ++ 10 ∷ [])) ++ rest
joined_line tag raw rest = simp append_assoc

line_found : {A : Type 0} (meaning : List ℕ → Option A) (number : ℕ) (tag bytes : List ℕ) (at : ℕ) (found : A × ℕ) → at ≤ length bytes →
    line_at meaning number (tag ++ 58 ∷ []) bytes at ≡ Ok found → IsFound meaning tag bytes at found.0 found.1
unfolding line_at
line_found meaning number tag bytes at found h read =
    let steps = bind_ok (raw_at number (tag ++ 58 ∷ []) bytes at) _ found read in
    let raw = steps.0 in
    let is_raw : IsRaw (tag ++ 58 ∷ []) bytes at raw.0 raw.1 = raw_found number (tag ++ 58 ∷ []) bytes at raw h steps.1 in
    let parts = allowed_found number at raw.1 (meaning (trimmed raw.0)) found steps.2 in
    record {
      line = tag ++ 58 ∷ (raw.0 ++ 10 ∷ []);
      value = trimmed raw.0;
      is_line = record { raw = raw.0; spelled = refl; on_line = is_raw.on_line; meant = refl };
      means = parts.0;
      split = is_raw.split ∙ joined_line tag raw.0 _ ∙ ap (λ n. (tag ++ 58 ∷ (raw.0 ++ 10 ∷ [])) ++ drop n bytes) parts.1;
      within = rw (← parts.1) is_raw.within;
    }

-- where a line and what follows it are read, the line is found
pub line_then : {A B : Type 0} (meaning : List ℕ → Option A) (number : ℕ) (tag bytes : List ℕ) (at : ℕ) (next : A × ℕ → Result B HeaderFault) (y : B) → at ≤ length bytes →
    (line_at meaning number (tag ++ 58 ∷ []) bytes at >>= next) ≡ Ok y → (x : A × ℕ) × IsFound meaning tag bytes at x.0 x.1 × (next x ≡ Ok y)
line_then meaning number tag bytes at next y h read =
    let steps = bind_ok (line_at meaning number (tag ++ 58 ∷ []) bytes at) next y read in
    (steps.0, line_found meaning number tag bytes at steps.0 h steps.1, steps.2)

-- ---- what is spelled so is read

marked_again : (mark raw : List ℕ) → starts_with nat_eq (mark ++ raw) mark ≡ true
marked_again mark raw = (starts_is Decides-eqb (mark ++ raw) mark _ refl).1 raw refl

after_again : (number : ℕ) (mark raw rest bytes : List ℕ) (at : ℕ) → drop at bytes ≡ (mark ++ raw) ++ 10 ∷ rest →
    after_mark number mark bytes at (Some (length (mark ++ raw))) ≡ Ok (raw, at + length (mark ++ raw) + 1)
after_again number mark raw rest bytes at e =
    rw (e, take-append_seam (mark ++ raw) (10 ∷ rest), marked_again mark raw, drop-append_seam mark raw) refl

raw_again : (number : ℕ) (mark raw rest bytes : List ℕ) (at : ℕ) → drop at bytes ≡ (mark ++ raw) ++ 10 ∷ rest → list_all is_on_line (mark ++ raw) ≡ true →
    raw_at number mark bytes at ≡ Ok (raw, at + length (mark ++ raw) + 1)
unfolding raw_at
raw_again number mark raw rest bytes at e on =
    ap (λ o. after_mark number mark bytes at o) (ap (λ x. position is_line_feed x) e ∙ offset_is (mark ++ raw) rest on)
    ∙ after_again number mark raw rest bytes at e

-- A mark has no LF.
abbrev pub IsMark : List ℕ → Type 0
IsMark tag = list_all is_on_line (tag ++ 58 ∷ []) ≡ true

line_length : (tag raw : List ℕ) → length ((tag ++ 58 ∷ []) ++ raw) + 1 ≡ length (tag ++ 58 ∷ (raw ++ 10 ∷ []))
line_length tag raw = simp length-append (omega arith)

pub line_again : {A : Type 0} (meaning : List ℕ → Option A) (number : ℕ) (tag value line bytes rest : List ℕ) (at : ℕ) (x : A) → IsMark tag →
    IsHeaderLine tag value line → meaning value ≡ Some x → drop at bytes ≡ line ++ rest →
    (line_at meaning number (tag ++ 58 ∷ []) bytes at ≡ Ok (x, at + length line)) × (drop (at + length line) bytes ≡ rest)
unfolding line_at
line_again meaning number tag value line bytes rest at x mark is means split =
    let spelled : drop at bytes ≡ ((tag ++ 58 ∷ []) ++ is.raw) ++ 10 ∷ rest = split ∙ ap (λ l. l ++ rest) is.spelled ∙ sym (joined_line tag is.raw rest) ∙ sym (append_assoc (tag ++ 58 ∷ []) is.raw (10 ∷ rest)) in
    let read = raw_again number (tag ++ 58 ∷ []) is.raw rest bytes at spelled (all_joined (tag ++ 58 ∷ []) is.raw mark is.on_line) in
    let offset : at + length ((tag ++ 58 ∷ []) ++ is.raw) + 1 ≡ at + length line = omega (arith, line_length tag is.raw, ap length is.spelled) in
    (rw (read, ← is.meant, means, offset) refl, sym (drop-drop (length line) at bytes) ∙ ap (λ l. drop (length line) l) split ∙ drop-append_seam line rest)

-- ---- a fault is that of the rule

-- the fault of what is read, if any
abbrev pub fault_of : {A : Type 0} → Result A HeaderFault → Option HeaderFault
fault_of (Ok x) = None
fault_of (Err fault) = Some fault

allowed_step : {A B : Type 0} (number at offset : ℕ) (meant : Option A) (allowed : Bool) (later : Option HeaderFault) (next : A × ℕ → Result B HeaderFault) →
    allowed ≡ is_some meant → ((x : A) → later ≡ fault_of (next (x, offset))) →
    or_else (cond allowed None (Some (Value number at))) later ≡ fault_of (if_allowed number at offset meant >>= next)
allowed_step number at offset None allowed later next same ends = rw same refl
allowed_step number at offset (Some x) allowed later next same ends = rw same (ends x)

marked_step : {A B : Type 0} (meaning : List ℕ → Option A) (number at offset : ℕ) (marked allowed : Bool) (raw : List ℕ) (later : Option HeaderFault) (next : A × ℕ → Result B HeaderFault) →
    allowed ≡ is_some (meaning (trimmed raw)) → ((x : A) → later ≡ fault_of (next (x, offset))) →
    let rest : Result (List ℕ × ℕ) HeaderFault = cond marked (Ok (raw, offset)) (Err (Line number at)) in
    or_else (cond marked (cond allowed None (Some (Value number at))) (Some (Line number at))) later
    ≡ fault_of ((rest >>= λ x. if_allowed number at x.1 (meaning (trimmed x.0))) >>= next)
marked_step meaning number at offset true allowed raw later next same ends = allowed_step number at offset (meaning (trimmed raw)) allowed later next same ends
marked_step meaning number at offset false allowed raw later next same ends = refl

mark_length : (tag : List ℕ) → length (tag ++ 58 ∷ []) ≡ length tag + 1
mark_length tag = simp length-append

ended_step : {A B : Type 0} (meaning : List ℕ → Option A) (allows : List ℕ → Bool) (number : ℕ) (tag bytes : List ℕ) (at size : ℕ) (rules : List HeaderRule) (next : A × ℕ → Result B HeaderFault) →
    ((value : List ℕ) → allows value ≡ is_some (meaning value)) → at ≤ length bytes → size < length (drop at bytes) →
    ((x : A × ℕ) → x.1 ≤ length bytes → fault_from rules (number + 1) x.1 (drop x.1 bytes) ≡ fault_of (next x)) →
    let line = take size (drop at bytes) in
    or_else (line_fault (rule tag allows) number at line) (fault_from rules (number + 1) (at + length line + 1) (drop (length line + 1) (drop at bytes)))
    ≡ fault_of ((after_mark number (tag ++ 58 ∷ []) bytes at (Some size) >>= λ raw. if_allowed number at raw.1 (meaning (trimmed raw.0))) >>= next)
unfolding line_fault
ended_step meaning allows number tag bytes at size rules next same h there later =
    let line = take size (drop at bytes) in
    let whole : length line ≡ size = length-take-le size (drop at bytes) (omega arith) in
    let offset : at + (size + 1) ≡ at + size + 1 = omega arith in
    let within : at + size + 1 ≤ length bytes = omega (arith, length-drop at bytes) in
    rw (whole, drop-drop (size + 1) at bytes, offset)
    (marked_step meaning number at (at + size + 1) (starts_with nat_eq line (tag ++ 58 ∷ [])) (allows (value_after tag line)) (drop (length (tag ++ 58 ∷ [])) line)
    (fault_from rules (number + 1) (at + size + 1) (drop (at + size + 1) bytes)) next
    (rw (← mark_length tag) (same _)) (λ x. later (x, at + size + 1) within))

-- One line's fault comes first, and otherwise that of the lines after it.
pub fault_step : {A B : Type 0} (meaning : List ℕ → Option A) (allows : List ℕ → Bool) (number : ℕ) (tag bytes : List ℕ) (at : ℕ) (rules : List HeaderRule) (next : A × ℕ → Result B HeaderFault) →
    ((value : List ℕ) → allows value ≡ is_some (meaning value)) → at ≤ length bytes →
    ((x : A × ℕ) → x.1 ≤ length bytes → fault_from rules (number + 1) x.1 (drop x.1 bytes) ≡ fault_of (next x)) →
    fault_from (rule tag allows ∷ rules) number at (drop at bytes) ≡ fault_of (line_at meaning number (tag ++ 58 ∷ []) bytes at >>= next)
unfolding fault_from line_at raw_at
fault_step meaning allows number tag bytes at rules next same h later =
    rw (any_is_offset (drop at bytes)) (by_cases (nat_lt (position_or_len is_line_feed (drop at bytes)) (length (drop at bytes))) refl)
  where
    by_cases : (there : Bool) → nat_lt (position_or_len is_line_feed (drop at bytes)) (length (drop at bytes)) ≡ there →
        let line = take (position_or_len is_line_feed (drop at bytes)) (drop at bytes) in
        cond there (or_else (line_fault (rule tag allows) number at line) (fault_from rules (number + 1) (at + length line + 1) (drop (length line + 1) (drop at bytes)))) (Some (Cut (at + length (drop at bytes))))
        ≡ fault_of ((after_mark number (tag ++ 58 ∷ []) bytes at (cond there (Some (position_or_len is_line_feed (drop at bytes))) None) >>= λ raw. if_allowed number at raw.1 (meaning (trimmed raw.0))) >>= next)
    by_cases true e = ended_step meaning allows number tag bytes at _ rules next same h (less _ _ e) later
    by_cases false e = let whole : at + length (drop at bytes) ≡ length bytes = omega (arith, length-drop at bytes) in ap (λ n. Some (Cut n)) whole
