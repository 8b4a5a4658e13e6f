-- Whole messages are read as they are written, whatever follows them, and no earlier.
use Rattle.std.proofs.Common.{◌≡◌, ℕ, zero, suc, ◌+◌, ◌-◌, ◌<◌, ◌≤◌, ◌^◌, Bool, true, false, cond, ltb, nat_eq, ◌||◌, List, [], ◌∷◌, ◌++◌, length, get_or, take, drop, Option, None, Some, Result, Ok, Err, refl, sym, ap, subst, ◌∙◌, arith, append_assoc, inl, inr}
use Rattle.std.specs.Int.{w32, from_be_bytes}
use Rattle.std.proofs.lemmas.Bool.{cases_lt, ltb-false, lt-ltb, le-ltb, eqb-true}
use Rattle.std.proofs.lemmas.List.{take_at, length-append, length-take-le, take-append-drop, take-append-le, get_or_append_left, get_or_past}
use Rattle.postgres_messages.specs.declared.kind.Kind.{Kind}
use Rattle.postgres_messages.specs.declared.kind.Kind.TheVariants as kinds
use Rattle.postgres_messages.specs.Fields.{u32_bytes, u32_in}
use Rattle.postgres_messages.specs.Messages.{Message, SignedOn, Methods, Challenge, Verifier, ProcessKey, Setting, Ready, Parsed, Bound, Row, Completed, Failed, Notice, kind_byte, body_bytes, message_bytes}
use Rattle.postgres_messages.specs.Reading.{Reading, Whole, Cut, Refused, kind_of, body_in, max_length, placed, sized_in, length_in, kind_in, read}
use Rattle.postgres_messages.specs.Laws.{IsBytes, IsWritable, BeginsWith}
use Rattle.postgres_messages.proofs.FieldLaws.{IsBytes-rest, u32_field}
use Rattle.postgres_messages.proofs.BodyLaws.{kind_in_code, kind_named, body_again, body_holds}

-- ---- what is written reads back

whole_again : (kind : Kind) (m : Message) (rest : List ℕ) → length (body_bytes m) + 4 ≤ max_length → body_in kind (body_bytes m) ≡ Ok m
    → length_in kind (Ok (length (body_bytes m) + 4, body_bytes m ++ rest)) ≡ Whole m (length (body_bytes m) + 5)
whole_again kind m rest bound body =
    let low : ltb (length (body_bytes m) + 4) 4 ≡ false = le-ltb _ _ (omega arith) in
    let high : ltb max_length (length (body_bytes m) + 4) ≡ false = le-ltb _ _ bound in
    let size : (length (body_bytes m) + 4) - 4 ≡ length (body_bytes m) = omega arith in
    let room : ltb (length (body_bytes m ++ rest)) (length (body_bytes m)) ≡ false = le-ltb _ _ (omega (arith, length-append (body_bytes m) rest)) in
    let text : take (length (body_bytes m)) (body_bytes m ++ rest) ≡ body_bytes m = take_at (body_bytes m) rest (length (body_bytes m)) refl in
    rw (low, high, size, room, text, body) refl

pub message_size : (m : Message) → length (message_bytes m) ≡ length (body_bytes m) + 5
message_size m = omega (arith, length-append (kind_byte m ∷ u32_bytes (length (body_bytes m) + 4)) (body_bytes m))

pub read_again : (m : Message) (rest : List ℕ) → IsWritable m → read (message_bytes m ++ rest) ≡ Whole m (length (message_bytes m))
unfolding read
read_again m rest writable =
    let bound : length (body_bytes m) + 4 ≤ max_length = writable.1 in
    let small : length (body_bytes m) + 4 < 2 ^ 32 = omega arith in
    let n = length (body_bytes m) + 4 in
    let same : (u32_bytes n ++ body_bytes m) ++ rest ≡ u32_bytes n ++ (body_bytes m ++ rest) = append_assoc (u32_bytes n) (body_bytes m) rest in
    let found : u32_in ((u32_bytes n ++ body_bytes m) ++ rest) ≡ Ok (n, body_bytes m ++ rest) = ap u32_in same ∙ u32_field.again n (body_bytes m ++ rest) small in
    ap (λ k. kind_in k ((u32_bytes n ++ body_bytes m) ++ rest)) (kind_named m)
    ∙ ap (length_in (kind_in_code m)) found
    ∙ whole_again (kind_in_code m) m rest bound (body_again m writable.0)
    ∙ ap (Whole m) (sym (message_size m))

-- ---- what is read is what the bytes say

abbrev wholly : Message → ℕ → Reading
wholly m size = Whole m size

whole_message : (m n : Message) (a b : ℕ) → wholly m a ≡ wholly n b → (m ≡ n) × (a ≡ b)
whole_message m n a b e = (cc, cc)

placed_ok : (size : ℕ) (r : Result Message ℕ) (m : Message) (count : ℕ) → placed size r ≡ Whole m count → (r ≡ Ok m) × (count ≡ size + 5)
placed_ok size (Err left) m count e = absurd cc
placed_ok size (Ok n) m count e = let w = whole_message n m (size + 5) count e in (ap (λ (x : Message). let r : Result Message ℕ = Ok x in r) w.0, sym w.1)

sized_ok : (kind : Kind) (size : ℕ) (rest : List ℕ) (m : Message) (count : ℕ) (b : Bool) → ltb (length rest) size ≡ b → cond b Cut (placed size (body_in kind (take size rest))) ≡ Whole m count
    → (size ≤ length rest) × (body_in kind (take size rest) ≡ Ok m) × (count ≡ size + 5)
sized_ok kind size rest m count true h e = absurd cc
sized_ok kind size rest m count false h e = let p = placed_ok size (body_in kind (take size rest)) m count e in (ltb-false _ _ h, p.0, p.1)

pub record Sized (kind : Kind) (n : ℕ) (rest : List ℕ) (m : Message) (count : ℕ) : Type 0 where
  pub low : 4 ≤ n
  pub high : n ≤ max_length
  pub room : n - 4 ≤ length rest
  pub body : body_in kind (take (n - 4) rest) ≡ Ok m
  pub count_is : count ≡ (n - 4) + 5

bounds_ok : (kind : Kind) (n : ℕ) (rest : List ℕ) (m : Message) (count : ℕ) (low high : Bool) → ltb n 4 ≡ low → ltb max_length n ≡ high → cond (low || high) (Refused 1) (sized_in kind (n - 4) rest) ≡ Whole m count
    → Sized kind n rest m count
bounds_ok kind n rest m count true high l h e = absurd cc
bounds_ok kind n rest m count false true l h e = absurd cc
bounds_ok kind n rest m count false false l h e =
    let s = sized_ok kind (n - 4) rest m count (ltb (length rest) (n - 4)) refl e in
    record { low = ltb-false _ _ l; high = ltb-false _ _ h; room = s.0; body = s.1; count_is = s.2 }

length_ok : (kind : Kind) (r : Result (ℕ × List ℕ) ℕ) (m : Message) (count : ℕ) → length_in kind r ≡ Whole m count → (found : ℕ × List ℕ) × (r ≡ Ok found) × Sized kind found.0 found.1 m count
length_ok kind (Err left) m count e = absurd cc
length_ok kind (Ok found) m count e = (found, refl, bounds_ok kind found.0 found.1 m count (ltb found.0 4) (ltb max_length found.0) refl refl e)

kind_ok : (k : Option Kind) (rest : List ℕ) (m : Message) (count : ℕ) → kind_in k rest ≡ Whole m count → (kind : Kind) × (k ≡ Some kind) × (length_in kind (u32_in rest) ≡ Whole m count)
kind_ok None rest m count e = absurd cc
kind_ok (Some kind) rest m count e = (kind, refl, e)

abbrev byte_of : Kind → ℕ
byte_of kinds.Authentication = 82
byte_of kinds.KeyData = 75
byte_of kinds.ParameterStatus = 83
byte_of kinds.ReadyForQuery = 90
byte_of kinds.ParseComplete = 49
byte_of kinds.BindComplete = 50
byte_of kinds.DataRow = 68
byte_of kinds.CommandComplete = 67
byte_of kinds.ErrorResponse = 69
byte_of kinds.NoticeResponse = 78

byte_is : (m : Message) → byte_of (kind_in_code m) ≡ kind_byte m
byte_is SignedOn = refl
byte_is (Methods names) = refl
byte_is (Challenge text) = refl
byte_is (Verifier text) = refl
byte_is (ProcessKey process key) = refl
byte_is (Setting name value) = refl
byte_is Ready = refl
byte_is Parsed = refl
byte_is Bound = refl
byte_is (Row values) = refl
byte_is (Completed tag) = refl
byte_is (Failed report) = refl
byte_is (Notice report) = refl

abbrev some : Kind → Option Kind
some k = Some k

same_kind : (a b : Kind) → some a ≡ some b → a ≡ b
same_kind a b e = cc

-- one of the kinds, or one of those after it
either : (b : ℕ) (one : Bool) (k : Kind) (others : Option Kind) (found : Kind) → nat_eq b (byte_of k) ≡ one → cond one (Some k) others ≡ Some found → (others ≡ Some found → b ≡ byte_of found) → b ≡ byte_of found
either b true k others found h e more = eqb-true b (byte_of k) h ∙ ap byte_of (same_kind k found e)
either b false k others found h e more = more e

kind_byte_is : (b : ℕ) (found : Kind) → kind_of b ≡ Some found → b ≡ byte_of found
kind_byte_is b found e =
    either b (nat_eq b 82) kinds.Authentication _ found refl e λ e.
    either b (nat_eq b 75) kinds.KeyData _ found refl e λ e.
    either b (nat_eq b 83) kinds.ParameterStatus _ found refl e λ e.
    either b (nat_eq b 90) kinds.ReadyForQuery _ found refl e λ e.
    either b (nat_eq b 49) kinds.ParseComplete _ found refl e λ e.
    either b (nat_eq b 50) kinds.BindComplete _ found refl e λ e.
    either b (nat_eq b 68) kinds.DataRow _ found refl e λ e.
    either b (nat_eq b 67) kinds.CommandComplete _ found refl e λ e.
    either b (nat_eq b 69) kinds.ErrorResponse _ found refl e λ e.
    either b (nat_eq b 78) kinds.NoticeResponse _ found refl e λ e. absurd cc

IsBytes-front : (front rest bytes : List ℕ) → bytes ≡ front ++ rest → IsBytes bytes → IsBytes front
IsBytes-front front rest bytes e fits i =
    elim (cases_lt i (length front)) [
      | inl lt ↦ let P : ℕ → Type 0 = λ n. n < 256 in
          subst P (ap (λ (t : List ℕ). get_or t i 0) e ∙ get_or_append_left front rest 0 i lt) (fits i)
      | inr le ↦ rw (get_or_past front i 0 le) (omega arith)
    ]

message_spelled : (b n : ℕ) (rest tail : List ℕ) (kind : Kind) (m : Message) (count : ℕ) → IsBytes (b ∷ rest) → b ≡ byte_of kind → rest ≡ u32_bytes n ++ tail → Sized kind n tail m count
    → BeginsWith (b ∷ rest) m count
message_spelled b n rest tail kind m count fits named parts s =
    let size = n - 4 in
    let room = s.room in
    let low = s.low in
    let high = s.high in
    let body_fits : IsBytes (take size tail) = IsBytes-front (take size tail) (drop size tail) tail (sym (take-append-drop size tail)) (IsBytes-rest (b ∷ u32_bytes n) tail (b ∷ rest) (ap (λ (t : List ℕ). b ∷ t) parts) fits) in
    let h = body_holds kind (take size tail) m body_fits s.body in
    let long : length (body_bytes m) ≡ size = ap length (sym h.0) ∙ length-take-le size tail room in
    let is_n : length (body_bytes m) + 4 ≡ n = omega arith in
    let is_byte : b ≡ kind_byte m = named ∙ ap byte_of h.2 ∙ byte_is m in
    let all : b ∷ rest ≡ message_bytes m ++ drop size tail =
    ap (λ (x : ℕ). x ∷ rest) is_byte ∙ ap (λ (t : List ℕ). kind_byte m ∷ t) (
    parts ∙ ap (λ (t : List ℕ). u32_bytes n ++ t) (sym (take-append-drop size tail) ∙ ap (λ (t : List ℕ). t ++ drop size tail) h.0)
    ∙ ap (λ (k : ℕ). u32_bytes k ++ (body_bytes m ++ drop size tail)) (sym is_n) ∙ sym (append_assoc (u32_bytes (length (body_bytes m) + 4)) (body_bytes m) (drop size tail))) in
    let whole_size : length (message_bytes m) ≡ count = message_size m ∙ ap (λ (k : ℕ). k + 5) long ∙ sym s.count_is in
    let total : length (b ∷ rest) ≡ length (message_bytes m) + length (drop size tail) = ap length all ∙ length-append (message_bytes m) (drop size tail) in
    record {
      spelled = ap (take count) all ∙ take_at (message_bytes m) (drop size tail) count whole_size;
      within = omega arith;
      writable = (h.1, omega arith);
    }

pub read_holds : (bytes : List ℕ) (m : Message) (count : ℕ) → IsBytes bytes → read bytes ≡ Whole m count → BeginsWith bytes m count
unfolding read
read_holds [] m count fits e = absurd cc
read_holds (b ∷ rest) m count fits e =
    let k = kind_ok (kind_of b) rest m count e in
    let l = length_ok k.0 (u32_in rest) m count k.2 in
    let f = u32_field.holds rest l.0 (IsBytes-rest (b ∷ []) rest (b ∷ rest) refl fits) l.1 in
    message_spelled b l.0.0 rest l.0.1 k.0 m count fits (kind_byte_is b k.0 k.1) f.0 l.2

-- ---- the beginning of a message

short_body : (kind : Kind) (m : Message) (n : ℕ) → length (body_bytes m) + 4 ≤ max_length → n < length (body_bytes m) → length_in kind (Ok (length (body_bytes m) + 4, take n (body_bytes m))) ≡ Cut
short_body kind m n bound lt =
    let low : ltb (length (body_bytes m) + 4) 4 ≡ false = le-ltb _ _ (omega arith) in
    let high : ltb max_length (length (body_bytes m) + 4) ≡ false = le-ltb _ _ bound in
    let size : (length (body_bytes m) + 4) - 4 ≡ length (body_bytes m) = omega arith in
    let part : length (take n (body_bytes m)) ≡ n = length-take-le n (body_bytes m) (omega arith) in
    let room : ltb (length (take n (body_bytes m))) (length (body_bytes m)) ≡ true = lt-ltb _ _ (omega arith) in
    rw (low, high, size, room) refl

cut_head : (kind : Kind) (m : Message) (n : ℕ) → length (body_bytes m) + 4 ≤ max_length → n < length (body_bytes m) + 4 → length_in kind (u32_in (take n (u32_bytes (length (body_bytes m) + 4) ++ body_bytes m))) ≡ Cut
unfolding u32_in
cut_head kind m zero bound lt = refl
cut_head kind m (suc zero) bound lt = refl
cut_head kind m (suc (suc zero)) bound lt = refl
cut_head kind m (suc (suc (suc zero))) bound lt = refl
cut_head kind m (suc (suc (suc (suc n)))) bound lt =
    ap (length_in kind) (u32_field.again (length (body_bytes m) + 4) (take n (body_bytes m)) (omega arith)) ∙ short_body kind m n bound (omega arith)

pub read_cut : (m : Message) (n : ℕ) → IsWritable m → n < length (message_bytes m) → read (take n (message_bytes m)) ≡ Cut
unfolding read
read_cut m zero writable lt = refl
read_cut m (suc n) writable lt =
    let size = message_size m in
    ap (λ k. kind_in k (take n (u32_bytes (length (body_bytes m) + 4) ++ body_bytes m))) (kind_named m)
    ∙ cut_head (kind_in_code m) m n writable.1 (omega arith)

-- ---- refusals

sized_more : (kind : Kind) (size : ℕ) (tail more : List ℕ) (place : ℕ) (short : Bool) → ltb (length tail) size ≡ short → cond short Cut (placed size (body_in kind (take size tail))) ≡ Refused place
    → sized_in kind size (tail ++ more) ≡ Refused place
sized_more kind size tail more place true h e = absurd cc
sized_more kind size tail more place false h e =
    let room : size ≤ length tail = ltb-false _ _ h in
    let still : ltb (length (tail ++ more)) size ≡ false = le-ltb _ _ (omega (arith, length-append tail more)) in
    rw (still, take-append-le size tail more room) e

length_more : (kind : Kind) (n : ℕ) (tail more : List ℕ) (place : ℕ) (outside : Bool) → cond outside (Refused 1) (sized_in kind (n - 4) tail) ≡ Refused place
    → cond outside (Refused 1) (sized_in kind (n - 4) (tail ++ more)) ≡ Refused place
length_more kind n tail more place true e = e
length_more kind n tail more place false e = sized_more kind (n - 4) tail more place (ltb (length tail) (n - 4)) refl e

head_more : (kind : Kind) (rest more : List ℕ) (place : ℕ) → length_in kind (u32_in rest) ≡ Refused place → length_in kind (u32_in (rest ++ more)) ≡ Refused place
unfolding u32_in
head_more kind [] more place e = absurd cc
head_more kind (a ∷ []) more place e = absurd cc
head_more kind (a ∷ b ∷ []) more place e = absurd cc
head_more kind (a ∷ b ∷ c ∷ []) more place e = absurd cc
head_more kind (a ∷ b ∷ c ∷ d ∷ tail) more place e =
    let n = from_be_bytes w32 (a ∷ b ∷ c ∷ d ∷ []) in
    length_more kind n tail more place (ltb n 4 || ltb max_length n) e

kind_more : (k : Option Kind) (rest more : List ℕ) (place : ℕ) → kind_in k rest ≡ Refused place → kind_in k (rest ++ more) ≡ Refused place
kind_more None rest more place e = e
kind_more (Some kind) rest more place e = head_more kind rest more place e

pub read_more : (bytes more : List ℕ) (place : ℕ) → read bytes ≡ Refused place → read (bytes ++ more) ≡ Refused place
unfolding read
read_more [] more place e = absurd cc
read_more (b ∷ rest) more place e = kind_more (kind_of b) rest more place e
