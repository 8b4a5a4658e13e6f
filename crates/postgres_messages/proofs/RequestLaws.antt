-- A client's messages are read by a server as they are written.
use Rattle.std.proofs.Common.{◌≡◌, ℕ, suc, ◌+◌, ◌-◌, ◌^◌, ◌<◌, ◌≤◌, Bool, true, false, cond, ltb, nat_eq, List, [], ◌∷◌, ◌++◌, length, get_or, map, Option, None, Some, is_none, Ok, refl, sym, ap, ◌∙◌, arith, append_assoc}
use Rattle.std.specs.Prelude.{◌&&◌, codes, nat_le}
use Rattle.std.specs.List.{flat_map, list_all, position_or_len}
use Rattle.std.specs.Str.{bytes_eq}
use Rattle.std.proofs.lemmas.Grind.{common_steps}
use Rattle.std.proofs.lemmas.Bool.{ltb-true, ltb-false, le-ltb}
use Rattle.std.proofs.lemmas.List.{take_at, drop_at, length-append, append-nil}
use Rattle.std.proofs.lemmas.List.Sums.{fails_before_first}
use Rattle.std.proofs.lemmas.Slice.Eq.{bytes_eq-Decides}
use Rattle.postgres_messages.specs.Fields.{u16_bytes, u32_bytes, u16_in, is_zero, IsText, text_bytes, absent, value_bytes, after_values, values_of}
use Rattle.postgres_messages.specs.Messages.{framed}
use Rattle.postgres_messages.specs.Reading.{max_length}
use Rattle.postgres_messages.specs.Requests.{Request, Startup, SignOn, Reply, Parse, Bind, Execute, Sync, Terminate, setting_bytes, session_bytes, startup_bytes, sign_on_bytes, parse_bytes, sized_bytes, bind_bytes, execute_bytes, request_bytes, is_text, is_sized, is_within, is_writable}
use Rattle.postgres_messages.specs.RequestReading.{Due, OfSignOn, OfReply, Later, due, startup_in, sign_on_in, numbers_in, parse_in, present, bind_in, kind_in_turn, body_at, read_kinded, read_turn, HasTypes}
use Rattle.postgres_messages.specs.Laws.{AreValues}
use Rattle.postgres_messages.proofs.FieldLaws.{u16_field, u32_field, text_field}
use Rattle.postgres_messages.proofs.ListLaws.{after_values_again, values_again}

-- ---- tests that passed

same : (bytes : List ℕ) → bytes_eq bytes bytes ≡ true
same bytes = (bytes_eq-Decides bytes bytes).1 refl

both : (a b : Bool) → (a && b) ≡ true → (a ≡ true) × (b ≡ true)
both true b h = (refl, h)
both false b h = absurd cc

proper_at : (text : List ℕ) (inside : Bool) → ltb (position_or_len is_zero text) (length text) ≡ inside → is_none (cond inside (Some (position_or_len is_zero text)) None) ≡ true → IsText text
proper_at text true h none = absurd cc
proper_at text false h none = λ k below. let past = ltb-false (position_or_len is_zero text) (length text) h in fails_before_first is_zero text k 0 (omega arith)

proper : (text : List ℕ) → is_text text ≡ true → IsText text
proper text h = proper_at text (ltb (position_or_len is_zero text) (length text)) refl h

le_of : (a b : ℕ) → nat_le a b ≡ true → a ≤ b
le_of a b h = grind (arith, common_steps)

eq_self : (n : ℕ) → nat_eq n n ≡ true
eq_self n = grind (arith, common_steps)

-- parts of a startup, from the right
parted : (version a b c d e f : List ℕ) → version ++ (a ++ b) ++ (c ++ d) ++ e ++ f ≡ version ++ (a ++ (b ++ (c ++ (d ++ (e ++ f)))))
parted version a b c d e f = simp append_assoc refl

bound : (z name a b count values c d : List ℕ) → z ++ name ++ a ++ b ++ count ++ values ++ c ++ d ≡ z ++ (name ++ (a ++ (b ++ (count ++ (values ++ (c ++ d))))))
bound z name a b count values c d = simp append_assoc refl

bound_parts : (name count values : List ℕ) → 0 ∷ [] ++ name ++ u16_bytes 1 ++ u16_bytes 1 ++ count ++ values ++ u16_bytes 1 ++ u16_bytes 1 ≡ text_bytes [] ++ (name ++ (u16_bytes 1 ++ (u16_bytes 1 ++ (count ++ (values ++ (u16_bytes 1 ++ u16_bytes 1))))))
bound_parts name count values = bound (text_bytes []) name (u16_bytes 1) (u16_bytes 1) count values (u16_bytes 1) (u16_bytes 1)

last_one : u16_in (u16_bytes 1) ≡ Ok (1, [])
last_one = u16_field.again 1 [] (omega arith)

-- ---- lengths

body_again : (body rest : List ℕ) → is_within body ≡ true → body_at (u32_bytes (length body + 4) ++ (body ++ rest)) ≡ Ok (body, rest)
unfolding body_at
body_again body rest within =
    let bound : length body + 4 ≤ max_length = le_of (length body + 4) max_length within in
    let low : ltb (length body + 4) 4 ≡ false = le-ltb _ _ (omega arith) in
    let size : (length body + 4) - 4 ≡ length body = omega arith in
    let room : ltb (length (body ++ rest)) (length body) ≡ false = le-ltb _ _ (omega (arith, length-append body rest)) in
    rw (u32_field.again (length body + 4) (body ++ rest) (omega arith), low, size, room, take_at body rest (length body) refl, drop_at body rest (length body) refl) refl

-- ---- bodies

startup_again : (user database : List ℕ) → IsText user → IsText database → startup_in (startup_bytes user database) ≡ Ok (Startup user database)
unfolding setting_bytes
startup_again user database u d =
    let tail = session_bytes ++ 0 ∷ [] in
    let after = text_bytes (codes "database") ++ (text_bytes database ++ tail) in
    let parts : startup_bytes user database ≡ u32_bytes 196608 ++ (text_bytes (codes "user") ++ (text_bytes user ++ after)) = parted (u32_bytes 196608) (text_bytes (codes "user")) (text_bytes user) (text_bytes (codes "database")) (text_bytes database) session_bytes (0 ∷ []) in
    ap startup_in parts ∙ rw (
      u32_field.again 196608 (text_bytes (codes "user") ++ (text_bytes user ++ after)) (omega arith),
      text_field.again (codes "user") (text_bytes user ++ after) (proper (codes "user") refl),
      text_field.again user after u,
      text_field.again (codes "database") (text_bytes database ++ tail) (proper (codes "database") refl),
      text_field.again database tail d,
    ) refl

sign_on_again : (first : List ℕ) → is_sized first ≡ true → sign_on_in (sign_on_bytes first) ≡ Ok (SignOn first)
sign_on_again first sized =
    let small : length first < absent = ltb-true _ _ sized in
    let parts : sign_on_bytes first ≡ text_bytes (codes "SCRAM-SHA-256") ++ (u32_bytes (length first) ++ first) = append_assoc (text_bytes (codes "SCRAM-SHA-256")) (u32_bytes (length first)) first in
    ap sign_on_in parts ∙ rw (
      text_field.again (codes "SCRAM-SHA-256") (u32_bytes (length first) ++ first) (proper (codes "SCRAM-SHA-256") refl),
      u32_field.again (length first) first (omega arith),
      eq_self (length first),
    ) refl

numbers_again : (numbers rest : List ℕ) → ((k : ℕ) → k < length numbers → get_or numbers k 0 < 2 ^ 32) → numbers_in (length numbers) (flat_map u32_bytes numbers ++ rest) ≡ Ok (numbers, rest)
unfolding numbers_in
numbers_again [] rest small = refl
numbers_again (n ∷ numbers) rest small =
    rw (append_assoc (u32_bytes n) (flat_map u32_bytes numbers) rest, u32_field.again n (flat_map u32_bytes numbers ++ rest) (small 0 (omega arith)), numbers_again numbers rest (λ k lt. small (suc k) (omega arith))) refl

parse_again : (name sql types : List ℕ) → IsText name → IsText sql → length types < 65536 → ((k : ℕ) → k < length types → get_or types k 0 < 2 ^ 32) → parse_in (parse_bytes name sql types) ≡ Ok (Parse name sql types)
parse_again name sql types n s count small =
    let tail = flat_map u32_bytes types in
    let whole : flat_map u32_bytes types ≡ flat_map u32_bytes types ++ [] = sym (append-nil (flat_map u32_bytes types)) in
    let parts : parse_bytes name sql types ≡ text_bytes name ++ (text_bytes sql ++ (u16_bytes (length types) ++ tail)) =
    append_assoc (text_bytes name ++ text_bytes sql) (u16_bytes (length types)) tail ∙ append_assoc (text_bytes name) (text_bytes sql) (u16_bytes (length types) ++ tail) in
    let numbers : numbers_in (length types) tail ≡ Ok (types, []) = ap (numbers_in (length types)) whole ∙ numbers_again types [] small in
    ap parse_in parts ∙ rw (
      text_field.again name (text_bytes sql ++ (u16_bytes (length types) ++ tail)) n,
      text_field.again sql (u16_bytes (length types) ++ tail) s,
      u16_field.again (length types) tail count,
      numbers,
    ) refl

abbrev some : List ℕ → Option (List ℕ)
some value = Some value

abbrev all_there : List (List ℕ) → List (Option (List ℕ))
all_there values = map some values

there_length : (values : List (List ℕ)) → length (all_there values) ≡ length values
there_length [] = refl
there_length (v ∷ values) = ap suc (there_length values)

there_bytes : (values : List (List ℕ)) → flat_map sized_bytes values ≡ flat_map value_bytes (all_there values)
there_bytes [] = refl
there_bytes (v ∷ values) = ap (λ (t : List ℕ). sized_bytes v ++ t) (there_bytes values)

there_present : (values : List (List ℕ)) → present (all_there values) ≡ values
there_present [] = refl
there_present (v ∷ values) = ap (λ (t : List (List ℕ)). v ∷ t) (there_present values)

there_fit : (values : List (List ℕ)) → list_all is_sized values ≡ true → AreValues (all_there values)
there_fit [] h = tt
there_fit (v ∷ values) h = let b = both (is_sized v) (list_all is_sized values) h in (ltb-true _ _ b.0, there_fit values b.1)

bind_again : (name : List ℕ) (values : List (List ℕ)) → IsText name → length values < 65536 → list_all is_sized values ≡ true → bind_in (bind_bytes name values) ≡ Ok (Bind name values)
bind_again name values n count sized =
    let ends = u16_bytes 1 ++ u16_bytes 1 in
    let listed = flat_map value_bytes (all_there values) ++ ends in
    let parts : bind_bytes name values ≡ text_bytes [] ++ (text_bytes name ++ (u16_bytes 1 ++ (u16_bytes 1 ++ (u16_bytes (length values) ++ listed)))) =
    bound_parts (text_bytes name) (u16_bytes (length values)) (flat_map sized_bytes values) ∙ ap (λ (t : List ℕ). text_bytes [] ++ (text_bytes name ++ (u16_bytes 1 ++ (u16_bytes 1 ++ (u16_bytes (length values) ++ (t ++ ends)))))) (there_bytes values) in
    let after : after_values (length values) listed ≡ Ok ends = ap (λ (k : ℕ). after_values k listed) (sym (there_length values)) ∙ after_values_again (all_there values) ends (there_fit values sized) in
    let found : values_of (length values) listed ≡ all_there values = ap (λ (k : ℕ). values_of k listed) (sym (there_length values)) ∙ values_again (all_there values) ends (there_fit values sized) in
    ap bind_in parts ∙ rw (
      text_field.again [] (text_bytes name ++ (u16_bytes 1 ++ (u16_bytes 1 ++ (u16_bytes (length values) ++ listed)))) (λ k below. absurd (omega arith)),
      text_field.again name (u16_bytes 1 ++ (u16_bytes 1 ++ (u16_bytes (length values) ++ listed))) n,
      u16_field.again 1 (u16_bytes 1 ++ (u16_bytes (length values) ++ listed)) (omega arith),
      u16_field.again 1 (u16_bytes (length values) ++ listed) (omega arith),
      u16_field.again (length values) listed count,
      after,
      u16_field.again 1 (u16_bytes 1) (omega arith),
      last_one,
      found,
      there_present values,
    ) refl

-- ---- whole messages

kinded_again : (turn : Due) (kind : ℕ) (body rest : List ℕ) (r : Request) → is_within body ≡ true → kind_in_turn turn kind body ≡ Ok r → read_kinded turn (framed kind body ++ rest) ≡ Ok (r, rest)
kinded_again turn kind body rest r within said =
    let at : body_at ((u32_bytes (length body + 4) ++ body) ++ rest) ≡ Ok (body, rest) = ap body_at (append_assoc (u32_bytes (length body + 4)) body rest) ∙ body_again body rest within in
    rw (at, said) refl

pub request_again : (r : Request) (rest : List ℕ) → is_writable r ≡ true → HasTypes r → read_turn (due r) (request_bytes r ++ rest) ≡ Ok (r, rest)
request_again (Startup user database) rest writable types =
    let w = both (is_text user && is_text database) (is_within (startup_bytes user database)) writable in
    let b = both (is_text user) (is_text database) w.0 in
    let body = startup_bytes user database in
    let at : body_at ((u32_bytes (length body + 4) ++ body) ++ rest) ≡ Ok (body, rest) = ap body_at (append_assoc (u32_bytes (length body + 4)) body rest) ∙ body_again body rest w.1 in
    rw (at, startup_again user database (proper user b.0) (proper database b.1)) refl
request_again (SignOn first) rest writable types =
    let w = both (is_sized first) (is_within (sign_on_bytes first)) writable in
    kinded_again OfSignOn 112 (sign_on_bytes first) rest (SignOn first) w.1 (sign_on_again first w.0)
request_again (Reply last) rest writable types = kinded_again OfReply 112 last rest (Reply last) writable refl
request_again (Parse name sql numbers) rest writable small =
    let w = both (is_text name && is_text sql && ltb (length numbers) 65536) (is_within (parse_bytes name sql numbers)) writable in
    let a = both (is_text name && is_text sql) (ltb (length numbers) 65536) w.0 in
    let b = both (is_text name) (is_text sql) a.0 in
    kinded_again Later 80 (parse_bytes name sql numbers) rest (Parse name sql numbers) w.1 (parse_again name sql numbers (proper name b.0) (proper sql b.1) (ltb-true _ _ a.1) small)
request_again (Bind name values) rest writable types =
    let w = both (is_text name && ltb (length values) 65536 && list_all is_sized values) (is_within (bind_bytes name values)) writable in
    let a = both (is_text name && ltb (length values) 65536) (list_all is_sized values) w.0 in
    let b = both (is_text name) (ltb (length values) 65536) a.0 in
    kinded_again Later 66 (bind_bytes name values) rest (Bind name values) w.1 (bind_again name values (proper name b.0) (ltb-true _ _ b.1) a.1)
request_again Execute rest writable types = kinded_again Later 69 execute_bytes rest Execute refl refl
request_again Sync rest writable types = kinded_again Later 83 [] rest Sync refl refl
request_again Terminate rest writable types = kinded_again Later 88 [] rest Terminate refl refl
