-- Groups of borrowed values, one after another.
use Rattle.std.proofs.Common.{◌≡◌, ℕ, zero, suc, ◌+◌, ◌<◌, Bool, true, List, [], ◌∷◌, ◌++◌, length, get_or, take, map, Bor, Err, refl, sym, ap, ◌∙◌, arith, append_assoc}
use Rattle.std.specs.Prelude.{◌&&◌, codes}
use Rattle.std.specs.List.{flat_map, list_all}
use Rattle.std.proofs.lemmas.List.{flat_map_more}
use Rattle.std.proofs.lemmas.List.Folds.{list_all_at, list_all_more}
use Rattle.std.proofs.lemmas.Grind.{take_at_read}
use Rattle.postgres_messages.specs.declared.request.WriteFault.{WriteFault}
use Rattle.postgres_messages.specs.declared.request.WriteFault.TheVariants as faults
use Rattle.postgres_messages.specs.Requests.{setting_bytes, session_bytes, sized_bytes, is_sized}
use Rattle.postgres_messages.specs.Writes.{Puts}

abbrev bytes_of : List (Bor (List ℕ)) → List (List ℕ)
bytes_of values = map (λ v. v.now) values

length-bytes : (values : List (Bor (List ℕ))) → length (bytes_of values) ≡ length values
length-bytes [] = refl
length-bytes (x ∷ values) = ap suc (length-bytes values)

value_at : (values : List (Bor (List ℕ))) (i : ℕ) (d : Bor (List ℕ)) → i < length values → (get_or values i d).now ≡ get_or (bytes_of values) i []
value_at [] i d lt = absurd (omega arith)
value_at (x ∷ values) zero d lt = refl
value_at (x ∷ values) (suc i) d lt = value_at values i d (omega arith)

-- one value that has no room refuses the group
pub group_fails : (values : List (Bor (List ℕ))) (i : ℕ) (d : Bor (List ℕ)) (one before after all start end : List ℕ) (fault : WriteFault) → i < length values
    → Puts (is_sized (get_or values i d).now) one before after (Err fault) → Puts (list_all is_sized (bytes_of values)) all start end (Err fault)
group_fails values i d one before after all start end faults.Unwritable lt h =
    let len = length-bytes values in
    list_all_at is_sized (bytes_of values) i [] (omega arith) (ap is_sized (sym (value_at values i d lt)) ∙ h)
group_fails values i d one before after all start end faults.OutOfMemory lt h = tt

pub group_more : (values : List (Bor (List ℕ))) (i : ℕ) (d : Bor (List ℕ)) (out start end : List ℕ) → i < length values → out ≡ start ++ flat_map sized_bytes (take i (bytes_of values))
    → end ≡ out ++ sized_bytes (get_or values i d).now → end ≡ start ++ flat_map sized_bytes (take (i + 1) (bytes_of values))
group_more values i d out start end lt so_far one =
    let len = length-bytes values in
    let more : take (i + 1) (bytes_of values) ≡ take i (bytes_of values) ++ get_or (bytes_of values) i [] ∷ [] = (take_at_read (bytes_of values) i [] (omega arith)).1 in
    one ∙ ap (λ (t : List ℕ). t ++ sized_bytes (get_or values i d).now) so_far ∙ ap (λ (v : List ℕ). (start ++ flat_map sized_bytes (take i (bytes_of values))) ++ sized_bytes v) (value_at values i d lt)
    ∙ flat_map_more sized_bytes start (take i (bytes_of values)) (get_or (bytes_of values) i [])
    ∙ ap (λ (t : List (List ℕ)). start ++ flat_map sized_bytes t) (sym more)

pub group_sized : (values : List (Bor (List ℕ))) (i : ℕ) (d : Bor (List ℕ)) → i < length values → list_all is_sized (take i (bytes_of values)) ≡ true → is_sized (get_or values i d).now ≡ true
    → list_all is_sized (take (i + 1) (bytes_of values)) ≡ true
group_sized values i d lt so_far one =
    let len = length-bytes values in
    list_all_more is_sized (bytes_of values) i [] (omega arith) ∙ ap (λ (b : Bool). b && is_sized (get_or (bytes_of values) i [])) so_far ∙ ap is_sized (sym (value_at values i d lt)) ∙ one

regroup : (start w x y z a b c end : List ℕ) → a ≡ start ++ w → b ≡ a ++ x → c ≡ b ++ y → end ≡ c ++ z → end ≡ start ++ (((w ++ x) ++ y) ++ z)
regroup start w x y z a b c end ea eb ec ed =
    ed ∙ ap (λ (t : List ℕ). t ++ z) (ec ∙ ap (λ (t : List ℕ). t ++ y) (eb ∙ ap (λ (t : List ℕ). t ++ x) ea ∙ append_assoc start w x) ∙ append_assoc start (w ++ x) y) ∙ append_assoc start ((w ++ x) ++ y) z

-- the settings of a session, one after another
pub session_parts : (start a b c end : List ℕ) → a ≡ start ++ setting_bytes (codes "application_name") (codes "ofxbank") → b ≡ a ++ setting_bytes (codes "default_transaction_isolation") (codes "read committed")
    → c ≡ b ++ setting_bytes (codes "client_min_messages") (codes "notice") → end ≡ c ++ setting_bytes (codes "synchronous_commit") (codes "on") → end ≡ start ++ session_bytes
session_parts start a b c end ea eb ec ed =
    let app = setting_bytes (codes "application_name") (codes "ofxbank") in
    let level = setting_bytes (codes "default_transaction_isolation") (codes "read committed") in
    let notices = setting_bytes (codes "client_min_messages") (codes "notice") in
    let commit = setting_bytes (codes "synchronous_commit") (codes "on") in
    regroup start app level notices commit a b c end ea eb ec ed
