-- Steps of reading, and of fields that stand one after the other.
use Rattle.std.proofs.Common.{◌≡◌, ℕ, ◌+◌, ◌-◌, ◌≤◌, Bool, true, false, cond, List, ◌++◌, length, drop, Option, None, Some, Result, Ok, Err, refl, sym, ap, ◌∙◌, append_assoc, arith}
use Rattle.std.proofs.lemmas.List.{drop_at, drop-drop, length-append, length-drop, get_or-drop}
use Rattle.record_fields.specs.FieldReading.{◌>>=◌, chosen}
use Rattle.record_fields.specs.Fields.{IsBytes, IsCodedAt, IsField}

-- the value of a step that did not fail
pub bind_ok : {A B : Type 0} (r : Result A ℕ) (f : A → Result B ℕ) (y : B) → (r >>= f) ≡ Ok y → (x : A) × (r ≡ Ok x) × (f x ≡ Ok y)
bind_ok (Ok x) f y e = (x, refl, e)
bind_ok (Err d) f y e = absurd cc

-- a test that did not refuse
pub guard_ok : {A : Type 0} (b : Bool) (offset : ℕ) (r : Result A ℕ) (y : A) → cond b (Err offset) r ≡ Ok y → (b ≡ false) × (r ≡ Ok y)
guard_ok true offset r y e = absurd cc
guard_ok false offset r y e = (refl, e)

-- a test that passed
pub pass_ok : {A : Type 0} (b : Bool) (offset : ℕ) (r : Result A ℕ) (y : A) → cond b r (Err offset) ≡ Ok y → (b ≡ true) × (r ≡ Ok y)
pass_ok true offset r y e = (refl, e)
pass_ok false offset r y e = absurd cc

-- by which way a test went
pub fork : {A P : Type 0} (b : Bool) {x y z : A} → cond b x y ≡ z → (b ≡ true → x ≡ z → P) → (b ≡ false → y ≡ z → P) → P
fork {A} {P} true {x} {y} {z} e passed failed = passed refl e
fork {A} {P} false {x} {y} {z} e passed failed = failed refl e

-- a choice that was found
pub chosen_ok : {A : Type 0} (at next : ℕ) (case : Option A) (y : A × ℕ) → chosen at next case ≡ Ok y → (x : A) × (case ≡ Some x) × (y ≡ (x, next))
chosen_ok at next None y e = absurd cc
chosen_ok at next (Some x) y e = (x, refl, cc)

abbrev pub done : {A : Type 0} → A → Result A ℕ
done x = Ok x

pub ok_is : {A : Type 0} (x y : A) → done x ≡ done y → x ≡ y
ok_is x y e = cc

-- fields one after the other
pub holds_then : (rec : List ℕ) (a : ℕ) (x : List ℕ) (b : ℕ) (y : List ℕ) (c : ℕ) → IsCodedAt rec a x b → IsCodedAt rec b y c → IsCodedAt rec a (x ++ y) c
holds_then rec a x b y c p q = record { parts = p.parts ∙ ap (λ (t : List ℕ). x ++ t) q.parts ∙ sym (append_assoc x y (drop c rec)); within = q.within }

-- where the second of two fields begins
pub record Apart (rec : List ℕ) (at : ℕ) (x y : List ℕ) (next : ℕ) : Type 0 where
  pub mid : ℕ
  pub first : IsCodedAt rec at x mid
  pub second : IsCodedAt rec mid y next

pub apart : (rec : List ℕ) (at : ℕ) (x y : List ℕ) (next : ℕ) → at ≤ length rec → IsCodedAt rec at (x ++ y) next → Apart rec at x y next
apart rec at x y next le p =
    let whole : drop at rec ≡ x ++ (y ++ drop next rec) = p.parts ∙ append_assoc x y (drop next rec) in
    let tail : drop (at + length x) rec ≡ y ++ drop next rec = sym (drop-drop (length x) at rec) ∙ ap (drop (length x)) whole ∙ drop_at x (y ++ drop next rec) (length x) refl in
    let lengths : length rec - at ≡ length x + (length y + (length rec - next)) = sym (length-drop at rec) ∙ ap length whole ∙ length-append x (y ++ drop next rec) ∙ ap (λ (n : ℕ). length x + n) (length-append y (drop next rec) ∙ ap (λ (n : ℕ). length y + n) (length-drop next rec)) in
    record {
      mid = at + length x;
      first = record { parts = whole ∙ ap (λ (t : List ℕ). x ++ t) (sym tail); within = omega arith };
      second = record { parts = tail; within = p.within };
    }

-- a step of reading is a field that stands, and the rest of the reading
pub record Step {A B : Type 0} (rec : List ℕ) (at : ℕ) (coding : A → List ℕ) (Fits : A → Type 0) (go_on : A × ℕ → Result B ℕ) (y : B) : Type 0 where
  pub value : A
  pub next : ℕ
  pub holds : IsCodedAt rec at (coding value) next
  pub fits : Fits value
  pub rest : go_on (value, next) ≡ Ok y

pub step : {A B : Type 0} {read : List ℕ → ℕ → Result (A × ℕ) ℕ} {coding : A → List ℕ} {Fits : A → Type 0} (field : IsField read coding Fits) (rec : List ℕ) (at : ℕ) (go_on : A × ℕ → Result B ℕ) (y : B)
    → IsBytes rec → at ≤ length rec → (read rec at >>= go_on) ≡ Ok y → Step rec at coding Fits go_on y
step {A} {B} {read} {coding} {Fits} field rec at go_on y bytes le e =
    let b = bind_ok (read rec at) go_on y e in
    let s = field.holds rec at b.0 bytes le b.1 in
    record { value = b.0.0; next = b.0.1; holds = s.0; fits = s.1; rest = b.2 }

pub IsBytes-drop : (n : ℕ) (bytes : List ℕ) → IsBytes bytes → IsBytes (drop n bytes)
IsBytes-drop n bytes h i = rw get_or-drop (h (n + i))

-- the same, of offsets that are known
pub joined : {rec : List ℕ} {a : ℕ} {x : List ℕ} {b : ℕ} {y : List ℕ} {c : ℕ} → IsCodedAt rec a x b → IsCodedAt rec b y c → IsCodedAt rec a (x ++ y) c
joined {rec} {a} {x} {b} {y} {c} p q = holds_then rec a x b y c p q
