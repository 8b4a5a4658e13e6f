-- How the uid of a transaction is read.
use Rattle.std.proofs.Common.{◌≡◌, ℕ, zero, suc, ◌&&◌, Bool, true, false, cond, nat_lt, nat_eq, List, length, Option, None, Some, is_none, Result, Ok, Err, codes, refl, sym, ap, ◌∙◌, arith}
use Rattle.std.proofs.lemmas.Grind.{common_steps}
use Rattle.std.specs.List.{list_any}
use Rattle.ofx_types.specs.TextRules.{trimmed, is_refused_in_text}
use Rattle.ofx_types.specs.TextOutcome.{text_fault, trnuid_fault}
use Rattle.ofx_types.specs.ValueForm.{value_of}
use Rattle.ofx_types.specs.Nodes.{Item}
use Rattle.ofx_types.specs.FormWords.{◌>>=◌, ReadsForm, one, is_text_within, text_at, text_in}
use Rattle.ofx_types.specs.RequestReading.{unless_zero, trnuid_of}
use Rattle.ofx_types.specs.declared.text.TextFault.{TextFault}
use Rattle.ofx_types.specs.declared.text.TextFault.TheVariants.{Empty}
use Rattle.ofx_types.specs.declared.fault.TreeFault.{TreeFault}
use Rattle.ofx_types.specs.declared.fault.TreeFault.TheVariants.{Missing, Repeated, Value, OutOfMemory}
use Rattle.ofx_tape.proofs.Decoding.{decoded-plain}
use Rattle.msg_parts.specs.PartSteps.{trnuid_at}

-- a uid without a fault is a text of 1 to 36 bytes
uid_or_fault : (n : ℕ) (fault : Option TextFault) → (nat_lt 0 n && is_none fault) ≡ is_none (cond (nat_eq n 0) (Some Empty) fault)
uid_or_fault zero fault = refl
uid_or_fault (suc n) fault =
    let there : nat_lt 0 (suc n) ≡ true = grind (arith, common_steps) in
    let some : nat_eq (suc n) 0 ≡ false = grind (arith, common_steps) in
    rw (there, some) refl

within_is : (text : List ℕ) → is_text_within 36 text ≡ is_none (trnuid_fault text)
within_is text = uid_or_fault (length text) (text_fault is_refused_in_text 36 text)

pub trnuid_at-none : (offset : ℕ) (text : List ℕ) → trnuid_fault text ≡ None → trnuid_at offset text ≡ Ok text
unfolding trnuid_at
trnuid_at-none offset text h = ap (λ b. cond b (Ok text) (Err (Value offset))) (within_is text ∙ ap is_none h)

pub trnuid_at-some : (offset : ℕ) (text : List ℕ) (e : TextFault) → trnuid_fault text ≡ Some e → trnuid_at offset text ≡ Err (Value offset)
unfolding trnuid_at
trnuid_at-some offset text e h = ap (λ b. cond b (Ok text) (Err (Value offset))) (within_is text ∙ ap is_none h)

no_text : (a b : Bool) (x : Result (List ℕ) TreeFault) (e : TreeFault) → b ≡ false → cond (a && b) x (Err e) ≡ Err e
no_text true b x e h = rw h refl
no_text false b x e h = refl

pub trnuid_at-no_text : (offset : ℕ) (text : List ℕ) (e : TextFault) → text_fault is_refused_in_text 36 text ≡ Some e → trnuid_at offset text ≡ Err (Value offset)
unfolding trnuid_at
trnuid_at-no_text offset text e h = no_text (nat_lt 0 (length text)) _ _ _ (ap is_none h)

pub ruleset plain_uids = (trnuid_at-none, trnuid_at-some)

pub ruleset refused_uids = (trnuid_at-no_text)

-- without a `&` a value is the trimmed bytes
pub value_of-plain : (raw : List ℕ) → list_any (λ b. nat_eq b 38) raw ≡ false → value_of raw ≡ trimmed raw
value_of-plain raw h = ap trimmed (decoded-plain raw h)

pub gives_same : {A : Type 0} (r s : Result A TreeFault) → r ≡ s → ReadsForm r s
gives_same (Ok x) s h = sym h
gives_same (Err (Missing at)) s h = sym h
gives_same (Err (Repeated at)) s h = sym h
gives_same (Err (Value at)) s h = sym h
gives_same (Err OutOfMemory) s h = tt

-- the uid is that of the only child with the name
one_then : (r : Result Item TreeFault) →
    ((r >>= λ c. text_at 36 c.node) >>= λ text. r >>= λ child. unless_zero child.node.offset text)
    ≡ (r >>= λ child. trnuid_at child.node.offset (value_of child.node.text) >>= unless_zero child.node.offset)
unfolding trnuid_at
one_then (Ok child) = refl
one_then (Err e) = refl

pub trnuid_is : (wrapper : Item) →
    trnuid_of wrapper ≡ (one (codes "TRNUID") wrapper >>= λ child. trnuid_at child.node.offset (value_of child.node.text) >>= unless_zero child.node.offset)
unfolding trnuid_of text_in
trnuid_is wrapper = one_then (one (codes "TRNUID") wrapper)
