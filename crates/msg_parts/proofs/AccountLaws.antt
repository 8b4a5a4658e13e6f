-- The kinds of accounts, and the uid that isn't let pass: what is read there is what is there.
use Rattle.std.proofs.Common.{◌≡◌, ◌≢◌, ℕ, inl, inr, Bool, true, false, cond, List, Ok, Err, codes, refl, ap, ◌∙◌}
use Rattle.std.proofs.lemmas.Slice.Eq.{bytes_eq-Decides}
use Rattle.std.specs.Str.{bytes_eq}
use Rattle.ofx_types.specs.AccountForm.{kind_word}
use Rattle.ofx_types.specs.RequestReading.{kind_named, unless_zero}
use Rattle.ofx_types.specs.declared.account.AcctKind.{AcctKind}
use Rattle.ofx_types.specs.declared.account.AcctKind.TheVariants.{Checking, Savings, MoneyMarket, CreditLine}
use Rattle.ofx_types.specs.declared.fault.TreeFault.{TreeFault}
use Rattle.ofx_types.proofs.Bytes.{bytes_eq_is, went}
use Rattle.ofx_tree.proofs.FormLaws.{ok_guarded, one_value}

pub kind_found : (word : List ℕ) (offset : ℕ) (kind : AcctKind) → kind_named word offset ≡ Ok kind → word ≡ kind_word kind
kind_found word offset kind h = elim (went (bytes_eq word (codes "CHECKING")) _ _ _ h) [
  | inl (same, is) ↦ bytes_eq_is word _ same ∙ ap kind_word (one_value (Ok Checking) Checking kind refl is)
  | inr (other, second) ↦ elim (went (bytes_eq word (codes "SAVINGS")) _ _ _ second) [
    | inl (same, is) ↦ bytes_eq_is word _ same ∙ ap kind_word (one_value (Ok Savings) Savings kind refl is)
    | inr (other, third) ↦ elim (went (bytes_eq word (codes "MONEYMRKT")) _ _ _ third) [
      | inl (same, is) ↦ bytes_eq_is word _ same ∙ ap kind_word (one_value (Ok MoneyMarket) MoneyMarket kind refl is)
      | inr (other, last) ↦ let is = ok_guarded (bytes_eq word (codes "CREDITLINE")) CreditLine kind _ last in bytes_eq_is word _ is.0 ∙ ap kind_word is.1
    ]
  ]
]

kind_named-word : (kind : AcctKind) (offset : ℕ) → kind_named (kind_word kind) offset ≡ Ok kind
kind_named-word Checking offset = refl
kind_named-word Savings offset = refl
kind_named-word MoneyMarket offset = refl
kind_named-word CreditLine offset = refl

pub kind_again : (word : List ℕ) (offset : ℕ) (kind : AcctKind) → word ≡ kind_word kind → kind_named word offset ≡ Ok kind
kind_again word offset kind h = rw h (kind_named-word kind offset)

unless_chosen : (b : Bool) (uid text : List ℕ) (e : TreeFault) → cond b (Err e) (Ok uid) ≡ Ok text → (b ≡ false) × (uid ≡ text)
unless_chosen true uid text e h = cc
unless_chosen false uid text e h = (refl, cc)

not_both : (b : Bool) → b ≡ true → b ≡ false → ⊥
not_both b t f = cc

pub unless_zero_found : (offset : ℕ) (uid text : List ℕ) → unless_zero offset uid ≡ Ok text → (uid ≡ text) × (text ≢ codes "0")
unless_zero_found offset uid text h =
    let read = unless_chosen (bytes_eq uid (codes "0")) uid text _ h in
    (read.1, λ zero. not_both _ ((bytes_eq-Decides uid (codes "0")).1 (read.1 ∙ zero)) read.0)

reported_apart : (b : Bool) (P : Type 0) → (b ≡ true → P) → (P → ⊥) → b ≡ false
reported_apart true P is none = absurd (none (is refl))
reported_apart false P is none = refl

pub unless_zero_again : (offset : ℕ) (uid : List ℕ) → uid ≢ codes "0" → unless_zero offset uid ≡ Ok uid
unless_zero_again offset uid own =
    rw (reported_apart (bytes_eq uid (codes "0")) (uid ≡ codes "0") (bytes_eq-Decides uid (codes "0")).0 own) refl
