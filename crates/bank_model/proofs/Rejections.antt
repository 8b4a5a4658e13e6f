-- A rejection, and what a synchronisation that isn't up to date is refused with, is a code other than 0.
use Rattle.std.proofs.Common.{◌≡◌, ◌≢◌, ℕ, Bool, true, false, cond, None, Some, arith}
use Rattle.std.specs.Option.{IfSome}
use Rattle.ofx_types.specs.declared.sync.SyncKind.{SyncKind}
use Rattle.ofx_types.specs.declared.sync.SyncKind.TheVariants.{After, TokenOnly, Refresh}
use Rattle.bank_model.specs.Sync.{token_of, is_newest, unless_newest, rejection}

unless_coded : (number : ℕ) (kind : SyncKind) → IfSome (unless_newest number kind) (λ (code : ℕ). code ≢ 0)
unless_coded number (After text) = elim (is_newest number (token_of text)) as (λ b. IfSome (cond b None (Some 6502)) (λ (code : ℕ). code ≢ 0)) [
  | true ↦ tt
  | false ↦ (λ (e : 6502 ≡ 0). omega arith)
]
unless_coded number TokenOnly = λ (e : 6500 ≡ 0). omega arith
unless_coded number Refresh = λ (e : 6500 ≡ 0). omega arith

pub rejection_coded : (reject : Bool) (number : ℕ) (kind : SyncKind) → IfSome (rejection reject number kind) (λ (code : ℕ). code ≢ 0)
rejection_coded true number kind = unless_coded number kind
rejection_coded false number kind = tt
