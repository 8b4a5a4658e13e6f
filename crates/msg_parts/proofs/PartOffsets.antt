-- The faults of accounts and of TRNUIDs have offsets among the nodes.
use Rattle.std.proofs.Common.{ℕ, ◌≤◌, List, codes}
use Rattle.std.specs.Str.{bytes_eq}
use Rattle.ofx_types.specs.ValueForm.{value_of}
use Rattle.ofx_types.specs.Nodes.{Item}
use Rattle.ofx_types.specs.FormWords.{one, text_in}
use Rattle.ofx_types.specs.RequestReading.{kind_named, account_of, trnuid_of}
use Rattle.ofx_tree.specs.Located.{Holds, Any, IsWithin}
use Rattle.ofx_tree.proofs.FormOffsets.{bound, either, one_within, text_within}

kind_within : (most offset : ℕ) (word : List ℕ) → offset ≤ most → Holds most Any (kind_named word offset)
kind_within most offset word h =
    either most Any (bytes_eq word (codes "CHECKING")) _ _ tt
    (either most Any (bytes_eq word (codes "SAVINGS")) _ _ tt
    (either most Any (bytes_eq word (codes "MONEYMRKT")) _ _ tt (either most Any (bytes_eq word (codes "CREDITLINE")) _ _ tt h)))

pub account_within : (most : ℕ) (item : Item) → IsWithin most item → Holds most Any (account_of item)
unfolding account_of
account_within most item h =
    bound most Any Any (text_in (codes "BANKID") 32 item) _ (text_within most (codes "BANKID") 32 item h) (λ bank _.
    bound most Any Any (text_in (codes "ACCTID") 32 item) _ (text_within most (codes "ACCTID") 32 item h) (λ number _.
    bound most (IsWithin most) Any (one (codes "ACCTTYPE") item) _ (one_within most (codes "ACCTTYPE") item h) (λ child i.
    bound most Any Any (kind_named (value_of child.node.text) child.node.offset) _ (kind_within most child.node.offset (value_of child.node.text) i.offset) (λ kind _. tt))))

pub trnuid_within : (most : ℕ) (item : Item) → IsWithin most item → Holds most Any (trnuid_of item)
unfolding trnuid_of
trnuid_within most item h =
    bound most Any Any (text_in (codes "TRNUID") 36 item) _ (text_within most (codes "TRNUID") 36 item h) (λ text _.
    bound most (IsWithin most) Any (one (codes "TRNUID") item) _ (one_within most (codes "TRNUID") item h) (λ child i.
    either most Any (bytes_eq text (codes "0")) _ _ i.offset tt))
