-- What contracts see of the uids that are used up and the replies that are kept.
use Rattle.std.specs.Prelude.{ℕ, List}
use Rattle.std.specs.List.{IsDistinct}
use Rattle.bank_model.specs.declared.once.UsedPair.{UsedPair}
use Rattle.bank_model.specs.declared.once.KeptReply.{KeptReply}
use Rattle.bank_model.specs.Once.{is_pair, is_named}

-- The pairs in the order in which they were used up, the replies in the order in which they were kept, and for how many
-- pairs and replies more there is room.
pub record RecordsView : Type 0 where
  pub used : List UsedPair
  pub kept : List KeptReply
  pub pairs : ℕ
  pub files : ℕ

-- No user has used up a uid twice.
abbrev pub UsedOnce : List UsedPair → Type 0
UsedOnce used = IsDistinct (λ (earlier later : UsedPair). is_pair later.user later.trnuid earlier) used

-- No file of a user has two replies.
abbrev pub KeptOnce : List KeptReply → Type 0
KeptOnce kept = IsDistinct (λ (earlier later : KeptReply). is_named later.user later.file earlier) kept
