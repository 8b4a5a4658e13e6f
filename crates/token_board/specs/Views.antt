-- What contracts see of a board and of those who use it.
use Rattle.std.specs.Prelude.{ℕ, List, [], ◌∷◌, length, nat_lt, if◌then◌else◌, Option, None, Some}
use Rattle.std.specs.Borrow.{Bor}
use Rattle.std.specs.Option.{option_map}
use Rattle.ofx_types.specs.declared.number.Moment.{Moment}
use Rattle.atomic_table.specs.Seated.{TableId}
use Rattle.bank_model.specs.declared.event.Event.{Event}
use Rattle.bank_model.specs.declared.log.LogItem.{LogItem}
use Rattle.bank_model.specs.declared.log.LogItem.TheVariants.{Effect, Answer, Adopted, Fault}
use Rattle.bank_model.specs.declared.log.Ending.{Ending}
use Rattle.bank_model.specs.declared.log.Ending.TheVariants as lent
use Rattle.token_board.specs.declared.view.Load.{Load}

-- A board: which one it is, and the number of each object's last entry as it began.
pub record BoardView : Type 0 where
  pub table : TableId
  pub start : List ℕ

-- The writer: its board, the log, and the ending that it claims, if there is one.
pub record WriterView : Type 0 where
  pub table : TableId
  pub log : List LogItem
  pub claimed : List ℕ

-- A pass: its board, the prefix of the log that it has seen, the endings in it that are its own, and the tokens that it has
-- loaded, in order.
pub record PassView : Type 0 where
  pub table : TableId
  pub seen : List LogItem
  pub mine : List ℕ
  pub polled : List Load

-- A note: its board, the log as it was then, and the ending that it claims, if there is one.
pub record NoteView : Type 0 where
  pub table : TableId
  pub log : List LogItem
  pub claimed : List ℕ

-- no board's name
abbrev pub no_table : TableId
no_table = record { words = 0; slots = 0; views_name = 0; atom = 0; block = 0; offset = 0; slot_names = [] }

-- ---- what calls do

-- the longer one of two logs
abbrev pub longer : List LogItem → List LogItem → List LogItem
longer one other = if nat_lt (length one) (length other) then other else one

-- ---- what is published

-- the item of the log that an ending is
abbrev pub item_of : Ending → LogItem
item_of (lent.Answer event at reply) = Answer event.now at reply.now
item_of (lent.Adopted fault event at) = Adopted fault event.now at
item_of (lent.Fault count pending) =
    Fault count (option_map (λ (p : Bor Event × Moment). (p.0.now, p.1)) pending)

-- A call's own ending is an answer or a fault, and is claimed under its number. An adopted event is nobody's.
abbrev pub claims_of : LogItem → ℕ → List ℕ
claims_of (Effect entry) number = []
claims_of (Answer event at reply) number = number ∷ []
claims_of (Adopted fault event at) number = []
claims_of (Fault count pending) number = number ∷ []
