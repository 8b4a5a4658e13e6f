-- A rehearsal: the bank and its clients, the turns that are drawn from a seed, and what came of them.
use Rattle.std.specs.Prelude.{◌≡◌, ℕ, zero, suc, ◌+◌, ◌-◌, ◌*◌, nat_lt, ◌==◌, if◌then◌else◌, ℤ, pos, ◌+ℤ◌, false, true, Bool, List, [], ◌∷◌, ◌++◌, fold, filter, length, codes, slice_get, slice_index_or, Option, None, Some, option_to_list}
use Rattle.ofx_types.specs.Calendar.{day_of}
use Rattle.ofx_types.specs.declared.account.AcctName.{AcctName}
use Rattle.ofx_types.specs.declared.account.AcctKind.TheVariants.{Checking}
use Rattle.ofx_types.specs.declared.number.Cents.{Cents}
use Rattle.ofx_types.specs.declared.number.Day.{Day}
use Rattle.ofx_types.specs.declared.number.Moment.{Moment}
use Rattle.ofx_types.specs.declared.number.UserId.{UserId}
use Rattle.ofx_types.specs.declared.recurring.Freq.TheVariants.{Weekly}
use Rattle.ofx_types.specs.declared.recurring.Recur.{Recur}
use Rattle.ofx_types.specs.declared.transfer.XferInfo.{XferInfo}
use Rattle.bank_accounts.specs.AccountView.{AccountView}
use Rattle.bank_model.specs.Stores.{Store}
use Rattle.bank_model.specs.declared.setup.AccountLine.{AccountLine}
use Rattle.bank_model.specs.declared.setup.Setup.{Setup}
use Rattle.bank_model.specs.declared.setup.User.{User}
use Rattle.bank_transfers.specs.Together.{balances}
use Rattle.client_core.specs.ClientForm.{new_client}
use Rattle.client_core.specs.declared.wish.Wish.{Wish}
use Rattle.client_core.specs.declared.wish.Wish.TheVariants as wishes
use Rattle.client_saved.specs.declared.state.ClientState.{ClientState}
use Rattle.client_saved.specs.declared.state.Outstanding.{Outstanding}
use Rattle.ofx_world.specs.Chance.{next, draw}
use Rattle.ofx_world.specs.Customer.{CustomerView}
use Rattle.ofx_world.specs.World.{WorldView, Begins, AreSteps}
use Rattle.ofx_world.specs.declared.rehearsal.summary.Summary.{Summary}
use Rattle.ofx_world.specs.declared.step.Step.{Step}
use Rattle.ofx_world.specs.declared.step.Step.TheVariants as steps

-- ---- the bank and its clients

abbrev pub number_names : List (List ℕ)
number_names = codes "100" ∷ codes "101" ∷ codes "102" ∷ codes "103" ∷ []

-- the accounts are 100 to 103
abbrev pub account : ℕ → AcctName
account number = record { bank = codes "1"; number = slice_index_or number_names number []; kind = Checking }

abbrev pub user : List ℕ → User
user name = record { name = name; pass = codes "p" }

-- each opens with 1000.00
abbrev pub line : ℕ → List UserId → AccountLine
line number owners = record { name = account number; opening = record { 0 = pos 100000 }; owners = owners }

abbrev pub owner : ℕ → UserId
owner number = record { 0 = number }

-- Each user has an account, and one account belongs to all three.
unfoldable pub rehearsed_setup : Setup
rehearsed_setup = record {
  bank = codes "1";
  users = user (codes "u0") ∷ user (codes "u1") ∷ user (codes "u2") ∷ [];
  accounts = line 0 (owner 0 ∷ []) ∷ line 1 (owner 1 ∷ []) ∷ line 2 (owner 2 ∷ [])
      ∷ line 3 (owner 0 ∷ owner 1 ∷ owner 2 ∷ []) ∷ [];
  lead = 2;
  window = 4;
  entries = 9999999999;
}

-- lines, each ended by LF
abbrev pub ended : List (List ℕ) → List ℕ
ended [] = []
ended (first ∷ lines) = first ++ 10 ∷ ended lines

-- Each user has a client.
abbrev pub rehearsed_clients : List ClientState
rehearsed_clients =
    new_client (codes "k0") (codes "u0") ∷ new_client (codes "k1") (codes "u1") ∷ new_client (codes "k2") (codes "u2") ∷ []

-- ---- what is drawn

-- the step, if any, and the state after all that was drawn for it
pub record Drawn : Type 0 where
  pub step : Option Step
  pub state : ℕ

-- a wish, and the state after it
pub record Wished : Type 0 where
  pub wish : Wish
  pub state : ℕ

-- an amount from 1 cent up to `most`
abbrev pub cents_drawn : ℕ → ℕ → Cents
cents_drawn most state = record { 0 = pos (1 + draw most state) }

-- one of the next five days
abbrev pub day_drawn : Moment → ℕ → Day
day_drawn now state = record { 0 = day_of now.0 +ℤ pos (1 + draw 5 state) }

abbrev pub transfer : AcctName → AcctName → Cents → Option Day → XferInfo
transfer from to amount due = record { from = from; to = to; amount = amount; due = due }

abbrev pub weekly : Recur
weekly = record { count = Some 3; freq = Weekly }

abbrev pub wished : Wish → ℕ → Wished
wished wish state = record { wish = wish; state = state }

abbrev pub later_transfer : AcctName → AcctName → ℕ → Moment → ℕ → XferInfo
later_transfer from to most now state = transfer from to (cents_drawn most state) (Some (day_drawn now (next state)))

-- 0 is to look at an account, 1 a transfer of up to 300.00 now and 2 on another day, 3 a recurring transfer of up to 50.00, three
-- times weekly, and 4 a mail.
abbrev pub wished_as : AcctName → AcctName → Moment → ℕ → ℕ → Wished
wished_as from to now kind state =
    if kind == 0 then wished (wishes.Sync from) state
    else (if kind == 1 then wished (wishes.Transfer (transfer from to (cents_drawn 30000 state) None)) (next state)
    else (if kind == 2 then wished (wishes.Transfer (later_transfer from to 30000 now state)) (next (next state))
    else (if kind == 3 then wished (wishes.Repeat weekly (later_transfer from to 5000 now state)) (next (next state))
    else wished (wishes.Mail (codes "s") (codes "b")) state)))

-- The account is the client's own or the shared one; then what is wished is drawn, and the other account.
abbrev pub from_drawn : ℕ → ℕ → AcctName
from_drawn client state = if draw 2 state == 0 then account client else account 3

abbrev pub wish_drawn : ℕ → Moment → ℕ → Wished
wish_drawn client now state =
    wished_as (from_drawn client state) (account (draw 4 (next (next state)))) now (draw 5 (next state)) (next (next (next state)))

abbrev pub none_drawn : ℕ → Drawn
none_drawn state = record { step = None; state = state }

abbrev pub step_drawn : Step → ℕ → Drawn
step_drawn step state = record { step = Some step; state = state }

abbrev pub made_drawn : ℕ → Wished → Drawn
made_drawn client what = step_drawn (steps.Make client what.wish) what.state

-- There is such a client, and it has nothing outstanding.
abbrev pub IsFree : Option CustomerView → Type 0
IsFree None = ⊥
IsFree (Some customer) = customer.client.outstanding ≡ None

-- A file is made where the client has nothing outstanding. Otherwise nothing more is drawn.
abbrev pub making_if : ℕ → Moment → ℕ → Option Outstanding → Drawn
making_if client now state None = made_drawn client (wish_drawn client now state)
making_if client now state (Some kept) = none_drawn state

abbrev pub making_drawn : ℕ → Moment → ℕ → Option CustomerView → Drawn
making_drawn client now state None = none_drawn state
making_drawn client now state (Some customer) = making_if client now state customer.client.outstanding

-- A request arrives, or a reply, where there is one.
abbrev pub delivery_drawn : ℕ → ℕ → Drawn
delivery_drawn count state = if count == 0 then none_drawn state else step_drawn (steps.Deliver (draw count state)) (next state)

abbrev pub reply_drawn : ℕ → ℕ → ℕ → Drawn
reply_drawn client count state =
    if count == 0 then none_drawn state else step_drawn (steps.DeliverReply client (draw count state)) (next state)

-- 0 and 1 are an append that will fail, without its record or with it, 2 the server's start anew, and 3 the client's.
abbrev pub trouble : ℕ → ℕ → Step
trouble client kind =
    if kind == 0 then steps.Fault false
    else (if kind == 1 then steps.Fault true else (if kind == 2 then steps.RestartServer else steps.RestartClient client))

-- Of ten kinds three are a file that is made, one that a file is sent again, two that a request arrives, two that a reply does, one
-- is due work, and one an append that will fail or a start anew.
unfoldable pub kind_drawn : WorldView → Moment → ℕ → ℕ → ℕ → Drawn
kind_drawn world now client kind state =
    if nat_lt kind 3 then making_drawn client now state (slice_get world.customers client)
    else (if kind == 3 then step_drawn (steps.SendAgain client) state
    else (if nat_lt kind 6 then delivery_drawn (length world.requests) state
    else (if nat_lt kind 8 then reply_drawn client (length world.replies) state
    else (if kind == 8 then step_drawn steps.Due state else step_drawn (trouble client (draw 4 state)) (next state)))))

-- The client is drawn first, then the kind of the step.
unfoldable pub turn_drawn : WorldView → Moment → ℕ → Drawn
turn_drawn world now state = kind_drawn world now (draw 3 state) (draw 10 (next state)) (next (next state))

-- ---- turns

-- Before each turn, from 0, an hour goes by.
abbrev pub hour_of : ℕ → Moment
hour_of turn = record { 0 = pos (1704067200 + 3600 * (turn + 1)) }

abbrev pub turn_steps : WorldView → ℕ → ℕ → List Step
turn_steps world turn state = steps.Clock (hour_of turn) ∷ option_to_list (turn_drawn world (hour_of turn) state).step

-- So many turns, from this one on.
unfoldable pub AreTurns : ℕ → ℕ → ℕ → WorldView → WorldView → Type 0
AreTurns zero turn state before after = after ≡ before
AreTurns (suc more) turn state before after =
    (between : WorldView) × AreSteps before (turn_steps before turn state) between
    × AreTurns more (turn + 1) (turn_drawn before (hour_of turn) state).state between after

-- ---- what came of them

abbrev pub files_made : List CustomerView → ℕ
files_made customers = fold (λ (sum : ℕ) (customer : CustomerView). sum + (customer.client.next - 1)) 0 customers

abbrev pub is_lost : Store → Bool
is_lost store = store.is_lost

abbrev pub lost_among : List Store → ℕ
lost_among stores = length (filter is_lost stores)

abbrev pub stores_lost : List CustomerView → ℕ
stores_lost customers = fold (λ (sum : ℕ) (customer : CustomerView). sum + lost_among customer.client.stores) 0 customers

-- what these accounts have together
abbrev pub sum_among : List AccountView → ℤ
sum_among accounts = fold (λ (sum : ℤ) (account : AccountView). sum +ℤ account.balance.0) (pos 0) accounts

-- The files that were made, the events that happened, the entries of the history, all balances together, and the stores that are
-- marked lost.
abbrev pub came_of : WorldView → Summary
came_of world = record {
  files = files_made world.customers;
  events = length world.server.records;
  entries = length world.server.state.entries;
  sum = record { 0 = balances world.server.setup world.server.state.entries };
  lost = stores_lost world.customers;
}

-- The rehearsal of a seed has 2,000 turns.
pub record IsRehearsed (seed : ℕ) (summary : Summary) : Type 0 where
  pub first : WorldView
  pub last : WorldView
  pub begins : Begins rehearsed_setup rehearsed_clients first
  pub turns : AreTurns 2000 0 seed first last
  pub came : summary ≡ came_of last
