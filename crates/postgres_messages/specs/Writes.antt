-- What writing answers, beside the definitions.
use Rattle.std.specs.Prelude.{◌≡◌, ℕ, Bool, true, false, List, ◌++◌, map, Result, Ok, Err}
use Rattle.postgres_messages.specs.declared.request.FrontendMessage.{FrontendMessage}
use Rattle.postgres_messages.specs.declared.request.FrontendMessage.TheVariants as code
use Rattle.postgres_messages.specs.declared.request.WriteFault.{WriteFault}
use Rattle.postgres_messages.specs.declared.request.WriteFault.TheVariants as faults
use Rattle.postgres_messages.specs.Requests.{Request, Startup, SignOn, Reply, Parse, Bind, Execute, Sync, Terminate}

-- The bytes are added at the end, where they have a form. What has none is refused, and nothing else is, unless memory ran out.
abbrev pub Puts : (form : Bool) → (bytes before now : List ℕ) → Result (Unit {0}) WriteFault → Type 0
Puts form bytes before now (Ok done) = (now ≡ before ++ bytes) × (form ≡ true)
Puts form bytes before now (Err faults.Unwritable) = form ≡ false
Puts form bytes before now (Err faults.OutOfMemory) = Unit {0}

abbrev pub request_of : FrontendMessage → Request
request_of (code.Startup user database) = Startup user.now database.now
request_of (code.SignOn first) = SignOn first.now
request_of (code.Reply last) = Reply last.now
request_of (code.Parse name sql types) = Parse name.now sql.now types.now
request_of (code.Bind name values) = Bind name.now (map (λ v. v.now) values.now)
request_of code.Execute = Execute
request_of code.Sync = Sync
request_of code.Terminate = Terminate
