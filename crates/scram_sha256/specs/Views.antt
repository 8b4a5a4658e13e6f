-- What calls answer, beside the definitions.
use Rattle.std.specs.Prelude.{◌≡◌, Option, None, Some, Result, Ok, Err}
use Rattle.scram_sha256.specs.declared.challenge.Challenge as code
use Rattle.scram_sha256.specs.declared.exchange.Replies as code_replies
use Rattle.scram_sha256.specs.declared.exchange.ScramFault.{ScramFault}
use Rattle.scram_sha256.specs.declared.exchange.ScramFault.TheVariants.{Refused, OutOfMemory}
use Rattle.scram_sha256.specs.Exchange.{Challenge, Replies}

abbrev pub Fails : {Y : Type 0} → ScramFault → Option Y → Type 0
Fails Refused read = read ≡ None
Fails OutOfMemory read = Unit {0}

-- A call answers what the definition gives, seen by a view, and refuses exactly where it gives nothing, unless memory ran out.
abbrev pub Answers : {X Y : Type 0} → (X → Y) → Result X ScramFault → Option Y → Type 0
Answers view (Ok x) read = read ≡ Some (view x)
Answers view (Err fault) read = Fails fault read

abbrev pub challenge_of : code.Challenge → Challenge
challenge_of c = record { nonce = c.nonce.now; salt = c.salt.items; rounds = c.rounds }

abbrev pub replies_of : code_replies.Replies → Replies
replies_of r = record { last = r.last.items; wanted = r.wanted.items }
