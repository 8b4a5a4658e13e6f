-- What calls of a sign-on answer, beside the definitions.
use Rattle.scram_sha256.specs.declared.exchange.Identity as code
use Rattle.postgres_talk.specs.declared.sign_on.Saying.{Saying}
use Rattle.postgres_talk.specs.declared.sign_on.Saying.TheVariants as sayings
use Rattle.postgres_talk.specs.SigningOn.{Client, Said, Nothing, First, Last}

abbrev pub client_of : code.Identity → Client
client_of who = record { user = who.user.now; password = who.password.now; nonce = who.nonce.now }

abbrev pub said_of : Saying → Said
said_of sayings.Nothing = Nothing
said_of sayings.First = First
said_of (sayings.Last text) = Last text.items
