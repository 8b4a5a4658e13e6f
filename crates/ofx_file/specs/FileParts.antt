-- The parts of the bodies of files that are written.
use Rattle.std.specs.Prelude.{ℕ, List, ◌++◌, codes}
use Rattle.std.specs.List.{flat_map}
use Rattle.ofx_types.specs.Sheet.{aggregate, aggregate_of_some}
use Rattle.ofx_types.specs.RequestText.{signon_request}
use Rattle.ofx_types.specs.ReplyForm.{signon_reply}
use Rattle.ofx_types.specs.declared.number.Moment.{Moment}
use Rattle.ofx_types.specs.declared.request.Ask.{Ask}
use Rattle.ofx_types.specs.declared.request.RequestFile.{RequestFile}
use Rattle.ofx_types.specs.declared.reply.AskReply.{AskReply}
use Rattle.ofx_types.specs.declared.reply.ReplyFile.{ReplyFile}
use Rattle.ofx_file.specs.declared.messages.MessageSet.{MessageSet}
use Rattle.ofx_file.specs.declared.messages.MessageSet.TheVariants.{Bank, Mail}
use Rattle.ofx_file.specs.MessageSets.{request_set, text_in, reply_set, answer_text_in}

-- ---- requests

-- The message set of the signon.
abbrev pub request_signon_set : List ℕ → List ℕ → Moment → List ℕ
request_signon_set user pass at = aggregate (codes "SIGNONMSGSRQV1") (signon_request user pass at)

-- A message set that has an ask of these.
abbrev pub ask_set : MessageSet → List Ask → List ℕ
ask_set set asks = aggregate (request_set set) (flat_map (text_in set) asks)

-- A message set, where it has an ask of these.
abbrev pub ask_set_of_some : MessageSet → List Ask → List ℕ
ask_set_of_some set asks = aggregate_of_some (request_set set) (flat_map (text_in set) asks)

-- what follows the header
abbrev pub request_body : RequestFile → Moment → List ℕ
request_body file at =
    aggregate (codes "OFX") (request_signon_set file.user file.pass at ++ (ask_set_of_some Bank file.asks ++ ask_set_of_some Mail file.asks))

-- ---- replies

abbrev pub signon_set : ℕ → Moment → List ℕ
signon_set code moment = aggregate (codes "SIGNONMSGSRSV1") (signon_reply code moment)

abbrev pub answer_set : MessageSet → List AskReply → List ℕ
answer_set set answers = aggregate (reply_set set) (flat_map (answer_text_in set) answers)

abbrev pub answer_set_of_some : MessageSet → List AskReply → List ℕ
answer_set_of_some set answers = aggregate_of_some (reply_set set) (flat_map (answer_text_in set) answers)

abbrev pub reply_body : ReplyFile → List ℕ
reply_body reply =
    aggregate (codes "OFX")
    (signon_set reply.signon reply.moment ++ (answer_set_of_some Bank reply.replies ++ answer_set_of_some Mail reply.replies))
