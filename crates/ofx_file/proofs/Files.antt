-- No bytes spell two files, bytes that spell one have no fault, and any bytes do one of the two.
use Rattle.std.proofs.Common.{◌≡◌, ℕ, inl, inr, List, Option, Ok, ap, ◌∙◌}
use Rattle.ofx_types.specs.MessageReading.{RequestParts, request_of, ReplyParts, reply_of}
use Rattle.ofx_types.specs.FileForm.{SpellsFile, SpellsReply, HasHeader, OneFile, FaultsSpellNothing, OneReply, FaultsSpellNoReply}
use Rattle.ofx_types.specs.declared.request.RequestFile.{RequestFile}
use Rattle.ofx_types.specs.declared.reply.ReplyFile.{ReplyFile}
use Rattle.ofx_file.specs.RequestOutcome.{EachIsJudged}
use Rattle.ofx_file.specs.ReplyOutcome.{EachReplyIsJudged}
use Rattle.ofx_file.specs.FileLaws.{RequestsAreFound, RequestFaultsHaveOffsets, RepliesAreFound, ReplyFaultsHaveOffsets}
use Rattle.ofx_file.proofs.FileFaults.{Laws, one_reading, no_fault, Judges, HasParts, judged}

-- ---- requests

file_with : ℕ → Option (List ℕ) → Option (List ℕ) → RequestParts → RequestFile
file_with version older newer parts =
    record { version = version; older = older; newer = newer; user = parts.user; pass = parts.pass; asks = parts.asks }

parts_of : RequestFile → RequestParts
parts_of file = record { user = file.user; pass = file.pass; asks = file.asks }

-- what a file says is what is read
parts_read : RequestsAreFound → (bytes : List ℕ) (file : RequestFile) (s : SpellsFile bytes file) → request_of s.ofx ≡ Ok (parts_of file)
unfolding parts_of
parts_read requests bytes file s = (requests s.ofx (parts_of file)).0 s.form

pub one_file : Laws → RequestsAreFound → OneFile
unfolding file_with parts_of
one_file laws requests bytes a b x y =
    let same = laws.headers bytes a.version b.version a.older b.older a.newer b.newer x.size y.size x.header y.header in
    let parts : parts_of a ≡ parts_of b =
    one_reading laws request_of bytes x.size y.size x.nodes y.nodes x.ofx y.ofx (parts_of a) (parts_of b) same.3 x.body y.body
    (parts_read requests bytes a x) (parts_read requests bytes b y) in
    ap (λ v. file_with v a.older a.newer (parts_of a)) same.0
    ∙ ap (λ o. file_with b.version o a.newer (parts_of a)) same.1
    ∙ ap (λ n. file_with b.version b.older n (parts_of a)) same.2
    ∙ ap (λ p. file_with b.version b.older b.newer p) parts

header_of : (bytes : List ℕ) (file : RequestFile) (s : SpellsFile bytes file) → HasHeader bytes s.size
header_of bytes file s = record { version = file.version; older = file.older; newer = file.newer; spelled = s.header }

pub faults_spell_nothing : Laws → RequestsAreFound → FaultsSpellNothing
faults_spell_nothing laws requests bytes file fault s f =
    no_fault laws request_of bytes s.size s.nodes s.ofx (parts_of file) fault (header_of bytes file s) s.body (parts_read requests bytes file s) f

spelled : RequestsAreFound → (bytes : List ℕ) (p : HasParts request_of bytes) → SpellsFile bytes (file_with p.header.version p.header.older p.header.newer p.parts)
unfolding file_with
spelled requests bytes p =
    record { size = p.size; nodes = p.nodes; ofx = p.ofx; header = p.header.spelled; body = p.body; form = (requests p.ofx p.parts).1 p.is_read }

pub each_is_judged : Judges → RequestsAreFound → RequestFaultsHaveOffsets → EachIsJudged
each_is_judged laws requests offsets bytes = elim (judged laws request_of offsets bytes) [
  | inl p ↦ inl (file_with p.header.version p.header.older p.header.newer p.parts, spelled requests bytes p)
  | inr f ↦ inr f
]

-- ---- replies

reply_with : ℕ → Option (List ℕ) → ReplyParts → ReplyFile
reply_with version newer parts =
    record { version = version; newer = newer; signon = parts.signon; moment = parts.moment; replies = parts.replies }

reply_parts : ReplyFile → ReplyParts
reply_parts reply = record { signon = reply.signon; moment = reply.moment; replies = reply.replies }

reply_read : RepliesAreFound → (bytes : List ℕ) (reply : ReplyFile) (s : SpellsReply bytes reply) → reply_of s.ofx ≡ Ok (reply_parts reply)
unfolding reply_parts
reply_read replies bytes reply s = (replies s.ofx (reply_parts reply)).0 s.form

pub one_reply : Laws → RepliesAreFound → OneReply
unfolding reply_with reply_parts
one_reply laws replies bytes a b x y =
    let same = laws.headers bytes a.version b.version x.older y.older a.newer b.newer x.size y.size x.header y.header in
    let parts : reply_parts a ≡ reply_parts b =
    one_reading laws reply_of bytes x.size y.size x.nodes y.nodes x.ofx y.ofx (reply_parts a) (reply_parts b) same.3 x.body y.body
    (reply_read replies bytes a x) (reply_read replies bytes b y) in
    ap (λ v. reply_with v a.newer (reply_parts a)) same.0
    ∙ ap (λ n. reply_with b.version n (reply_parts a)) same.2
    ∙ ap (λ p. reply_with b.version b.newer p) parts

reply_header : (bytes : List ℕ) (reply : ReplyFile) (s : SpellsReply bytes reply) → HasHeader bytes s.size
reply_header bytes reply s = record { version = reply.version; older = s.older; newer = reply.newer; spelled = s.header }

pub faults_spell_no_reply : Laws → RepliesAreFound → FaultsSpellNoReply
faults_spell_no_reply laws replies bytes reply fault s f =
    no_fault laws reply_of bytes s.size s.nodes s.ofx (reply_parts reply) fault (reply_header bytes reply s) s.body (reply_read replies bytes reply s) f

reply_spelled : RepliesAreFound → (bytes : List ℕ) (p : HasParts reply_of bytes) → SpellsReply bytes (reply_with p.header.version p.header.newer p.parts)
unfolding reply_with
reply_spelled replies bytes p =
    record { size = p.size; nodes = p.nodes; ofx = p.ofx; older = p.header.older; header = p.header.spelled; body = p.body; form = (replies p.ofx p.parts).1 p.is_read }

pub each_reply_is_judged : Judges → RepliesAreFound → ReplyFaultsHaveOffsets → EachReplyIsJudged
each_reply_is_judged laws replies offsets bytes = elim (judged laws reply_of offsets bytes) [
  | inl p ↦ inl (reply_with p.header.version p.header.newer p.parts, reply_spelled replies bytes p)
  | inr f ↦ inr f
]
