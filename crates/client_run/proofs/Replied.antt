-- What comes of a call is decided by the bytes that the bank sends.
use Rattle.std.proofs.Common.{◌≡◌, ◌≢◌, ◌∙◌, ℕ, ◌<◌, ◌≤◌, List, [], ◌++◌, length, take, drop, Option, None, Some, Result, Ok, Err, ◌⊎◌, inl, inr, true, refl, sym, ap, subst, arith, append_assoc, append-nil, length-append}
use Rattle.std.specs.Io.KnownBytes.{Keeps, Consumes, IsAtEnd, prepend_known}
use Rattle.std.proofs.lemmas.Bool.{ltb-true}
use Rattle.std.proofs.lemmas.List.{take-append-drop, take_at}
use Rattle.ofx_ports.specs.Faults.{Rose}
use Rattle.ofx_types.specs.FileForm.{SpellsReply}
use Rattle.ofx_types.specs.declared.reply.ReplyFile.{ReplyFile}
use Rattle.httparse.specs.Grammar.{ResponseHead, print_response, MayBecomeResponse}
use Rattle.http_front.specs.Heads.{BeginsResponse, AwaitsResponse, head_of_response}
use Rattle.http_front.specs.HeadLaws.{OneResponse, ResponsesStay, BadResponsesStay}
use Rattle.http_front.specs.declared.head.ReplyHead.{ReplyHead}
use Rattle.http_link.specs.Responses.{HasReplyHead, is_unusable, HasNoHead, HasNoLength, HasBadHead, LacksReplyBody, IsUnfinishedReply}
use Rattle.client_run.specs.Views.{LinkView}
use Rattle.client_run.specs.Exchange.{IsReply, BeginsWith, Brings, IsNoReplyAt, IsUnread, Receives, Exchanges}
use Rattle.client_run.specs.Exact.{IsCallBroken, IsOutcome, Asks, WholeRepliesDecide, UnfinishedRepliesCut, BadHeadsEnd}
use Rattle.client_run.specs.declared.stop.CallStop.{CallStop}
use Rattle.client_run.specs.declared.stop.CallStop.TheVariants as calls

-- ---- heads

-- The bytes begin with a usable head for this code, and at least this body.
record Begun (all : List ℕ) (code : ℕ) (body : List ℕ) : Type 0 where
  pub h : ResponseHead
  pub more : List ℕ
  pub begins : BeginsResponse all h (body ++ more)
  pub code_is : (head_of_response h).code ≡ code
  pub length_is : (head_of_response h).length ≡ Some (length body)
  pub small : length body ≤ 67108864

reply_begun : ResponsesStay → (bytes more : List ℕ) (code : ℕ) (body : List ℕ) → IsReply bytes code body → Begun (bytes ++ more) code body
reply_begun stay bytes more code body is =
    let has = is.whole.has_head in
    record {
      h = has.h;
      more = more;
      begins = stay bytes more has.h body has.begins;
      code_is = ap (λ (head : ReplyHead). head.code) (sym has.reported_is) ∙ is.code_is;
      length_is = ap (λ (head : ReplyHead). head.length) (sym has.reported_is) ∙ is.whole.length_is;
      small = is.whole.small;
    }

prefix_begun : ResponsesStay → (all : List ℕ) (code : ℕ) (body : List ℕ) → BeginsWith all code body → Begun all code body
prefix_begun stay all code body begins =
    subst (λ (l : List ℕ). Begun l code body) (take-append-drop begins.size all) (reply_begun stay (take begins.size all) (drop begins.size all) code body begins.is_reply)

more_begun : ResponsesStay → (bytes more : List ℕ) (code : ℕ) (body : List ℕ) → BeginsWith bytes code body → Begun (bytes ++ more) code body
more_begun stay bytes more code body begins =
    let whole : take begins.size bytes ++ (drop begins.size bytes ++ more) ≡ bytes ++ more =
    sym (append_assoc (take begins.size bytes) (drop begins.size bytes) more) ∙ ap (λ (l : List ℕ). l ++ more) (take-append-drop begins.size bytes) in
    subst (λ (l : List ℕ). Begun l code body) whole (reply_begun stay (take begins.size bytes) (drop begins.size bytes ++ more) code body begins.is_reply)

unusable_size : (reported : Option ℕ) (size : ℕ) → reported ≡ Some size → size ≤ 67108864 → is_unusable reported ≡ true → ⊥
unusable_size None size e small is = cc
unusable_size (Some reported) size e small is =
    let same : reported ≡ size = cc in
    omega (arith, same, small, ltb-true 67108864 reported is)

reported_length : (g h : ResponseHead) (size : ℕ) → g ≡ h → (head_of_response h).length ≡ Some size → (head_of_response g).length ≡ Some size
reported_length g h size same is = ap (λ (k : ResponseHead). (head_of_response k).length) same ∙ is

-- a head that is reported has a length that is usable, or not
unusable_begun : OneResponse → (all : List ℕ) (h : ResponseHead) (rest : List ℕ) (size : ℕ) (head : ReplyHead) (suffix : List ℕ) → BeginsResponse all h rest → (head_of_response h).length ≡ Some size → size ≤ 67108864 → HasReplyHead all head suffix → is_unusable head.length ≡ true → ⊥
unusable_begun one all h rest size head suffix begins length_is small has unusable =
    let same : has.h ≡ h = (one all has.h h suffix rest has.begins begins).0 in
    unusable_size head.length size (ap (λ (k : ReplyHead). k.length) has.reported_is ∙ reported_length has.h h size same length_is) small unusable

head_stays : ResponsesStay → (bytes more : List ℕ) (head : ReplyHead) (rest : List ℕ) → HasReplyHead bytes head rest → HasReplyHead (bytes ++ more) head (rest ++ more)
head_stays stay bytes more head rest has = record { h = has.h; begins = stay bytes more has.h rest has.begins; reported_is = has.reported_is }

-- ---- what excludes what

may_less : (bytes more : List ℕ) → MayBecomeResponse (bytes ++ more) → MayBecomeResponse bytes
may_less bytes more (extra, h, (valid, spelled)) = (more ++ extra, h, (valid, sym (append_assoc bytes more extra) ∙ spelled))

-- What is awaited of more bytes is awaited of fewer.
awaits_less : (bytes more : List ℕ) → AwaitsResponse (bytes ++ more) → AwaitsResponse bytes
awaits_less bytes more awaits = record {
  short = omega (arith, awaits.short, length-append bytes more);
  none = λ h rest reads. awaits.none h (rest ++ more) (reads.0, ap (λ (l : List ℕ). l ++ more) reads.1 ∙ append_assoc (print_response h) rest more);
  may = may_less bytes more awaits.may;
}

bad_unfinished : OneResponse → ResponsesStay → BadResponsesStay → (bytes more : List ℕ) → HasBadHead bytes → IsUnfinishedReply (bytes ++ more) → ⊥
bad_unfinished one stay bad bytes more (inl no_head) (inl awaits) = no_head.in_vain (awaits_less bytes more awaits)
bad_unfinished one stay bad bytes more (inl no_head) (inr lacks) = bad bytes more no_head.none no_head.in_vain lacks.has_head.h lacks.came lacks.has_head.begins
bad_unfinished one stay bad bytes more (inr no_length) (inl awaits) =
    let has = head_stays stay bytes more no_length.head no_length.rest no_length.has_head in
    awaits.none has.h (no_length.rest ++ more) has.begins.0
bad_unfinished one stay bad bytes more (inr no_length) (inr lacks) =
    unusable_begun one (bytes ++ more) lacks.has_head.h lacks.came lacks.size no_length.head (no_length.rest ++ more) lacks.has_head.begins
    (ap (λ (k : ReplyHead). k.length) (sym lacks.has_head.reported_is) ∙ lacks.length_is) lacks.small
    (head_stays stay bytes more no_length.head no_length.rest no_length.has_head) no_length.unusable

bad_begun : OneResponse → ResponsesStay → BadResponsesStay → (bytes more : List ℕ) (code : ℕ) (body : List ℕ) → HasBadHead bytes → Begun (bytes ++ more) code body → ⊥
bad_begun one stay bad bytes more code body (inl no_head) begun = bad bytes more no_head.none no_head.in_vain begun.h (body ++ begun.more) begun.begins
bad_begun one stay bad bytes more code body (inr no_length) begun =
    unusable_begun one (bytes ++ more) begun.h (body ++ begun.more) (length body) no_length.head (no_length.rest ++ more) begun.begins begun.length_is begun.small
    (head_stays stay bytes more no_length.head no_length.rest no_length.has_head) no_length.unusable

lacks_begun : OneResponse → (all : List ℕ) (code : ℕ) (body : List ℕ) → LacksReplyBody all → Begun all code body → ⊥
lacks_begun one all code body lacks begun =
    let both = one all lacks.has_head.h begun.h lacks.came (body ++ begun.more) lacks.has_head.begins begun.begins in
    let sized : Some lacks.size ≡ Some (length body) =
    sym lacks.length_is ∙ (ap (λ (k : ReplyHead). k.length) lacks.has_head.reported_is ∙ reported_length lacks.has_head.h begun.h (length body) both.0 begun.length_is) in
    let size_is : lacks.size ≡ length body = cc in
    omega (arith, size_is, lacks.short, ap length both.1, length-append body begun.more)

unfinished_begun : OneResponse → (all : List ℕ) (code : ℕ) (body : List ℕ) → IsUnfinishedReply all → Begun all code body → ⊥
unfinished_begun one all code body (inl awaits) begun = awaits.none begun.h (body ++ begun.more) begun.begins.0
unfinished_begun one all code body (inr lacks) begun = lacks_begun one all code body lacks begun

one_begun : OneResponse → (all : List ℕ) (code other : ℕ) (body text : List ℕ) → Begun all code body → Begun all other text → (other ≡ code) × (text ≡ body)
one_begun one all code other body text a b =
    let both = one all a.h b.h (body ++ a.more) (text ++ b.more) a.begins b.begins in
    let sized : Some (length body) ≡ Some (length text) = sym a.length_is ∙ reported_length a.h b.h (length text) both.0 b.length_is in
    let size_is : length body ≡ length text = cc in (
      sym b.code_is ∙ (ap (λ (k : ResponseHead). (head_of_response k).code) (sym both.0) ∙ a.code_is),
      sym (take_at text b.more (length body) (sym size_is)) ∙ (ap (take (length body)) (sym both.1) ∙ take_at body a.more (length body) refl),
    )

-- ---- what has come

-- bytes that are known and not used up are those ahead and those to come
unread_all : (all ahead ahead' : List ℕ) (left left' : Option (List ℕ)) → prepend_known ahead left ≡ Some all → Keeps (prepend_known ahead left) (prepend_known ahead' left') → (rest : List ℕ) × (left' ≡ Some rest) × (ahead' ++ rest ≡ all)
unread_all all ahead ahead' None left' e keeps = absurd cc
unread_all all ahead ahead' (Some bytes) None e keeps = absurd keeps
unread_all all ahead ahead' (Some bytes) (Some rest) e keeps = let same : ahead ++ bytes ≡ all = cc in (rest, refl, keeps ∙ same)

used_all : (all ahead ahead' bytes : List ℕ) (left left' : Option (List ℕ)) → prepend_known ahead left ≡ Some all → Consumes (prepend_known ahead left) (prepend_known ahead' left') bytes → (rest : List ℕ) × (all ≡ bytes ++ rest)
used_all all ahead ahead' bytes None left' e used = absurd cc
used_all all ahead ahead' bytes (Some had) None e used = absurd used
used_all all ahead ahead' bytes (Some had) (Some rest) e used = let same : ahead ++ had ≡ all = cc in (ahead' ++ rest, sym same ∙ used)

-- What comes of a call says what the bytes begin with.
abbrev IsFate : List ℕ → LinkView → LinkView → Result ReplyFile CallStop → Type 0
IsFate all before after (Ok reply) = (body : List ℕ) × Begun all 200 body × SpellsReply body reply
IsFate all before after (Err (calls.Http code)) = (code ≢ 200) × ((body : List ℕ) × Begun all code body)
IsFate all before after (Err (calls.BadReply at)) = (body : List ℕ) × Begun all 200 body × IsNoReplyAt body at
IsFate all before after (Err (calls.Cut count)) = (count ≡ length all) × IsUnfinishedReply all
IsFate all before after (Err calls.BadHead) = (bytes : List ℕ) × (more : List ℕ) × (bytes ++ more ≡ all) × HasBadHead bytes
IsFate all before after (Err calls.ReadFailed) = Rose before.read_faults after.read_faults
IsFate all before after (Err calls.WriteFailed) = Rose before.write_faults after.write_faults
IsFate all before after (Err calls.NoMemory) = Unit {0}

at_end : (all ahead' : List ℕ) (left' : Option (List ℕ)) (rest : List ℕ) → left' ≡ Some rest → ahead' ++ rest ≡ all → IsAtEnd left' → ahead' ≡ all
at_end all ahead' None rest e whole ends = absurd cc
at_end all ahead' (Some bytes) rest e whole ends =
    let same : rest ≡ [] = let first : bytes ≡ rest = cc in sym first ∙ ends in
    sym (append-nil ahead') ∙ (ap (λ (l : List ℕ). ahead' ++ l) (sym same) ∙ whole)

fate : ResponsesStay → (all ahead : List ℕ) (before after : LinkView) (ahead' request : List ℕ) (got : Result ReplyFile CallStop) → prepend_known ahead before.left ≡ Some all → Exchanges request ahead before ahead' after got → IsFate all before after got
fate stay all ahead before after ahead' request (Ok reply) reported (sent, writes, (bytes, brings, used, reads)) =
    let suffix = used_all all ahead ahead' bytes before.left after.left reported used in
    (brings.body, subst (λ (l : List ℕ). Begun l 200 brings.body) (sym suffix.1) (reply_begun stay bytes suffix.0 200 brings.body brings.is_reply), brings.spells)
fate stay all ahead before after ahead' request (Err (calls.Http code)) reported (sent, (unread, (other, (body, begins)))) =
    let suffix = unread_all all ahead ahead' before.left after.left reported unread in
    (other, (body, subst (λ (l : List ℕ). Begun l code body) suffix.2 (more_begun stay ahead' suffix.0 code body begins)))
fate stay all ahead before after ahead' request (Err (calls.BadReply at)) reported (sent, (unread, (body, begins, fault))) =
    let suffix = unread_all all ahead ahead' before.left after.left reported unread in
    (body, subst (λ (l : List ℕ). Begun l 200 body) suffix.2 (more_begun stay ahead' suffix.0 200 body begins), fault)
fate stay all ahead before after ahead' request (Err (calls.Cut count)) reported (sent, (unread, (count_is, unfinished, ends))) =
    let suffix = unread_all all ahead ahead' before.left after.left reported unread in
    let same : ahead' ≡ all = at_end all ahead' after.left suffix.0 suffix.1 suffix.2 ends in
    (count_is ∙ ap length same, subst IsUnfinishedReply same unfinished)
fate stay all ahead before after ahead' request (Err calls.BadHead) reported (sent, (unread, bad)) =
    let suffix = unread_all all ahead ahead' before.left after.left reported unread in
    (ahead', suffix.0, suffix.2, bad)
fate stay all ahead before after ahead' request (Err calls.ReadFailed) reported (sent, (unread, (unfinished, rose))) = rose
fate stay all ahead before after ahead' request (Err calls.WriteFailed) reported (sent, rose, unread) = rose
fate stay all ahead before after ahead' request (Err calls.NoMemory) reported exchanges = tt

-- ---- each of the bytes

whole_fate : OneResponse → ResponsesStay → BadResponsesStay → (all : List ℕ) (before after : LinkView) (got : Result ReplyFile CallStop) (code : ℕ) (body : List ℕ) → Begun all code body → IsFate all before after got → IsOutcome code body got ⊎ IsCallBroken before after got
whole_fate one stay bad all before after (Ok reply) code body begun (text, begun', spells) =
    let same = one_begun one all 200 code text body begun' begun in
    inl (same.0, subst (λ (l : List ℕ). SpellsReply l reply) (sym same.1) spells)
whole_fate one stay bad all before after (Err (calls.Http reported)) code body begun (other, (text, begun')) =
    let same : code ≡ reported = (one_begun one all reported code text body begun' begun).0 in
    inl (subst (λ (n : ℕ). n ≢ 200) (sym same) other, sym same)
whole_fate one stay bad all before after (Err (calls.BadReply at)) code body begun (text, begun', fault) =
    let same = one_begun one all 200 code text body begun' begun in
    inl (same.0, subst (λ (l : List ℕ). IsNoReplyAt l at) (sym same.1) fault)
whole_fate one stay bad all before after (Err (calls.Cut count)) code body begun (count_is, unfinished) = absurd (unfinished_begun one all code body unfinished begun)
whole_fate one stay bad all before after (Err calls.BadHead) code body begun (bytes, more, whole, no_head) =
    absurd (bad_begun one stay bad bytes more code body no_head (subst (λ (l : List ℕ). Begun l code body) (sym whole) begun))
whole_fate one stay bad all before after (Err calls.ReadFailed) code body begun rose = inr (inl (refl, rose))
whole_fate one stay bad all before after (Err calls.WriteFailed) code body begun rose = inr (inr (inl (refl, rose)))
whole_fate one stay bad all before after (Err calls.NoMemory) code body begun fated = inr (inr (inr refl))

pub whole_replies : OneResponse → ResponsesStay → BadResponsesStay → WholeRepliesDecide
whole_replies one stay bad all ahead before after ahead' got code body (reported, (request, exchanges)) begins =
    whole_fate one stay bad all before after got code body (prefix_begun stay all code body begins) (fate stay all ahead before after ahead' request got reported exchanges)

unfinished_fate : OneResponse → ResponsesStay → BadResponsesStay → (all : List ℕ) (before after : LinkView) (got : Result ReplyFile CallStop) → IsUnfinishedReply all → IsFate all before after got → (got ≡ Err (calls.Cut (length all))) ⊎ IsCallBroken before after got
unfinished_fate one stay bad all before after (Ok reply) unfinished (text, begun, spells) = absurd (unfinished_begun one all 200 text unfinished begun)
unfinished_fate one stay bad all before after (Err (calls.Http reported)) unfinished (other, (text, begun)) = absurd (unfinished_begun one all reported text unfinished begun)
unfinished_fate one stay bad all before after (Err (calls.BadReply at)) unfinished (text, begun, fault) = absurd (unfinished_begun one all 200 text unfinished begun)
unfinished_fate one stay bad all before after (Err (calls.Cut count)) unfinished (count_is, so) = inl (ap (λ (n : ℕ). Err (calls.Cut n)) count_is)
unfinished_fate one stay bad all before after (Err calls.BadHead) unfinished (bytes, more, whole, no_head) =
    absurd (bad_unfinished one stay bad bytes more no_head (subst IsUnfinishedReply (sym whole) unfinished))
unfinished_fate one stay bad all before after (Err calls.ReadFailed) unfinished rose = inr (inl (refl, rose))
unfinished_fate one stay bad all before after (Err calls.WriteFailed) unfinished rose = inr (inr (inl (refl, rose)))
unfinished_fate one stay bad all before after (Err calls.NoMemory) unfinished fated = inr (inr (inr refl))

pub unfinished_replies : OneResponse → ResponsesStay → BadResponsesStay → UnfinishedRepliesCut
unfinished_replies one stay bad all ahead before after ahead' got (reported, (request, exchanges)) unfinished =
    unfinished_fate one stay bad all before after got unfinished (fate stay all ahead before after ahead' request got reported exchanges)

bad_alone : OneResponse → ResponsesStay → BadResponsesStay → (all : List ℕ) (code : ℕ) (body : List ℕ) → HasBadHead all → Begun all code body → ⊥
bad_alone one stay bad all code body no_head begun = bad_begun one stay bad all [] code body no_head (subst (λ (l : List ℕ). Begun l code body) (sym (append-nil all)) begun)

bad_fate : OneResponse → ResponsesStay → BadResponsesStay → (all : List ℕ) (before after : LinkView) (got : Result ReplyFile CallStop) → HasBadHead all → IsFate all before after got → (got ≡ Err calls.BadHead) ⊎ IsCallBroken before after got
bad_fate one stay bad all before after (Ok reply) no_head (text, begun, spells) = absurd (bad_alone one stay bad all 200 text no_head begun)
bad_fate one stay bad all before after (Err (calls.Http reported)) no_head (other, (text, begun)) = absurd (bad_alone one stay bad all reported text no_head begun)
bad_fate one stay bad all before after (Err (calls.BadReply at)) no_head (text, begun, fault) = absurd (bad_alone one stay bad all 200 text no_head begun)
bad_fate one stay bad all before after (Err (calls.Cut count)) no_head (count_is, unfinished) =
    absurd (bad_unfinished one stay bad all [] no_head (subst IsUnfinishedReply (sym (append-nil all)) unfinished))
bad_fate one stay bad all before after (Err calls.BadHead) no_head fated = inl refl
bad_fate one stay bad all before after (Err calls.ReadFailed) no_head rose = inr (inl (refl, rose))
bad_fate one stay bad all before after (Err calls.WriteFailed) no_head rose = inr (inr (inl (refl, rose)))
bad_fate one stay bad all before after (Err calls.NoMemory) no_head fated = inr (inr (inr refl))

pub bad_heads : OneResponse → ResponsesStay → BadResponsesStay → BadHeadsEnd
bad_heads one stay bad all ahead before after ahead' got (reported, (request, exchanges)) no_head =
    bad_fate one stay bad all before after got no_head (fate stay all ahead before after ahead' request got reported exchanges)
