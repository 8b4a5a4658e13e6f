-- What is read is what the bytes spell, and what is refused is their fault.
use Rattle.std.proofs.Common.{◌≡◌, ℕ, ◌+◌, ◌-◌, ◌≤◌, List, ◌++◌, length, take, drop, length-drop, Option, Some, Result, Ok, Err, codes, refl, sym, subst, ◌∙◌}
use Rattle.std.proofs.Math.Seq.{take-length}
use Rattle.ofx_types.specs.HeaderForm.{SpellsHeader}
use Rattle.ofx_types.specs.TagFault.{tag_fault}
use Rattle.ofx_types.specs.Nodes.{TagNode, Item, IsRoot}
use Rattle.ofx_types.specs.FormWords.{◌>>=◌, FailsSo, one, maybe}
use Rattle.ofx_types.specs.MessageForm.{bank_names, mail_names, bank_reply_names, mail_reply_names}
use Rattle.ofx_types.specs.RequestReading.{signon_of}
use Rattle.ofx_types.specs.ReplyReading.{signon_reply_of}
use Rattle.ofx_types.specs.MessageReading.{messages_in, RequestParts, ask_of, request_of, ReplyParts, ask_reply_of, reply_of}
use Rattle.ofx_types.specs.FileForm.{SpellsFile, SpellsReply, HasHeader, IsFormFault, IsFaultIn, IsFaultOf, IsReplyFaultOf, form_offset, OneSpelled, NothingSpelled, OneFaultOf}
use Rattle.ofx_types.specs.declared.number.Moment.{Moment}
use Rattle.ofx_types.specs.declared.fault.TapeFault.{TapeFault}
use Rattle.ofx_types.specs.declared.fault.TapeFault.TheVariants as tags
use Rattle.ofx_types.specs.declared.fault.TreeFault.{TreeFault}
use Rattle.ofx_types.specs.declared.fault.TreeFault.TheVariants as forms
use Rattle.ofx_types.specs.declared.fault.FileFault.{FileFault}
use Rattle.ofx_types.specs.declared.fault.FileFault.TheVariants.{Header, Syntax, Form, OutOfMemory}
use Rattle.ofx_types.specs.declared.request.RequestFile.{RequestFile}
use Rattle.ofx_types.specs.declared.reply.ReplyFile.{ReplyFile}
use Rattle.ofx_header.specs.declared.values.Header as headers
use Rattle.ofx_tape.specs.TapeOutcome.{IsTapeRefusal}
use Rattle.bank_model.specs.Sound.{IsSound}
use Rattle.ofx_file.specs.Outcome.{HasTags, IsTagsRefusal, IsRefusal, AreReadAll, AreRefusedAll}
use Rattle.ofx_file.specs.RequestOutcome.{ReadsRequest}
use Rattle.ofx_file.specs.ReplyOutcome.{ReadsReply}
use Rattle.ofx_file.specs.FileLaws.{RequestsAreFound, RepliesAreFound}
use Rattle.ofx_file.specs.RequestSteps as requests
use Rattle.ofx_file.specs.ReplySteps as replies
use Rattle.ofx_file.specs.FaultOffsets.{IsTagWithin, IsFormWithin, syntax_fault, form_fault}
use Rattle.ofx_tree.proofs.FormLaws.{bind_ok, one_value}
use Rattle.ofx_file.proofs.FileFaults.{HaveOffsets}
use Rattle.ofx_file.proofs.FormOffsets.{form_fault_within}
use Rattle.ofx_file.proofs.Soundness.{sound_file}
use Rattle.ofx_file.proofs.TagOffsets.{tag_fault_within}

-- ---- the header and the tags

-- the bytes after a header, as a slice up to the end has them
pub rest_is : (size : ℕ) (bytes : List ℕ) → take (length bytes - size) (drop size bytes) ≡ drop size bytes
rest_is size bytes = rw (← length-drop size bytes) (take-length (drop size bytes))

pub has_header : (bytes : List ℕ) (version : ℕ) (older newer : Option (List ℕ)) (size : ℕ) → SpellsHeader bytes version older newer size → HasHeader bytes size
has_header bytes version older newer size h = record { version = version; older = older; newer = newer; spelled = h }

tape_refused : (body : List ℕ) (fault : TapeFault) → (tag_fault body ≡ Some fault → IsTagWithin (length body) fault) → IsTapeRefusal body fault → IsTagWithin (length body) fault
tape_refused body (tags.Tag at) f h = f h
tape_refused body (tags.Mismatch at) f h = f h
tape_refused body (tags.Depth at) f h = f h
tape_refused body (tags.Cut at) f h = f h
tape_refused body tags.OutOfMemory f h = tt

-- a refusal of the tags is in the body
pub tape_refusal_within : (body : List ℕ) (fault : TapeFault) → IsTapeRefusal body fault → IsTagWithin (length body) fault
tape_refusal_within body fault h = tape_refused body fault (tag_fault_within body fault) h

pub tape_refusal : (bytes : List ℕ) (size : ℕ) (fault : TapeFault) → HasHeader bytes size → IsTapeRefusal (drop size bytes) fault → IsTagsRefusal bytes (syntax_fault size fault)
tape_refusal bytes size (tags.Tag at) header h = record { size = size; fault = tags.Tag at; offset = at; header = header; is_fault = h; has_offset = refl; at_is = refl }
tape_refusal bytes size (tags.Mismatch at) header h = record { size = size; fault = tags.Mismatch at; offset = at; header = header; is_fault = h; has_offset = refl; at_is = refl }
tape_refusal bytes size (tags.Depth at) header h = record { size = size; fault = tags.Depth at; offset = at; header = header; is_fault = h; has_offset = refl; at_is = refl }
tape_refusal bytes size (tags.Cut at) header h = record { size = size; fault = tags.Cut at; offset = at; header = header; is_fault = h; has_offset = refl; at_is = refl }
tape_refusal bytes size tags.OutOfMemory header h = tt

-- a refusal of header or tags is one of the file, whatever forms it has
pub tags_refusal : {P : Type 0} (parts_of : Item → Result P TreeFault) (bytes : List ℕ) (fault : FileFault) → IsTagsRefusal bytes fault → IsRefusal (IsFaultIn parts_of) bytes fault
tags_refusal parts_of bytes (Header at) h = h
tags_refusal parts_of bytes (Syntax at) h = h
tags_refusal parts_of bytes (Form at) h = absurd h
tags_refusal parts_of bytes OutOfMemory h = tt

-- ---- faults of the forms

-- a step that only puts parts together adds no fault
err_before : {P F : Type 0} (r : Result P TreeFault) (file_of : P → F) (e : TreeFault) → (r >>= λ parts. Ok (file_of parts)) ≡ Err e → r ≡ Err e
err_before (Ok parts) file_of e h = cc
err_before (Err f) file_of e h = cc

form_within : {P F : Type 0} (parts_of : Item → Result P TreeFault) → HaveOffsets parts_of → (file_of : P → F) (bytes : List ℕ) (said : headers.Header) (size : ℕ) (nodes : List TagNode) (ofx : Item) (fault : TreeFault) →
    HasTags bytes said size nodes → IsRoot nodes ofx → (parts_of ofx >>= λ parts. Ok (file_of parts)) ≡ Err fault → IsFormWithin (length (drop size bytes)) fault
form_within parts_of offsets file_of bytes said size nodes ofx fault has root h =
    form_fault_within parts_of offsets (drop size bytes) nodes ofx fault has.slices root (err_before (parts_of ofx) file_of fault h)

-- a refusal of the forms is in the body
pub form_refusal_within : {P F : Type 0} (parts_of : Item → Result P TreeFault) → HaveOffsets parts_of → (file_of : P → F) (bytes : List ℕ) (said : headers.Header) (size : ℕ) (nodes : List TagNode) (ofx : Item) (fault : TreeFault) →
    HasTags bytes said size nodes → IsRoot nodes ofx → FailsSo fault (parts_of ofx >>= λ parts. Ok (file_of parts)) → IsFormWithin (length (drop size bytes)) fault
form_refusal_within parts_of offsets file_of bytes said size nodes ofx (forms.Missing at) has root h = form_within parts_of offsets file_of bytes said size nodes ofx (forms.Missing at) has root h
form_refusal_within parts_of offsets file_of bytes said size nodes ofx (forms.Repeated at) has root h = form_within parts_of offsets file_of bytes said size nodes ofx (forms.Repeated at) has root h
form_refusal_within parts_of offsets file_of bytes said size nodes ofx (forms.Value at) has root h = form_within parts_of offsets file_of bytes said size nodes ofx (forms.Value at) has root h
form_refusal_within parts_of offsets file_of bytes said size nodes ofx forms.OutOfMemory has root h = tt

form_refused : {P F : Type 0} (parts_of : Item → Result P TreeFault) (file_of : P → F) (bytes : List ℕ) (said : headers.Header) (size : ℕ) (nodes : List TagNode) (ofx : Item) (fault : TreeFault) (at : ℕ) →
    HasTags bytes said size nodes → IsRoot nodes ofx → (parts_of ofx >>= λ parts. Ok (file_of parts)) ≡ Err fault → form_offset fault ≡ Some at → IsFormFault parts_of bytes (size + at)
form_refused parts_of file_of bytes said size nodes ofx fault at has root h offset = record {
  size = size;
  nodes = nodes;
  ofx = ofx;
  fault = fault;
  offset = at;
  header = has_header bytes said.version said.older said.newer size has.header;
  body = record { are_nodes = has.are_nodes; is_root = root };
  is_fault = err_before (parts_of ofx) file_of fault h;
  has_offset = offset;
  at_is = refl;
}

pub form_refusal : {P F : Type 0} (parts_of : Item → Result P TreeFault) (file_of : P → F) (bytes : List ℕ) (said : headers.Header) (size : ℕ) (nodes : List TagNode) (ofx : Item) (fault : TreeFault) →
    HasTags bytes said size nodes → IsRoot nodes ofx → FailsSo fault (parts_of ofx >>= λ parts. Ok (file_of parts)) → IsRefusal (IsFaultIn parts_of) bytes (form_fault size fault)
form_refusal parts_of file_of bytes said size nodes ofx (forms.Missing at) has root h = form_refused parts_of file_of bytes said size nodes ofx (forms.Missing at) at has root h refl
form_refusal parts_of file_of bytes said size nodes ofx (forms.Repeated at) has root h = form_refused parts_of file_of bytes said size nodes ofx (forms.Repeated at) at has root h refl
form_refusal parts_of file_of bytes said size nodes ofx (forms.Value at) has root h = form_refused parts_of file_of bytes said size nodes ofx (forms.Value at) at has root h refl
form_refusal parts_of file_of bytes said size nodes ofx forms.OutOfMemory has root h = tt

-- ---- the steps in one row

through : {A B C : Type 0} (r : Result A TreeFault) (f : A → Result B TreeFault) (w : B → Result C TreeFault) (k : A → Result C TreeFault) →
    ((x : A) → (f x >>= w) ≡ k x) → ((r >>= f) >>= w) ≡ (r >>= k)
through (Ok x) f w k h = h x
through (Err e) f w k h = refl

-- ---- requests

abbrev pub file_of : ℕ → Option (List ℕ) → Option (List ℕ) → RequestParts → RequestFile
file_of version older newer parts =
    record { version = version; older = older; newer = newer; user = parts.user; pass = parts.pass; asks = parts.asks }

abbrev file_read : ℕ → Option (List ℕ) → Option (List ℕ) → RequestParts → Result RequestFile TreeFault
file_read version older newer parts = Ok (file_of version older newer parts)

-- what follows on the signon
abbrev after_signon : ℕ → Option (List ℕ) → Option (List ℕ) → Item → List ℕ × List ℕ → Result RequestFile TreeFault
after_signon version older newer ofx signon = do
  bank_set ← maybe (codes "BANKMSGSRQV1") ofx
  bank ← messages_in ask_of bank_names bank_set
  mail_set ← maybe (codes "EMAILMSGSRQV1") ofx
  mail ← messages_in ask_of mail_names mail_set
  Ok (record { version = version; older = older; newer = newer; user = signon.0; pass = signon.1; asks = bank ++ mail })

abbrev in_row : (Item → List ℕ × List ℕ → Result RequestFile TreeFault) → Item → Result RequestFile TreeFault
in_row rest ofx = do
  signon_set ← one (codes "SIGNONMSGSRQV1") ofx
  sonrq ← one (codes "SONRQ") signon_set
  signon ← signon_of sonrq
  rest ofx signon

file_in_row : (version : ℕ) (older newer : Option (List ℕ)) (ofx : Item) → requests.file_in version older newer ofx ≡ in_row (after_signon version older newer) ofx
unfolding requests.file_in requests.signon_in
file_in_row version older newer ofx =
    through (one (codes "SIGNONMSGSRQV1") ofx) _ (after_signon version older newer ofx) _ (λ set.
    through (one (codes "SONRQ") set) _ (after_signon version older newer ofx) _ (λ sonrq. refl))

request_in_row : (version : ℕ) (older newer : Option (List ℕ)) (ofx : Item) →
    (request_of ofx >>= file_read version older newer) ≡ in_row (after_signon version older newer) ofx
unfolding request_of
request_in_row version older newer ofx =
    let w = file_read version older newer in
    through (one (codes "SIGNONMSGSRQV1") ofx) _ w _ (λ set.
    through (one (codes "SONRQ") set) _ w _ (λ sonrq.
    through (signon_of sonrq) _ w _ (λ signon.
    through (maybe (codes "BANKMSGSRQV1") ofx) _ w _ (λ bank_set.
    through (messages_in ask_of bank_names bank_set) _ w _ (λ bank.
    through (maybe (codes "EMAILMSGSRQV1") ofx) _ w _ (λ mail_set.
    through (messages_in ask_of mail_names mail_set) _ w _ (λ mail. refl)))))))

pub file_in-request : (version : ℕ) (older newer : Option (List ℕ)) (ofx : Item) → requests.file_in version older newer ofx ≡ (request_of ofx >>= file_read version older newer)
file_in-request version older newer ofx = file_in_row version older newer ofx ∙ sym (request_in_row version older newer ofx)

pub file_spelled : RequestsAreFound → (bytes : List ℕ) (said : headers.Header) (size : ℕ) (nodes : List TagNode) (ofx : Item) (file : RequestFile) →
    HasTags bytes said size nodes → IsRoot nodes ofx → requests.file_in said.version said.older said.newer ofx ≡ Ok file →
    SpellsFile bytes file × (length bytes ≤ 262144 → IsSound file)
file_spelled found bytes said size nodes ofx file has root h =
    let parts = bind_ok (request_of ofx) (file_read said.version said.older said.newer) file (sym (file_in-request said.version said.older said.newer ofx) ∙ h) in
    let form = (found ofx parts.0).1 parts.1 in
    let P : RequestFile → Type 0 = λ f. SpellsFile bytes f × (length bytes ≤ 262144 → IsSound f) in
    let spelled : SpellsFile bytes (file_of said.version said.older said.newer parts.0) = record {
      size = size;
      nodes = nodes;
      ofx = ofx;
      header = has.header;
      body = record { are_nodes = has.are_nodes; is_root = root };
      form = form;
    } in
    subst P (one_value _ _ file refl parts.2) (spelled, λ short. sound_file bytes _ spelled has.slices short)

-- ---- replies

abbrev pub reply_file : ℕ → Option (List ℕ) → ReplyParts → ReplyFile
reply_file version newer parts =
    record { version = version; newer = newer; signon = parts.signon; moment = parts.moment; replies = parts.replies }

abbrev reply_read : ℕ → Option (List ℕ) → ReplyParts → Result ReplyFile TreeFault
reply_read version newer parts = Ok (reply_file version newer parts)

abbrev after_reply_signon : ℕ → Option (List ℕ) → Item → ℕ × Moment → Result ReplyFile TreeFault
after_reply_signon version newer ofx signon = do
  bank_set ← maybe (codes "BANKMSGSRSV1") ofx
  bank ← messages_in ask_reply_of bank_reply_names bank_set
  mail_set ← maybe (codes "EMAILMSGSRSV1") ofx
  mail ← messages_in ask_reply_of mail_reply_names mail_set
  Ok (record { version = version; newer = newer; signon = signon.0; moment = signon.1; replies = bank ++ mail })

abbrev reply_row : (Item → ℕ × Moment → Result ReplyFile TreeFault) → Item → Result ReplyFile TreeFault
reply_row rest ofx = do
  signon_set ← one (codes "SIGNONMSGSRSV1") ofx
  sonrs ← one (codes "SONRS") signon_set
  signon ← signon_reply_of sonrs
  rest ofx signon

reply_in_row : (version : ℕ) (newer : Option (List ℕ)) (ofx : Item) → replies.reply_in version newer ofx ≡ reply_row (after_reply_signon version newer) ofx
unfolding replies.reply_in replies.signon_in
reply_in_row version newer ofx =
    through (one (codes "SIGNONMSGSRSV1") ofx) _ (after_reply_signon version newer ofx) _ (λ set.
    through (one (codes "SONRS") set) _ (after_reply_signon version newer ofx) _ (λ sonrs. refl))

reply_of_row : (version : ℕ) (newer : Option (List ℕ)) (ofx : Item) → (reply_of ofx >>= reply_read version newer) ≡ reply_row (after_reply_signon version newer) ofx
unfolding reply_of
reply_of_row version newer ofx =
    let w = reply_read version newer in
    through (one (codes "SIGNONMSGSRSV1") ofx) _ w _ (λ set.
    through (one (codes "SONRS") set) _ w _ (λ sonrs.
    through (signon_reply_of sonrs) _ w _ (λ signon.
    through (maybe (codes "BANKMSGSRSV1") ofx) _ w _ (λ bank_set.
    through (messages_in ask_reply_of bank_reply_names bank_set) _ w _ (λ bank.
    through (maybe (codes "EMAILMSGSRSV1") ofx) _ w _ (λ mail_set.
    through (messages_in ask_reply_of mail_reply_names mail_set) _ w _ (λ mail. refl)))))))

pub reply_in-reply : (version : ℕ) (newer : Option (List ℕ)) (ofx : Item) → replies.reply_in version newer ofx ≡ (reply_of ofx >>= reply_read version newer)
reply_in-reply version newer ofx = reply_in_row version newer ofx ∙ sym (reply_of_row version newer ofx)

pub reply_spelled : RepliesAreFound → (bytes : List ℕ) (said : headers.Header) (size : ℕ) (nodes : List TagNode) (ofx : Item) (reply : ReplyFile) →
    HasTags bytes said size nodes → IsRoot nodes ofx → replies.reply_in said.version said.newer ofx ≡ Ok reply → SpellsReply bytes reply
reply_spelled found bytes said size nodes ofx reply has root h =
    let parts = bind_ok (reply_of ofx) (reply_read said.version said.newer) reply (sym (reply_in-reply said.version said.newer ofx) ∙ h) in
    subst (SpellsReply bytes) (one_value _ _ reply refl parts.2) (record {
      size = size;
      nodes = nodes;
      ofx = ofx;
      older = said.older;
      header = has.header;
      body = record { are_nodes = has.are_nodes; is_root = root };
      form = (found ofx parts.0).1 parts.1;
    })

-- ---- what the laws of files add

-- What is read is spelled, and a refusal is the fault.
abbrev pub ReadsSo : {F : Type 0} → (List ℕ → F → Type 0) → (List ℕ → FileFault → Type 0) → List ℕ → Result F FileFault → Type 0
ReadsSo Spells IsFault bytes (Ok file) = Spells bytes file
ReadsSo Spells IsFault bytes (Err fault) = IsRefusal IsFault bytes fault

pub request_reads_so : (bytes : List ℕ) (answer : Result RequestFile FileFault) → ReadsRequest bytes answer → ReadsSo SpellsFile IsFaultOf bytes answer
request_reads_so bytes (Ok file) h = h.0
request_reads_so bytes (Err fault) h = h

pub reply_reads_so : (bytes : List ℕ) (answer : Result ReplyFile FileFault) → ReadsReply bytes answer → ReadsSo SpellsReply IsReplyFaultOf bytes answer
reply_reads_so bytes (Ok reply) h = h
reply_reads_so bytes (Err fault) h = h

pub reads_all : {F : Type 0} (Spells : List ℕ → F → Type 0) (IsFault : List ℕ → FileFault → Type 0) → OneSpelled Spells → NothingSpelled Spells IsFault →
    (bytes : List ℕ) (answer : Result F FileFault) → ReadsSo Spells IsFault bytes answer → AreReadAll Spells bytes answer
reads_all Spells IsFault one nothing bytes (Ok found) reads file spelled = one bytes found file reads spelled
reads_all Spells IsFault one nothing bytes (Err (Header at)) reads file spelled = absurd (nothing bytes file (Header at) spelled reads)
reads_all Spells IsFault one nothing bytes (Err (Syntax at)) reads file spelled = absurd (nothing bytes file (Syntax at) spelled reads)
reads_all Spells IsFault one nothing bytes (Err (Form at)) reads file spelled = absurd (nothing bytes file (Form at) spelled reads)
reads_all Spells IsFault one nothing bytes (Err OutOfMemory) reads file spelled = refl

pub refuses_all : {F : Type 0} (Spells : List ℕ → F → Type 0) (IsFault : List ℕ → FileFault → Type 0) → NothingSpelled Spells IsFault → OneFaultOf IsFault →
    (bytes : List ℕ) (answer : Result F FileFault) → ReadsSo Spells IsFault bytes answer → AreRefusedAll IsFault bytes answer
refuses_all Spells IsFault nothing one bytes (Ok found) reads fault is = nothing bytes found fault reads is
refuses_all Spells IsFault nothing one bytes (Err (Header at)) reads fault is = one bytes (Header at) fault reads is
refuses_all Spells IsFault nothing one bytes (Err (Syntax at)) reads fault is = one bytes (Syntax at) fault reads is
refuses_all Spells IsFault nothing one bytes (Err (Form at)) reads fault is = one bytes (Form at) fault reads is
refuses_all Spells IsFault nothing one bytes (Err OutOfMemory) reads fault is = tt
