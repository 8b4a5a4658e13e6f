-- What is said of a transfer, and how far it is: each has its form exactly where reading finds it, and its faults have
-- offsets.
use Rattle.std.proofs.Common.{◌≡◌, ◌≢◌, ℕ, ◌≤◌, ℤ, inl, inr, List, Option, None, Some, Result, Ok, codes, refl, sym, ap, subst, ◌∙◌}
use Rattle.std.specs.Str.{bytes_eq}
use Rattle.ofx_types.specs.ValueForm.{value_of}
use Rattle.ofx_types.specs.Nodes.{Item}
use Rattle.ofx_types.specs.FormWords.{one, amount_in, moment_in, maybe_moment_in, IsMaybeMomentIn}
use Rattle.ofx_types.specs.RequestReading.{account_of}
use Rattle.ofx_types.specs.TransferForm.{IsMaybeDue, IsXferInfo, HasXferInfo, code_word, IsProcessing}
use Rattle.ofx_types.specs.TransferReading.{due_of, info_of, info_in, code_named, code_at, processing_of, processing_in, day_or, DueInfo, due_info_of, due_info_in}
use Rattle.ofx_types.specs.declared.fault.TreeFault.{TreeFault}
use Rattle.ofx_types.specs.declared.number.Day.{Day}
use Rattle.ofx_types.specs.declared.number.Moment.{Moment}
use Rattle.ofx_types.specs.declared.transfer.XferInfo.{XferInfo}
use Rattle.ofx_types.specs.declared.transfer.XferCode.{XferCode}
use Rattle.ofx_types.specs.declared.transfer.XferCode.TheVariants.{Waiting, Posted, NoFunds, Cancelled}
use Rattle.ofx_types.proofs.Bytes.{bytes_eq_is, went}
use Rattle.ofx_tree.specs.Located.{Holds, Any, IsWithin}
use Rattle.ofx_tree.proofs.FormLaws.{bind_ok, bind_to, one_value, ok_guarded, one_found, one_again, amount_in_found, amount_in_again, moment_in_found, moment_in_again, maybe_moment_in_found, maybe_moment_in_again}
use Rattle.ofx_tree.proofs.FormOffsets.{bound, either, one_within, amount_within, moment_within, maybe_moment_within}
use Rattle.msg_parts.proofs.PartLaws.{account_found, account_again}
use Rattle.msg_parts.proofs.PartOffsets.{account_within}

-- ---- the due day

due_found : (xferinfo : Item) (moment : Option Moment) → IsMaybeMomentIn (codes "DTDUE") xferinfo moment → IsMaybeDue xferinfo (due_of moment)
due_found xferinfo None none = none
due_found xferinfo (Some moment) there = (moment, there, refl)

abbrev day_at : ℤ → Option Day
day_at number = Some (record { 0 = number })

due_again : (xferinfo : Item) (due : Option Day) → IsMaybeDue xferinfo due →
    (moment : Option Moment) × (maybe_moment_in (codes "DTDUE") xferinfo ≡ Ok moment) × (due_of moment ≡ due)
due_again xferinfo None none = (None, maybe_moment_in_again (codes "DTDUE") xferinfo None none, refl)
due_again xferinfo (Some day) (moment, there, same) =
    (Some moment, maybe_moment_in_again (codes "DTDUE") xferinfo (Some moment) there, ap day_at (sym same))

-- ---- XFERINFO

info_found : (xferinfo : Item) (info : XferInfo) → info_of xferinfo ≡ Ok info → IsXferInfo xferinfo info
unfolding info_of
info_found xferinfo info h =
    let from = bind_ok (one (codes "BANKACCTFROM") xferinfo) _ info h in
    let source = bind_ok (account_of from.0) _ info from.2 in
    let to = bind_ok (one (codes "BANKACCTTO") xferinfo) _ info source.2 in
    let target = bind_ok (account_of to.0) _ info to.2 in
    let amount = bind_ok (amount_in (codes "TRNAMT") xferinfo) _ info target.2 in
    let due = bind_ok (maybe_moment_in (codes "DTDUE") xferinfo) _ info amount.2 in
    let P : XferInfo → Type 0 = λ i. IsXferInfo xferinfo i in
    subst P (one_value _ _ info refl due.2) (record {
      bankacctfrom = from.0;
      has_from = one_found (codes "BANKACCTFROM") xferinfo from.0 from.1;
      is_from = account_found from.0 source.0 source.1;
      bankacctto = to.0;
      has_to = one_found (codes "BANKACCTTO") xferinfo to.0 to.1;
      is_to = account_found to.0 target.0 target.1;
      amount = amount_in_found (codes "TRNAMT") xferinfo amount.0 amount.1;
      due = due_found xferinfo due.0 (maybe_moment_in_found (codes "DTDUE") xferinfo due.0 due.1);
    })

abbrev with_due : XferInfo → Option Day → XferInfo
with_due info due = record { from = info.from; to = info.to; amount = info.amount; due = due }

abbrev read_as : XferInfo → Option Day → Result XferInfo TreeFault
read_as info due = Ok (with_due info due)

info_again : (xferinfo : Item) (info : XferInfo) → IsXferInfo xferinfo info → info_of xferinfo ≡ Ok info
unfolding info_of
info_again xferinfo info i =
    let due = due_again xferinfo info.due i.due in
    bind_to _ _ i.bankacctfrom (one_again (codes "BANKACCTFROM") xferinfo i.bankacctfrom i.has_from)
    ∙ bind_to _ _ info.from (account_again i.bankacctfrom info.from i.is_from)
    ∙ bind_to _ _ i.bankacctto (one_again (codes "BANKACCTTO") xferinfo i.bankacctto i.has_to)
    ∙ bind_to _ _ info.to (account_again i.bankacctto info.to i.is_to)
    ∙ bind_to _ _ info.amount (amount_in_again (codes "TRNAMT") xferinfo info.amount i.amount)
    ∙ bind_to _ _ due.0 due.1
    ∙ ap (read_as info) due.2

info_within : (most : ℕ) (xferinfo : Item) → IsWithin most xferinfo → Holds most Any (info_of xferinfo)
unfolding info_of
info_within most xferinfo h =
    bound most (IsWithin most) Any (one (codes "BANKACCTFROM") xferinfo) _ (one_within most (codes "BANKACCTFROM") xferinfo h) (λ from f.
    bound most Any Any (account_of from) _ (account_within most from f) (λ source _.
    bound most (IsWithin most) Any (one (codes "BANKACCTTO") xferinfo) _ (one_within most (codes "BANKACCTTO") xferinfo h) (λ to t.
    bound most Any Any (account_of to) _ (account_within most to t) (λ target _.
    bound most Any Any (amount_in (codes "TRNAMT") xferinfo) _ (amount_within most (codes "TRNAMT") xferinfo h) (λ amount _.
    bound most Any Any (maybe_moment_in (codes "DTDUE") xferinfo) _ (maybe_moment_within most (codes "DTDUE") xferinfo h) (λ due _. tt))))))

pub info_in_found : (parent : Item) (info : XferInfo) → info_in parent ≡ Ok info → HasXferInfo parent info
unfolding info_in
info_in_found parent info h =
    let xferinfo = bind_ok (one (codes "XFERINFO") parent) info_of info h in
    (xferinfo.0, one_found (codes "XFERINFO") parent xferinfo.0 xferinfo.1, info_found xferinfo.0 info xferinfo.2)

pub info_in_again : (parent : Item) (info : XferInfo) → HasXferInfo parent info → info_in parent ≡ Ok info
unfolding info_in
info_in_again parent info (xferinfo, only, is) =
    bind_to _ info_of xferinfo (one_again (codes "XFERINFO") parent xferinfo only) ∙ info_again xferinfo info is

pub info_in_within : (most : ℕ) (parent : Item) → IsWithin most parent → Holds most Any (info_in parent)
unfolding info_in
info_in_within most parent h =
    bound most (IsWithin most) Any (one (codes "XFERINFO") parent) info_of (one_within most (codes "XFERINFO") parent h) (λ xferinfo x. info_within most xferinfo x)

-- ---- XFERINFO with a due day

day_found : (offset : ℕ) (due : Option Day) (day : Day) → day_or offset due ≡ Ok day → due ≡ Some day
day_found offset None day h = cc
day_found offset (Some due) day h = ap (λ (d : Day). Some d) (one_value (Ok due) due day refl h)

abbrev due_info : DueInfo → XferInfo
due_info asked = with_due asked.info (Some asked.due)

pub due_info_found : (parent : Item) (asked : DueInfo) → due_info_in parent ≡ Ok asked → HasXferInfo parent (due_info asked)
unfolding due_info_in due_info_of
due_info_found parent asked h =
    let xferinfo = bind_ok (one (codes "XFERINFO") parent) due_info_of asked h in
    let info = bind_ok (info_of xferinfo.0) _ asked xferinfo.2 in
    let due = bind_ok (day_or xferinfo.0.node.offset info.0.due) _ asked info.2 in
    let P : Option Day → Type 0 = λ d. IsXferInfo xferinfo.0 (with_due info.0 d) in
    let Q : DueInfo → Type 0 = λ a. HasXferInfo parent (due_info a) in
    let is = subst P (day_found xferinfo.0.node.offset info.0.due due.0 due.1) (info_found xferinfo.0 info.0 info.1) in
    subst Q (one_value _ _ asked refl due.2) (xferinfo.0, one_found (codes "XFERINFO") parent xferinfo.0 xferinfo.1, is)

pub due_info_again : (parent : Item) (asked : DueInfo) → asked.info.due ≡ Some asked.due → HasXferInfo parent asked.info →
    due_info_in parent ≡ Ok asked
unfolding due_info_in due_info_of
due_info_again parent asked holds (xferinfo, only, is) =
    bind_to _ due_info_of xferinfo (one_again (codes "XFERINFO") parent xferinfo only)
    ∙ bind_to _ _ asked.info (info_again xferinfo asked.info is)
    ∙ bind_to _ _ asked.due (ap (day_or xferinfo.node.offset) holds)

day_or_within : (most offset : ℕ) (due : Option Day) → offset ≤ most → Holds most Any (day_or offset due)
day_or_within most offset None h = h
day_or_within most offset (Some day) h = tt

pub due_info_within : (most : ℕ) (parent : Item) → IsWithin most parent → Holds most Any (due_info_in parent)
unfolding due_info_in due_info_of
due_info_within most parent h =
    bound most (IsWithin most) Any (one (codes "XFERINFO") parent) due_info_of (one_within most (codes "XFERINFO") parent h) (λ xferinfo x.
    bound most Any Any (info_of xferinfo) _ (info_within most xferinfo x) (λ info _.
    bound most Any Any (day_or xferinfo.node.offset info.due) _ (day_or_within most xferinfo.node.offset info.due x.offset) (λ due _. tt)))

-- ---- XFERPRCSTS

abbrev Told : List ℕ → XferCode → Type 0
Told word code = (word ≡ code_word code) × (code ≢ Cancelled)

reported_waiting : Waiting ≢ Cancelled
reported_waiting e = cc

reported_posted : Posted ≢ Cancelled
reported_posted e = cc

reported_no_funds : NoFunds ≢ Cancelled
reported_no_funds e = cc

code_found : (word : List ℕ) (offset : ℕ) (code : XferCode) → code_named word offset ≡ Ok code → Told word code
code_found word offset code h = elim (went (bytes_eq word (codes "WILLPROCESSON")) _ _ _ h) [
  | inl (same, is) ↦ subst (Told word) (one_value (Ok Waiting) Waiting code refl is) (bytes_eq_is word _ same, reported_waiting)
  | inr (other, second) ↦ elim (went (bytes_eq word (codes "POSTEDON")) _ _ _ second) [
    | inl (same, is) ↦ subst (Told word) (one_value (Ok Posted) Posted code refl is) (bytes_eq_is word _ same, reported_posted)
    | inr (other, last) ↦
        let is = ok_guarded (bytes_eq word (codes "NOFUNDSON")) NoFunds code _ last in
        subst (Told word) is.1 (bytes_eq_is word _ is.0, reported_no_funds)
  ]
]

code_named-word : (code : XferCode) (offset : ℕ) → code ≢ Cancelled → code_named (code_word code) offset ≡ Ok code
code_named-word Waiting offset reported = refl
code_named-word Posted offset reported = refl
code_named-word NoFunds offset reported = refl
code_named-word Cancelled offset reported = absurd (reported refl)

code_again : (word : List ℕ) (offset : ℕ) (code : XferCode) → Told word code → code_named word offset ≡ Ok code
code_again word offset code (same, reported) = rw same (code_named-word code offset reported)

code_within : (most offset : ℕ) (word : List ℕ) → offset ≤ most → Holds most Any (code_named word offset)
code_within most offset word h =
    either most Any (bytes_eq word (codes "WILLPROCESSON")) _ _ tt
    (either most Any (bytes_eq word (codes "POSTEDON")) _ _ tt (either most Any (bytes_eq word (codes "NOFUNDSON")) _ _ tt h))

pub processing_found : (parent : Item) (said : XferCode × Moment) → processing_in parent ≡ Ok said → IsProcessing parent said.0 said.1
unfolding processing_in processing_of
processing_found parent said h =
    let xferprcsts = bind_ok (one (codes "XFERPRCSTS") parent) processing_of said h in
    let word = bind_ok (one (codes "XFERPRCCODE") xferprcsts.0) _ said xferprcsts.2 in
    let code = bind_ok (code_at word.0.node) _ said word.2 in
    let stamp = bind_ok (moment_in (codes "DTXFERPRC") xferprcsts.0) _ said code.2 in
    let reported = code_found (value_of word.0.node.text) word.0.node.offset code.0 code.1 in
    let P : XferCode × Moment → Type 0 = λ s. IsProcessing parent s.0 s.1 in
    subst P (one_value _ _ said refl stamp.2) (record {
      xferprcsts = xferprcsts.0;
      has_xferprcsts = one_found (codes "XFERPRCSTS") parent xferprcsts.0 xferprcsts.1;
      word = word.0;
      has_word = one_found (codes "XFERPRCCODE") xferprcsts.0 word.0 word.1;
      is_word = reported.0;
      is_reported = reported.1;
      has_stamp = moment_in_found (codes "DTXFERPRC") xferprcsts.0 stamp.0 stamp.1;
    })

pub processing_again : (parent : Item) (code : XferCode) (stamp : Moment) → IsProcessing parent code stamp → processing_in parent ≡ Ok (code, stamp)
unfolding processing_in processing_of
processing_again parent code stamp p =
    bind_to _ processing_of p.xferprcsts (one_again (codes "XFERPRCSTS") parent p.xferprcsts p.has_xferprcsts)
    ∙ bind_to _ _ p.word (one_again (codes "XFERPRCCODE") p.xferprcsts p.word p.has_word)
    ∙ bind_to _ _ code (code_again (value_of p.word.node.text) p.word.node.offset code (p.is_word, p.is_reported))
    ∙ bind_to _ _ stamp (moment_in_again (codes "DTXFERPRC") p.xferprcsts stamp p.has_stamp)

pub processing_within : (most : ℕ) (parent : Item) → IsWithin most parent → Holds most Any (processing_in parent)
unfolding processing_in processing_of
processing_within most parent h =
    bound most (IsWithin most) Any (one (codes "XFERPRCSTS") parent) processing_of (one_within most (codes "XFERPRCSTS") parent h) (λ xferprcsts x.
    bound most (IsWithin most) Any (one (codes "XFERPRCCODE") xferprcsts) _ (one_within most (codes "XFERPRCCODE") xferprcsts x) (λ word w.
    bound most Any Any (code_at word.node) _ (code_within most word.node.offset (value_of word.node.text) w.offset) (λ code _.
    bound most Any Any (moment_in (codes "DTXFERPRC") xferprcsts) _ (moment_within most (codes "DTXFERPRC") xferprcsts x) (λ stamp _. tt))))
