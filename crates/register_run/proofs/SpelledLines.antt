-- The lines of a reply that bytes spell are within their bounds.
use Rattle.std.proofs.Common.{◌≡◌, ℕ, ◌<◌, ◌≤◌, ◌^◌, inl, inr, Bool, true, false, cond, List, [], ◌∷◌, ◌++◌, map, Option, None, Some, codes, sym, subst, refl, arith}
use Rattle.std.specs.Prelude.{◌==◌, if◌then◌else◌}
use Rattle.std.specs.List.{AllZip, AllByRecursion, flat_map}
use Rattle.std.specs.Str.Parse.{digits_value}
use Rattle.std.proofs.lemmas.List.Concat.{flat_map-cons}
use Rattle.ofx_types.specs.Nodes.{Item}
use Rattle.ofx_types.specs.NumberReading.{is_number_within, number_at}
use Rattle.ofx_types.specs.FileForm.{SpellsReply}
use Rattle.ofx_types.specs.ReplyGrammar.{IsStatementLine, IsMaybeList, IsBodyByCode, IsStatementReply}
use Rattle.ofx_types.specs.MessageForm.{IsAskReply, AreMaybeMessages, bank_reply_names, mail_reply_names}
use Rattle.ofx_types.specs.declared.account.AcctName.{AcctName}
use Rattle.ofx_types.specs.declared.reply.StatementLine.{StatementLine}
use Rattle.ofx_types.specs.declared.reply.StatementList.{StatementList}
use Rattle.ofx_types.specs.declared.reply.StatementBody.{StatementBody}
use Rattle.ofx_types.specs.declared.reply.AskReply.{AskReply}
use Rattle.ofx_types.specs.declared.reply.AskReply.TheVariants as replies
use Rattle.ofx_types.specs.declared.reply.ReplyFile.{ReplyFile}
use Rattle.ofx_types.proofs.Numbers.{amount_within, digits_within}
use Rattle.ofx_file.proofs.SoundDeeds.{sound_account}
use Rattle.bank_model.specs.Sound.{IsSoundAccount}
use Rattle.file_register.specs.Lines.{IsSoundLine, line_of, listed, lines_in, lines_of}
use Rattle.file_register.specs.declared.line.Line.{Line}

by_test : (test : Bool) {value number limit : ℕ} → (test ≡ true → value < limit) → cond test (Some value) None ≡ Some number → number < limit
by_test true {value} {number} {limit} bounded e = let same : value ≡ number = cc in subst (λ (n : ℕ). n < limit) same (bounded refl)
by_test false bounded e = absurd cc

number_within : (text : List ℕ) (number : ℕ) → number_at 10 text ≡ Some number → number < 2 ^ 64
unfolding number_at
number_within text number e = let small : number < 10 ^ 10 = by_test (is_number_within 10 text) (digits_within 10 text) e in omega (arith, small)

sound_line : (account : AcctName) (item : Item) (line : StatementLine) → IsSoundAccount account → IsStatementLine item line → IsSoundLine (line_of account line)
sound_line account item line named is = record {
  account = named;
  fitid = number_within _ line.number is.number.holds;
  posted = is.posted.holds.is_moment;
  amount = amount_within _ line.amount.0 is.amount.holds;
}

sound_lines : (account : AcctName) (items : List Item) (lines : List StatementLine) → IsSoundAccount account → AllZip IsStatementLine items lines
    → AllByRecursion IsSoundLine (map (line_of account) lines)
sound_lines account [] [] named are = tt
sound_lines account [] (line ∷ lines) named are = absurd are
sound_lines account (item ∷ items) [] named are = absurd are
sound_lines account (item ∷ items) (line ∷ lines) named are = (sound_line account item line named are.0, sound_lines account items lines named are.1)

sound_list : (account : AcctName) (stmtrs : Item) (list : Option StatementList) → IsSoundAccount account → IsMaybeList stmtrs list → AllByRecursion IsSoundLine (listed account list)
sound_list account stmtrs None named is = tt
sound_list account stmtrs (Some list) named is = sound_lines account _ list.lines named is.2.lines

by_code : (test : Bool) (lines : List Line) → AllByRecursion IsSoundLine lines → AllByRecursion IsSoundLine (cond test lines [])
by_code true lines sound = sound
by_code false lines sound = tt

sound_body : (trnuid : List ℕ) (code : ℕ) (stmttrnrs : Item) (body : Option StatementBody) → IsBodyByCode code stmttrnrs body → AllByRecursion IsSoundLine (lines_in (replies.Statement trnuid code body))
sound_body trnuid code stmttrnrs None is = tt
sound_body trnuid code stmttrnrs (Some body) is =
    let it = is.1.2 in
    by_code (code == 0) (listed body.account body.list) (sound_list body.account is.1.0 body.list (sound_account it.bankacctfrom body.account it.is_account) it.is_list)

sound_answer : (item : Item) (reply : AskReply) → IsAskReply item reply → AllByRecursion IsSoundLine (lines_in reply)
sound_answer item (replies.Statement trnuid code body) is =
    subst (λ (reported : AskReply). AllByRecursion IsSoundLine (lines_in reported)) (sym is.1.is_reply) (sound_body is.1.trnuid is.1.code item is.1.body is.1.is_body)
sound_answer item (replies.One reply) is = tt
sound_answer item (replies.Sync reply) is = tt

both_sound : (xs ys : List Line) → AllByRecursion IsSoundLine xs → AllByRecursion IsSoundLine ys → AllByRecursion IsSoundLine (xs ++ ys)
both_sound [] ys p q = q
both_sound (x ∷ xs) ys p q = (p.0, both_sound xs ys p.1 q)

abbrev AreSound : List AskReply → Type 0
AreSound reported = AllByRecursion IsSoundLine (flat_map lines_in reported)

sound_each : (items : List Item) (reported : List AskReply) → AllZip IsAskReply items reported → AreSound reported
sound_each [] [] are = tt
sound_each [] (reply ∷ reported) are = absurd are
sound_each (item ∷ items) [] are = absurd are
sound_each (item ∷ items) (reply ∷ reported) are =
    subst (AllByRecursion IsSoundLine) (sym (flat_map-cons lines_in reply reported)) (both_sound (lines_in reply) _ (sound_answer item reply are.0) (sound_each items reported are.1))

sound_set : (name : List ℕ) (names : List (List ℕ)) (ofx : Item) (reported : List AskReply) → AreMaybeMessages IsAskReply name names ofx reported → AreSound reported
sound_set name names ofx reported (inl none) = subst AreSound (sym none.1) tt
sound_set name names ofx reported (inr (set, only, are)) = sound_each _ reported are

front_sound : (xs ys : List Line) → AllByRecursion IsSoundLine (xs ++ ys) → AllByRecursion IsSoundLine xs
front_sound [] ys h = tt
front_sound (x ∷ xs) ys h = (h.0, front_sound xs ys h.1)

behind_sound : (xs ys : List Line) → AllByRecursion IsSoundLine (xs ++ ys) → AllByRecursion IsSoundLine ys
behind_sound [] ys h = h
behind_sound (x ∷ xs) ys h = behind_sound xs ys h.1

sound_sets : (xs ys : List AskReply) → AreSound xs → AreSound ys → AreSound (xs ++ ys)
sound_sets [] ys p q = q
sound_sets (x ∷ xs) ys p q =
    let all : AllByRecursion IsSoundLine (lines_in x ++ flat_map lines_in xs) = subst (AllByRecursion IsSoundLine) (flat_map-cons lines_in x xs) p in
    subst (AllByRecursion IsSoundLine) (sym (flat_map-cons lines_in x (xs ++ ys)))
    (both_sound (lines_in x) _ (front_sound (lines_in x) (flat_map lines_in xs) all) (sound_sets xs ys (behind_sound (lines_in x) (flat_map lines_in xs) all) q))

pub spelled_lines : (bytes : List ℕ) (reply : ReplyFile) → SpellsReply bytes reply → AllByRecursion IsSoundLine (lines_of reply)
spelled_lines bytes reply is =
    let form = is.form in
    subst AreSound (sym form.are_answers)
    (sound_sets form.bank form.mail (sound_set (codes "BANKMSGSRSV1") bank_reply_names is.ofx form.bank form.are_bank)
    (sound_set (codes "EMAILMSGSRSV1") mail_reply_names is.ofx form.mail form.are_mail))
