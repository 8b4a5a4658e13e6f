-- What an event leaves of the replies that a bank keeps.
use Rattle.std.proofs.Common.{◌≡◌, ℕ, Bool, true, false, cond, not, eqb, List, [], ◌∷◌, Option, None, Some, refl, sym, ap, subst, ◌∙◌}
use Rattle.std.specs.List.{AllByRecursion, find}
use Rattle.std.specs.Option.{IfSome, option_map, option_or}
use Rattle.std.specs.Str.{bytes_eq}
use Rattle.std.proofs.lemmas.Bool.{and_parts, eqb-true}
use Rattle.std.proofs.lemmas.List.Folds.{find-append}
use Rattle.ofx_types.specs.ReplyForm.{reply_text}
use Rattle.ofx_types.specs.declared.number.Moment.{Moment}
use Rattle.ofx_types.specs.declared.number.UserId.{UserId}
use Rattle.ofx_types.specs.declared.request.RequestFile.{RequestFile}
use Rattle.ofx_types.proofs.Bytes.{bytes_eq_is}
use Rattle.bank_model.specs.Once.{is_named, reply_kept}
use Rattle.bank_model.specs.Rules.{Outcome, raised, ask_answers, release, keep, kept_for, new_outcome, outcome_or_kept, file_outcome, state_after, answer_to, reply_file}
use Rattle.bank_model.specs.declared.event.Event.TheVariants.{File}
use Rattle.bank_model.specs.declared.event.State.{State}
use Rattle.bank_model.specs.declared.once.KeptReply.{KeptReply}
use Rattle.bank_model.specs.declared.setup.Setup.{Setup}
use Rattle.bank_invariants.proofs.StageLemmas.{kept-asks}
use Rattle.bank_invariants.proofs.RunLaws.{kept_for-raised}
use Rattle.ofx_world.proofs.Lists.{same_some, none_some, find_filtered}

-- ---- a file that is answered anew

module _ (setup : Setup) (S : State) (user : UserId) (at : Moment) (file : RequestFile) (none : kept_for S user file.newer ≡ None) where
  anew : file_outcome setup (raised S at) user at file ≡ new_outcome setup (raised S at) user at file
  unfolding file_outcome
  anew = ap (outcome_or_kept setup (raised S at) user at file) (kept_for-raised S user at file.newer ∙ none)

  -- The file that it names is released, and then it is kept itself.
  pub kept_anew : (state_after setup S at (File user file)).kept
      ≡ keep user file.newer (answer_to setup S at (File user file)) (release user file.older S.kept)
  unfolding new_outcome
  kept_anew = subst (λ (o : Outcome). o.after.kept ≡ keep user file.newer o.reply (release user file.older S.kept)) (sym anew)
      (ap (λ (kept : List KeptReply). keep user file.newer (reply_text (reply_file at file (ask_answers setup (raised S at) user at file.asks).replies)) (release user file.older kept))
      (kept-asks setup (raised S at) user at file.asks))

  pub entries_anew : (state_after setup S at (File user file)).entries ≡ (ask_answers setup (raised S at) user at file.asks).after.entries
  unfolding new_outcome
  entries_anew = ap (λ (o : Outcome). o.after.entries) anew

-- ---- what is kept for another file

abbrev pub user_at : ℕ → UserId
user_at index = record { 0 = index }

abbrev bytes_of : KeptReply → List ℕ
bytes_of reply = reply.reply

module _ (user other : UserId) (name : List ℕ) where
  not_released : (older : List ℕ) → (older ≡ name → other ≡ user → ⊥) → (reply : KeptReply) → is_named user name reply ≡ true → not (is_named other older reply) ≡ true
  not_released older apart reply here = by_test (is_named other older reply) refl
    where
      by_test : (b : Bool) → is_named other older reply ≡ b → not b ≡ true
      by_test false there = refl
      by_test true there =
          let released = and_parts (eqb reply.user.0 other.0) (bytes_eq reply.file older) there in
          let named = and_parts (eqb reply.user.0 user.0) (bytes_eq reply.file name) here in
          absurd (apart (sym (bytes_eq_is reply.file older released.1) ∙ bytes_eq_is reply.file name named.1)
          (ap user_at (sym (eqb-true reply.user.0 other.0 released.0) ∙ eqb-true reply.user.0 user.0 named.0)))

  -- Whoever releases another name, or another user's, leaves what is kept for this one.
  pub release_other : (older : Option (List ℕ)) (kept : List KeptReply) → IfSome older (λ (o : List ℕ). o ≡ name → other ≡ user → ⊥)
      → reply_kept user name (release other older kept) ≡ reply_kept user name kept
  release_other None kept apart = refl
  release_other (Some older) kept apart =
      ap (option_map bytes_of) (find_filtered (is_named user name) (λ (reply : KeptReply). not (is_named other older reply)) kept (not_released older apart))

  or_none : (found : Option KeptReply) → option_or found None ≡ found
  or_none None = refl
  or_none (Some reply) = refl

  -- So does whoever keeps another one.
  pub keep_other : (newer reply : List ℕ) (kept : List KeptReply) → is_named user name (record { user = other; file = newer; reply = reply }) ≡ false
      → reply_kept user name (keep other (Some newer) reply kept) ≡ reply_kept user name kept
  keep_other newer reply kept apart =
      let last : KeptReply = record { user = other; file = newer; reply = reply } in
      ap (option_map bytes_of) (find-append (is_named user name) kept (last ∷ [])
      ∙ ap (λ (b : Bool). option_or (find (is_named user name) kept) (cond b (Some last) None)) apart ∙ or_none (find (is_named user name) kept))

  found_first : (found rest : Option KeptReply) (bytes : List ℕ) → option_map bytes_of found ≡ Some bytes → option_map bytes_of (option_or found rest) ≡ Some bytes
  found_first None rest bytes found = cc
  found_first (Some reply) rest bytes found = found

  -- What is kept already is found first.
  pub keep_after : (newer : Option (List ℕ)) (reply bytes : List ℕ) (kept : List KeptReply) → reply_kept user name kept ≡ Some bytes
      → reply_kept user name (keep other newer reply kept) ≡ Some bytes
  keep_after None reply bytes kept found = found
  keep_after (Some newer) reply bytes kept found =
      ap (option_map bytes_of) (find-append (is_named user name) kept (record { user = other; file = newer; reply = reply } ∷ []))
      ∙ found_first (find (is_named user name) kept) _ bytes found

-- ---- which reply is found

-- the kept reply that is found, with what holds of all
pub record IsFound (P : KeptReply → Type 0) (user : UserId) (name bytes : List ℕ) : Type 0 where
  pub reply : KeptReply
  pub holds : P reply
  pub user_is : reply.user ≡ user
  pub file : reply.file ≡ name
  pub bytes_are : reply.reply ≡ bytes

pub found_kept : (P : KeptReply → Type 0) (user : UserId) (name bytes : List ℕ) (kept : List KeptReply) → AllByRecursion P kept
    → reply_kept user name kept ≡ Some bytes → IsFound P user name bytes
found_kept P user name bytes [] all found = absurd (none_some bytes found)
found_kept P user name bytes (reply ∷ more) all found =
    (elim (is_named user name reply) as (λ b. is_named user name reply ≡ b → option_map bytes_of (cond b (Some reply) (find (is_named user name) more)) ≡ Some bytes → IsFound P user name bytes) [
      | true ↦ (λ here is.
          let named = and_parts (eqb reply.user.0 user.0) (bytes_eq reply.file name) here in
          record {
            reply = reply;
            holds = all.0;
            user_is = ap user_at (eqb-true reply.user.0 user.0 named.0);
            file = bytes_eq_is reply.file name named.1;
            bytes_are = same_some reply.reply bytes is;
          })
      | false ↦ (λ here is. found_kept P user name bytes more all.1 is)
    ]) refl found
