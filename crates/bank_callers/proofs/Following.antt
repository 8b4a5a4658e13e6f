-- The entries that an event adds may be published at the board of its bank.
use Rattle.std.proofs.Common.{◌≡◌, ℕ, ◌+◌, ◌<◌, List, ◌++◌, length, get_or, sym, ap, ◌∙◌, subst, arith}
use Rattle.std.specs.List.{AllByRecursion}
use Rattle.bank_model.specs.declared.entry.Entry.{Entry}
use Rattle.bank_model.specs.Rules.{state_after}
use Rattle.bank_callers.specs.Belonging.{object_count, BelongsIn}
use Rattle.bank_callers.proofs.Belonging.{belong-step}
use Rattle.bank_invariants.proofs.StateLemmas.{extends-step}
use Rattle.token_board.specs.Following.{AreNumbered}
use Rattle.token_board.proofs.Following.{follows}
use Rattle.bank_callers.specs.Boards.{StepsFollow}
use Rattle.bank_callers.proofs.Numbering.{numbered_from, rest_numbered, rest_of_all, numbers_under}

in_order : (entries : List Entry) → ((k : ℕ) (d : Entry) → k < length entries → (get_or entries k d).number ≡ k + 1) → AreNumbered 1 entries
in_order entries h = numbered_from 1 entries (λ k d less. let e = h k d less in let same : k + 1 ≡ 1 + k = omega arith in e ∙ same)

pub steps_follow : StepsFollow
steps_follow setup opening S start log at event added within newest sound belong entries may is =
    let after = extends-step setup S at event within sound may.0 may.1 in
    let numbered = subst (AreNumbered 1) is (in_order (state_after setup S at event).entries after.sound.numbered) in
    let objects = subst (AllByRecursion (BelongsIn setup)) is (belong-step setup S at event within belong may.1) in
    follows start log (1 + length S.entries) added
    (numbers_under setup opening start log S.entries newest (in_order S.entries sound.numbered) entries)
    (rest_numbered 1 S.entries added numbered)
    (subst (λ (count : ℕ). AllByRecursion (λ (entry : Entry). entry.object.0 < count) added) (sym newest.size) (rest_of_all (BelongsIn setup) S.entries added objects))
