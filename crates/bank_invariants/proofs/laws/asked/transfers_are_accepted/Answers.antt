use Rattle.std.proofs.Common.{None, Some, refl}
use Rattle.std.proofs.lemmas.Bool.{eq-eqb}
use Rattle.ofx_types.specs.declared.transfer.Deed.TheVariants.{Transfer}
use Rattle.ofx_types.specs.declared.transfer.Family.TheVariants as families
use Rattle.ofx_types.specs.declared.request.Ask.TheVariants.{One, Sync}
use Rattle.bank_invariants.specs.AnsweredAsks.{transfer_entry, reached}
use Rattle.bank_invariants.proofs.TakenLemmas.{transfer_taken, alone_takes, sync_takes_at, step_takes}
use Rattle.bank_invariants.proofs.laws.asked.transfers_are_accepted.Goals as goal

pub returns-clause-deed : goal.returns-clause-deed
returns-clause-deed c = transfer_taken

pub returns-clause-alone : goal.returns-clause-alone
returns-clause-alone c = λ setup S at user file before more source trnuid info absent are unused may.
    (let there = reached setup S user at before in
    step_takes setup S at user file before more (One trnuid (Transfer info)) there _ (transfer_entry there source at trnuid info) absent are
    (alone_takes setup there user at trnuid (Transfer info) families.Intra (transfer_entry there source at trnuid info) (transfer_taken setup there user None source at trnuid info refl unused may)))

pub returns-clause-synchronised : goal.returns-clause-synchronised
returns-clause-synchronised c = λ setup S T at user file before more ask first last source trnuid info absent are about reject deeds is unused may.
    step_takes setup S at user file before more (Sync ask) T _ (transfer_entry T source at trnuid info) absent are
    (sync_takes_at setup (reached setup S user at before) T user at ask source first last trnuid (Transfer info) families.Intra (transfer_entry T source at trnuid info) about reject deeds is
    (transfer_taken setup T user (Some source) source at trnuid info (eq-eqb source.0 source.0 refl) unused may))
