use Rattle.std.proofs.Common.{None, Some, refl}
use Rattle.std.proofs.lemmas.Bool.{eq-eqb}
use Rattle.ofx_types.specs.declared.transfer.Deed.TheVariants.{Model}
use Rattle.ofx_types.specs.declared.transfer.Family.TheVariants as families
use Rattle.ofx_types.specs.declared.request.Ask.TheVariants.{One, Sync}
use Rattle.bank_invariants.specs.AnsweredAsks.{recurring_entry, reached}
use Rattle.bank_invariants.proofs.TakenLemmas.{model_taken, alone_takes, sync_takes_at, step_takes}
use Rattle.bank_invariants.proofs.laws.asked.recurring_transfers_are_accepted.Goals as goal

pub returns-clause-deed : goal.returns-clause-deed
returns-clause-deed c = model_taken

pub returns-clause-alone : goal.returns-clause-alone
returns-clause-alone c = λ setup S at user file before more source trnuid recur info absent are unused may.
    (let there = reached setup S user at before in
    step_takes setup S at user file before more (One trnuid (Model recur info)) there _ (recurring_entry there source trnuid recur info) absent are
    (alone_takes setup there user at trnuid (Model recur info) families.RecIntra (recurring_entry there source trnuid recur info) (model_taken setup there user None source at trnuid recur info refl unused may)))

pub returns-clause-synchronised : goal.returns-clause-synchronised
returns-clause-synchronised c = λ setup S T at user file before more ask first last source trnuid recur info absent are about reject deeds is unused may.
    step_takes setup S at user file before more (Sync ask) T _ (recurring_entry T source trnuid recur info) absent are
    (sync_takes_at setup (reached setup S user at before) T user at ask source first last trnuid (Model recur info) families.RecIntra (recurring_entry T source trnuid recur info) about reject deeds is
    (model_taken setup T user (Some source) source at trnuid recur info (eq-eqb source.0 source.0 refl) unused may))
