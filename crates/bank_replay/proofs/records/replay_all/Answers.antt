use Rattle.std.proofs.Common.{◌≡◌, arith, refl, ◌∙◌}
use Rattle.std.proofs.lemmas.Result.{err_from_is_err_and}
use Rattle.ofx_ports.proofs.KnownLaws.{Stays-refl, Stays-trans}
use Rattle.bank_replay.proofs.Taking.{none_taken, one_more, has_cause, all_taken, counts_after, counts_done, counts_refused}
use Rattle.bank_replay.specs.declared.fault.OpenFault.TheVariants.{Read}
use Rattle.bank_replay.proofs.records.replay_all.Goals as goal

pub returns-in_err-replay_record-clause-cause : goal.returns-in_err-replay_record-clause-cause
returns-in_err-replay_record-clause-cause g c =
    let p = err_from_is_err_and c.from_residual-in_err-replay_record.result c.from_residual-in_err-replay_record.ensures.1 in
    rw (p.1, p.2)
    (has_cause c.args.setup (g.K.Keeper.records c.args.keeper.now) (g.K.Keeper.records c.loop-before.keeper) c.loop-before.before c.loop-before.bank.state c.replay_record.new.rec.items c.in_err-replay_record.field-0.0
    c.loop-before.invariant.taken c.loop-before.invariant.list (rw c.loop-before.invariant.setup at c.in_err-replay_record.ensures.refused))

pub returns-in_err-replay_record-clause-faults : goal.returns-in_err-replay_record-clause-faults
returns-in_err-replay_record-clause-faults g c =
    let p = err_from_is_err_and c.from_residual-in_err-replay_record.result c.from_residual-in_err-replay_record.ensures.1 in
    rw (p.1, p.2) (counts_after (g.K.Keeper.faults c.args.keeper.now) (g.K.Keeper.faults c.loop-before.keeper) (g.K.Keeper.faults c.replay_record.new.keeper) c.in_err-replay_record.field-0.0 Read c.loop-before.invariant.faults c.in_err-replay_record.ensures.faults)

pub returns-in_err-into_parts-clause-faults : goal.returns-in_err-into_parts-clause-faults
returns-in_err-into_parts-clause-faults g c =
    let p = err_from_is_err_and c.from_residual-in_err-into_parts.result c.from_residual-in_err-into_parts.ensures.1 in
    rw (p.1, p.2) (counts_refused (g.K.Keeper.faults c.args.keeper.now) (g.K.Keeper.faults c.loop-before.keeper) c.loop-before.invariant.faults)

pub returns-in_err-replay_record-clause-list : goal.returns-in_err-replay_record-clause-list
returns-in_err-replay_record-clause-list g c = Stays-trans (g.K.Keeper.records c.args.keeper.now) (g.K.Keeper.records c.loop-before.keeper) (g.K.Keeper.records c.replay_record.new.keeper) c.loop-before.invariant.list c.replay_record.ensures.list

pub returns-clause-faults : goal.returns-clause-faults
returns-clause-faults g c = counts_done (g.K.Keeper.faults c.args.keeper.now) (g.K.Keeper.faults c.loop-before.keeper) _ Read c.loop-before.invariant.faults

pub loop-before-init : goal.loop-before-init
loop-before-init g c = record {
  setup = c.in_ok-bank.ensures.setup;
  pool = c.in_ok-bank.ensures.pool;
  taken = rw c.in_ok-bank.ensures.state (none_taken c.args.setup (g.K.Keeper.records c.args.keeper.now));
  list = Stays-refl (g.K.Keeper.records c.args.keeper.now);
  settled = c.requires.settled;
  size = refl;
  faults = omega arith;
}

pub loop-before-preserved : goal.loop-before-preserved
loop-before-preserved g c = record {
  setup = c.replay_record.ensures.setup ∙ c.loop-before.invariant.setup;
  pool = c.replay_record.ensures.pool;
  taken = one_more c.reopening_goes_on.ensures c.args.setup (g.K.Keeper.records c.args.keeper.now) (g.K.Keeper.records c.loop-before.keeper) c.loop-before.before c.loop-before.bank.state c.replay_record.new.bank.state c.replay_record.new.rec.items
      c.loop-before.invariant.taken c.loop-before.invariant.list c.in_ok-replay_record.ensures.kept (rw c.loop-before.invariant.setup at c.in_ok-replay_record.ensures.taken);
  list = Stays-trans (g.K.Keeper.records c.args.keeper.now) (g.K.Keeper.records c.loop-before.keeper) (g.K.Keeper.records c.replay_record.new.keeper) c.loop-before.invariant.list c.replay_record.ensures.list;
  settled = c.replay_record.ensures.settled;
  size = c.replay_record.ensures.size ∙ c.loop-before.invariant.size;
  faults = omega (arith, c.loop-before.invariant.faults, c.replay_record.ensures.faults.later);
}

pub returns-clause-holds : goal.returns-clause-holds
returns-clause-holds g c =
    let last : c.loop-before.before ≡ c.len-before-end.result = omega arith in
    rw c.in_ok-into_parts.ensures.state
    (all_taken c.args.setup (g.K.Keeper.records c.args.keeper.now) c.loop-before.before c.len-before-end.result c.loop-before.bank.state c.loop-before.invariant.taken last c.len-before-end.ensures.known)
