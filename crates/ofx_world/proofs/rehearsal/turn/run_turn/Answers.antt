use Rattle.std.proofs.Common.{None, Some, refl}
use Rattle.ofx_world.proofs.Drawing.{is_lawful, is_taken, on_ok, state_is}
use Rattle.ofx_world.proofs.rehearsal.turn.run_turn.Goals as goal

pub run-requires-in-Some : goal.run-requires-in-Some
run-requires-in-Some c = (
  is_lawful c.args.world.now c.run.new.self c.args.turn c.args.chance.now.state c.drawn.new.chance.state c.hour-now.result c.in_ok-step.field-0
      c.hour-now.ensures.hour c.in_ok-run.ensures.steps c.in_ok-step.ensures c.in-Some.step c.in-Some.is,
  tt,
)

pub returns-in-Some-clause-steps : goal.returns-in-Some-clause-steps
returns-in-Some-clause-steps c =
    on_ok _ _ c.run-in-Some.result (is_taken c.args.world.now c.run.new.self c.args.turn c.args.chance.now.state c.drawn.new.chance.state c.hour-now.result
    c.in_ok-step.field-0 c.hour-now.ensures.hour c.in_ok-run.ensures.steps c.in_ok-step.ensures c.run-in-Some.new.self (Some c.in-Some.step) c.in-Some.is)
    c.run-in-Some.ensures.steps

pub returns-in-Some-clause-state : goal.returns-in-Some-clause-state
returns-in-Some-clause-state c =
    on_ok _ _ c.run-in-Some.result (λ taken. state_is c.args.world.now c.run.new.self c.args.turn c.args.chance.now.state c.drawn.new.chance.state
    c.hour-now.result c.in_ok-step.field-0 c.hour-now.ensures.hour c.in_ok-run.ensures.steps c.in_ok-step.ensures) c.run-in-Some.ensures.steps

pub returns-in-None-clause-steps : goal.returns-in-None-clause-steps
returns-in-None-clause-steps c =
    is_taken c.args.world.now c.run.new.self c.args.turn c.args.chance.now.state c.drawn.new.chance.state c.hour-now.result c.in_ok-step.field-0
    c.hour-now.ensures.hour c.in_ok-run.ensures.steps c.in_ok-step.ensures c.run.new.self None c.in-None.is refl

pub returns-in-None-clause-state : goal.returns-in-None-clause-state
returns-in-None-clause-state c =
    state_is c.args.world.now c.run.new.self c.args.turn c.args.chance.now.state c.drawn.new.chance.state c.hour-now.result c.in_ok-step.field-0
    c.hour-now.ensures.hour c.in_ok-run.ensures.steps c.in_ok-step.ensures
