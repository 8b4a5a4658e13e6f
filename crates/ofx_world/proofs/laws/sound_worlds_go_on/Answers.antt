use Rattle.std.proofs.lemmas.List.Elements.{All-contains}
use Rattle.ofx_world.specs.Sound.{IsSentBy}
use Rattle.ofx_world.proofs.Begun.{begins_sound}
use Rattle.ofx_world.proofs.GivenUp.{discarded_keeps}
use Rattle.ofx_world.proofs.Keeping.{fault_keeps}
use Rattle.ofx_world.proofs.ServerSteps.{settled_keeps, committed_keeps, replied_keeps, sent_for}
use Rattle.ofx_world.proofs.StepKeeps.{step_keeps}
use Rattle.ofx_world.proofs.Truth.{true_of_sound}
use Rattle.ofx_world.proofs.laws.sound_worlds_go_on.Goals as goal

pub returns-clause-worlds : goal.returns-clause-worlds
returns-clause-worlds c = record {
  begins = begins_sound c.laws_below.ensures;
  right = true_of_sound c.laws_below.ensures;
}

pub returns-clause-steps : goal.returns-clause-steps
returns-clause-steps c = record {
  step = λ before after step lawful recorded is sound. step_keeps c.laws_below.ensures before sound step after lawful recorded is;
  discards = λ world index customer new there saves sound. discarded_keeps world sound index customer new there saves;
}

pub returns-clause-banks : goal.returns-clause-banks
returns-clause-banks c = record {
  settles = settled_keeps c.laws_below.ensures;
  fails = fault_keeps;
  commits = committed_keeps c.laws_below.ensures;
  replies = replied_keeps c.laws_below.ensures;
  is_sent = λ world bytes user file sound there signed. sent_for c.laws_below.ensures world bytes user file sound
      (All-contains (IsSentBy world.server.setup world.customers) world.requests bytes sound.requests there) signed;
}
