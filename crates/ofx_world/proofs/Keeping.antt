-- Steps that leave a world sound since they change nothing of what was sent, answered or known.
use Rattle.std.proofs.Common.{◌≡◌, ℕ, Bool, List, ◌∷◌, ◌++◌, sym, ap, subst, ◌∙◌}
use Rattle.std.proofs.lemmas.List.{append_assoc}
use Rattle.ofx_types.specs.Calendar.{IsMoment}
use Rattle.ofx_types.specs.declared.number.Moment.{Moment}
use Rattle.bank_model.specs.declared.event.Event.{Event}
use Rattle.bank_model.specs.declared.event.State.{State}
use Rattle.bank_model.specs.declared.setup.Setup.{Setup}
use Rattle.ofx_world.specs.Server.{given_up, put_off, with_fault, with_state}
use Rattle.ofx_world.specs.Sound.{MayHappen, IsSoundWorld}
use Rattle.ofx_world.specs.Truths.{IsAtItsIndex}
use Rattle.ofx_world.specs.World.{WorldView, with_server, with_clock}

pub clock_keeps : (world : WorldView) (at : Moment) → IsMoment at.0 → IsSoundWorld world → IsSoundWorld (with_clock world at)
clock_keeps world at moment sound = record {
  within = sound.within;
  clock = moment;
  reopened = sound.reopened;
  reportable = sound.reportable;
  customers = sound.customers;
  names = sound.names;
  requests = sound.requests;
  pending = sound.pending;
  reported = sound.reported;
  named = sound.named;
  recorded = sound.recorded;
  kept = sound.kept;
  answered = sound.answered;
  stores = sound.stores;
}

pub fault_keeps : (world : WorldView) (landed : Bool) → IsSoundWorld world → IsSoundWorld (with_server world (with_fault world.server landed))
fault_keeps world landed sound = record {
  within = sound.within;
  clock = sound.clock;
  reopened = sound.reopened;
  reportable = sound.reportable;
  customers = sound.customers;
  names = sound.names;
  requests = sound.requests;
  pending = sound.pending;
  reported = sound.reported;
  named = sound.named;
  recorded = sound.recorded;
  kept = sound.kept;
  answered = sound.answered;
  stores = sound.stores;
}

pub given_up_keeps : (world : WorldView) → IsSoundWorld world → IsSoundWorld (with_server world (given_up world.server))
given_up_keeps world sound = record {
  within = sound.within;
  clock = sound.clock;
  reopened = sound.reopened;
  reportable = sound.reportable;
  customers = sound.customers;
  names = sound.names;
  requests = sound.requests;
  pending = tt;
  reported = sound.reported;
  named = sound.named;
  recorded = sound.recorded;
  kept = sound.kept;
  answered = sound.answered;
  stores = sound.stores;
}

-- What is pending may happen, since it could have happened then.
pub put_off_keeps : (world : WorldView) (at : Moment) (event : Event) (landed : Bool) → MayHappen world.server.setup world.server.state world.customers at event
    → IsSoundWorld world → IsSoundWorld (with_server world (put_off world.server at event landed))
put_off_keeps world at event landed may sound = record {
  within = sound.within;
  clock = sound.clock;
  reopened = sound.reopened;
  reportable = sound.reportable;
  customers = sound.customers;
  names = sound.names;
  requests = sound.requests;
  pending = may;
  reported = sound.reported;
  named = sound.named;
  recorded = sound.recorded;
  kept = sound.kept;
  answered = sound.answered;
  stores = sound.stores;
}

-- A bank that starts anew from its records is where it was.
pub restart_keeps : (world : WorldView) (state : State) → state ≡ world.server.state → IsSoundWorld world
    → IsSoundWorld (with_server world (with_state world.server state))
restart_keeps world state same sound = subst (λ (s : State). IsSoundWorld (with_server world (with_state world.server s))) (sym same) (record {
  within = sound.within;
  clock = sound.clock;
  reopened = sound.reopened;
  reportable = sound.reportable;
  customers = sound.customers;
  names = sound.names;
  requests = sound.requests;
  pending = sound.pending;
  reported = sound.reported;
  named = sound.named;
  recorded = sound.recorded;
  kept = sound.kept;
  answered = sound.answered;
  stores = sound.stores;
})

-- A place among records is one among more of them.
pub position_stays : (setup : Setup) (records more : List (List ℕ)) (reply : List ℕ) → IsAtItsIndex setup records reply → IsAtItsIndex setup (records ++ more) reply
position_stays setup records more reply index = record {
  earlier = index.earlier;
  rec = index.rec;
  later = index.later ++ more;
  parts = ap (λ (all : List (List ℕ)). all ++ more) index.parts ∙ append_assoc index.earlier (index.rec ∷ index.later) more;
  state = index.state;
  holds = index.holds;
  at = index.at;
  user = index.user;
  file = index.file;
  codes = index.codes;
  is_answer = index.is_answer;
}
