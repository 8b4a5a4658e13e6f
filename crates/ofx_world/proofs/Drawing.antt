-- What is drawn for a turn: a step that is no step of the clock, and the same before the clock goes on and after.
use Rattle.std.proofs.Common.{◌≡◌, ℕ, Bool, true, false, List, [], ◌∷◌, cond, nat_lt, ◌==◌, slice_get, length, Option, None, Some, Result, Ok, Err, OnOk, refl, sym, ap, subst, ◌∙◌}
use Rattle.std.specs.Option.{IfSome, option_to_list}
use Rattle.ofx_types.specs.declared.number.Moment.{Moment}
use Rattle.client_saved.specs.declared.state.Outstanding.{Outstanding}
use Rattle.ofx_world.specs.Chance.{draw, next}
use Rattle.ofx_world.specs.Customer.{CustomerView}
use Rattle.ofx_world.specs.Kept.{HasLawfulClock}
use Rattle.ofx_world.specs.Rehearsal.{Drawn, delivery_drawn, hour_of, kind_drawn, making_drawn, making_if, reply_drawn, trouble, turn_drawn, turn_steps}
use Rattle.ofx_world.specs.World.{WorldView, AreSteps, with_clock}
use Rattle.ofx_world.specs.declared.step.Step.{Step}
use Rattle.ofx_world.specs.declared.step.Step.TheVariants as steps

-- ---- what is drawn is no step of the clock

abbrev IsLawful : Drawn → Type 0
IsLawful drawn = IfSome drawn.step HasLawfulClock

either : (b : Bool) (one other : Drawn) → IsLawful one → IsLawful other → IsLawful (cond b one other)
either true one other is_one is_other = is_one
either false one other is_one is_other = is_other

either_step : (b : Bool) (one other : Step) → HasLawfulClock one → HasLawfulClock other → HasLawfulClock (cond b one other)
either_step true one other is_one is_other = is_one
either_step false one other is_one is_other = is_other

making_if_is : (client : ℕ) (now : Moment) (state : ℕ) (kept : Option Outstanding) → IsLawful (making_if client now state kept)
making_if_is client now state None = tt
making_if_is client now state (Some kept) = tt

making_is : (client : ℕ) (now : Moment) (state : ℕ) (found : Option CustomerView) → IsLawful (making_drawn client now state found)
making_is client now state None = tt
making_is client now state (Some customer) = making_if_is client now state customer.client.outstanding

delivery_is : (count state : ℕ) → IsLawful (delivery_drawn count state)
delivery_is count state = either (count == 0) _ _ tt tt

reply_is : (client count state : ℕ) → IsLawful (reply_drawn client count state)
reply_is client count state = either (count == 0) _ _ tt tt

trouble_is : (client kind : ℕ) → HasLawfulClock (trouble client kind)
trouble_is client kind = either_step (kind == 0) _ _ tt (either_step (kind == 1) _ _ tt (either_step (kind == 2) _ _ tt tt))

kind_is : (world : WorldView) (now : Moment) (client kind state : ℕ) → IsLawful (kind_drawn world now client kind state)
unfolding kind_drawn
kind_is world now client kind state =
    either (nat_lt kind 3) _ _ (making_is client now state (slice_get world.customers client))
    (either (kind == 3) _ _ tt
    (either (nat_lt kind 6) _ _ (delivery_is (length world.requests) state)
    (either (nat_lt kind 8) _ _ (reply_is client (length world.replies) state)
    (either (kind == 8) _ _ tt (trouble_is client (draw 4 state))))))

turn_is : (world : WorldView) (now : Moment) (state : ℕ) → IsLawful (turn_drawn world now state)
unfolding turn_drawn
turn_is world now state = kind_is world now (draw 3 state) (draw 10 (next state)) (next (next state))

-- ---- the clock changes nothing of what is drawn

same_drawn : (world : WorldView) (at now : Moment) (state : ℕ) → turn_drawn (with_clock world at) now state ≡ turn_drawn world now state
unfolding turn_drawn kind_drawn
same_drawn world at now state = refl

-- ---- a turn: the clock goes on, and what is drawn happens

pub on_ok : {T E : Type 0} (P Q : Type 0) (result : Result T E) → (P → Q) → OnOk result P → OnOk result Q
on_ok P Q (Ok done) then is = then is
on_ok P Q (Err fault) then is = tt

module _ (world between : WorldView) (turn state state' : ℕ) (at : Moment) (found : Option Step) (hour : at ≡ hour_of turn) (clock : AreSteps world (steps.Clock at ∷ []) between) (drawn : turn_drawn between at state ≡ record { step = found; state = state' }) where
  is_drawn : turn_drawn world (hour_of turn) state ≡ record { step = found; state = state' }
  is_drawn =
      ap (λ (now : Moment). turn_drawn world now state) (sym hour)
      ∙ (sym (ap (λ (w : WorldView). turn_drawn w at state) (clock.2 ∙ clock.1) ∙ same_drawn world at at state) ∙ drawn)

  pub is_lawful : (step : Step) → found ≡ Some step → HasLawfulClock step
  is_lawful step is = subst (λ (o : Option Step). IfSome o HasLawfulClock) (ap (λ (d : Drawn). d.step) is_drawn ∙ is) (turn_is world (hour_of turn) state)

  pub is_taken : (after : WorldView) (chosen : Option Step) → found ≡ chosen → AreSteps between (option_to_list chosen) after → AreSteps world (turn_steps world turn state) after
  is_taken after chosen is rest =
      let step : chosen ≡ (turn_drawn world (hour_of turn) state).step = sym (ap (λ (d : Drawn). d.step) is_drawn ∙ is) in
      let middle : AreSteps clock.0 (option_to_list (turn_drawn world (hour_of turn) state).step) after =
      subst (λ (w : WorldView). AreSteps w (option_to_list (turn_drawn world (hour_of turn) state).step) after) clock.2
      (subst (λ (o : Option Step). AreSteps between (option_to_list o) after) step rest) in
      (clock.0, clock.1 ∙ ap (with_clock world) hour, middle)

  pub state_is : state' ≡ (turn_drawn world (hour_of turn) state).state
  state_is = sym (ap (λ (d : Drawn). d.state) is_drawn)
