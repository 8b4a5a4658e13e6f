-- The turns of a rehearsal, one after another.
use Rattle.std.proofs.Common.{◌≡◌, ℕ, suc, ◌+◌, ◌-◌, ◌<◌, List, [], ◌∷◌, ◌++◌, refl, sym, subst, arith}
use Rattle.client_saved.specs.declared.state.ClientState.{ClientState}
use Rattle.ofx_world.specs.Customer.{CustomerView, IsSavedAs}
use Rattle.ofx_world.specs.Rehearsal.{AreTurns, hour_of, turn_drawn, turn_steps}
use Rattle.ofx_world.specs.World.{WorldView, AreSteps, HaveSaved}

-- ---- turns

one_less : (turn : ℕ) → turn < 2000 → 2000 - turn ≡ suc (2000 - (turn + 1))
one_less turn below = omega arith

first_turn : (more turn state state' : ℕ) (world between last : WorldView) → AreSteps world (turn_steps world turn state) between → state' ≡ (turn_drawn world (hour_of turn) state).state → AreTurns more (turn + 1) state' between last → AreTurns (suc more) turn state world last
unfolding AreTurns
first_turn more turn state state' world between last steps drawn turns =
    (between, steps, subst (λ (s : ℕ). AreTurns more (turn + 1) s between last) drawn turns)

-- A turn, and all that follow.
pub one_turn : (turn state state' : ℕ) (world between last : WorldView) → turn < 2000 → AreSteps world (turn_steps world turn state) between → state' ≡ (turn_drawn world (hour_of turn) state).state → AreTurns (2000 - (turn + 1)) (turn + 1) state' between last → AreTurns (2000 - turn) turn state world last
one_turn turn state state' world between last below steps drawn turns =
    subst (λ (left : ℕ). AreTurns left turn state world last) (sym (one_less turn below))
    (first_turn (2000 - (turn + 1)) turn state state' world between last steps drawn turns)

-- After the last one nothing changes.
pub no_turn : (turn state : ℕ) (world : WorldView) → turn ≡ 2000 → AreTurns (2000 - turn) turn state world world
unfolding AreTurns
no_turn turn state world last = subst (λ (t : ℕ). AreTurns (2000 - t) t state world world) (sym last) refl

-- ---- clients that have saved what they know

pub have_saved_then : (clients : List ClientState) (customers : List CustomerView) (client : ClientState) (customer : CustomerView) → HaveSaved clients customers → IsSavedAs client customer → HaveSaved (clients ++ client ∷ []) (customers ++ customer ∷ [])
have_saved_then [] [] client customer all saved = (saved, tt)
have_saved_then [] (c ∷ customers) client customer all saved = absurd all
have_saved_then (c ∷ clients) [] client customer all saved = absurd all
have_saved_then (c ∷ clients) (d ∷ customers) client customer all saved = (all.0, have_saved_then clients customers client customer all.1 saved)
