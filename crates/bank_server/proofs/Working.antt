-- A worker so far, one turn more, and each of its ends.
use Rattle.std.proofs.Common.{◌≡◌, ℕ, ◌+◌, List, [], ◌∷◌, ◌++◌, length, map, Option, Result, refl, sym, ap, ◌∙◌, subst, arith, length-append, rules}
use Rattle.std.proofs.lemmas.List.Elements.{filter-append}
use Rattle.ofx_ports.specs.Known.{Grows, Stays}
use Rattle.ofx_ports.proofs.KnownLaws.{Grows-trans, Grows-kept}
use Rattle.ofx_types.specs.declared.number.Moment.{Moment}
use Rattle.bank_model.specs.declared.setup.Setup.{Setup}
use Rattle.bank_callers.specs.Callers.{CallerView}
use Rattle.bank_due.specs.declared.fault.DueFault.{DueFault}
use Rattle.bank_server.specs.Connected.{Faces, DoorView, around_link}
use Rattle.bank_connection.specs.Connection.{Converses}
use Rattle.http_link.specs.declared.served.Served.{Served}
use Rattle.http_link.specs.declared.served.ServeError.{ServeError}
use Rattle.bank_server.specs.Turns.{Turn, DoesDueAt, RunsTurn, AreTurns, links_given, links_back, due_ends, missed_in}

-- so many links were served, and so many due runs missed, and the worker goes on
pub record SoFar {L : Type 0} (faces : Faces L) (setup : Setup) (before now : DoorView L) (shown shown' : Option (List Moment)) (first caller : CallerView) (served missed : ℕ) : Type 0 where
  pub turns : List (Turn L)
  pub are_turns : AreTurns faces setup shown shown' first caller turns
  pub given : Grows before.given now.given (links_given turns)
  pub back : Grows before.back now.back (links_back turns)
  pub served_is : served ≡ length turns
  pub missed_is : missed ≡ missed_in (due_ends turns)

turns-more : {L : Type 0} (faces : Faces L) (setup : Setup) (shown mid late : Option (List Moment)) (first caller last : CallerView) (turns : List (Turn L)) (turn : Turn L)
    → AreTurns faces setup shown mid first caller turns → RunsTurn faces setup mid late caller last turn → AreTurns faces setup shown late first last (turns ++ turn ∷ [])
turns-more faces setup shown mid late first caller last [] turn are takes =
    let from_shown : RunsTurn faces setup shown late caller last turn = subst (λ (m : Option (List Moment)). RunsTurn faces setup m late caller last turn) are.0 takes in
    (late, last, subst (λ (c : CallerView). RunsTurn faces setup shown late c last turn) are.1 from_shown, (refl, refl))
turns-more faces setup shown mid late first caller last (one ∷ turns) turn are takes =
    (are.0, are.1, are.2, turns-more faces setup are.0 mid late are.1 caller last turns turn are.3 takes)

map-more : {A B : Type 0} (f : A → B) (xs : List A) (x : A) → map f (xs ++ x ∷ []) ≡ map f xs ++ f x ∷ []
map-more f [] x = refl
map-more f (first ∷ xs) x = ap (λ ys. f first ∷ ys) (map-more f xs x)

missed-more : (runs : List (Result ℕ DueFault)) (run : Result ℕ DueFault) → missed_in (runs ++ run ∷ []) ≡ missed_in runs + missed_in (run ∷ [])
missed-more runs run = search (rules, length-append, filter-append)

-- one link more: it was given after a due run, served, and handed back
pub more : {L : Type 0} (faces : Faces L) (setup : Setup) (before now mid next : DoorView L) (shown s0 s1 s2 : Option (List Moment)) (first c0 c1 c2 : CallerView) (served missed : ℕ)
    (at : Moment) (due : Result ℕ DueFault) (given back : L) (answer : Result Served ServeError)
    → SoFar faces setup before now shown s0 first c0 served missed → DoesDueAt setup s0 s1 c0 c1 at due
    → Converses setup (around_link faces given s1 c1) (around_link faces back s2 c2) answer
    → Grows now.given mid.given (given ∷ []) → Stays now.back mid.back → Stays mid.given next.given → Grows mid.back next.back (back ∷ [])
    → SoFar faces setup before next shown s2 first c2 (served + 1) (missed + missed_in (due ∷ []))
more {L} faces setup before now mid next shown s0 s1 s2 first c0 c1 c2 served missed at due given back answer so does converses gives keeps kept takes =
    let turn : Turn L = record { at = at; due = due; given = given; back = back; answer = answer } in
    let runs_turn : RunsTurn faces setup s0 s2 c0 c2 turn = record { between = s1; caller = c1; does = does; serves = converses } in record {
      turns = so.turns ++ turn ∷ [];
      are_turns = turns-more faces setup shown s0 s2 first c0 c2 so.turns turn so.are_turns runs_turn;
      given = subst (Grows before.given next.given) (sym (map-more (λ (t : Turn L). t.given) so.turns turn))
          (Grows-kept before.given mid.given next.given (links_given so.turns ++ given ∷ []) (Grows-trans before.given now.given mid.given (links_given so.turns) (given ∷ []) so.given gives) kept);
      back = subst (Grows before.back next.back) (sym (map-more (λ (t : Turn L). t.back) so.turns turn))
          (Grows-trans before.back mid.back next.back (links_back so.turns) (back ∷ []) (Grows-kept before.back now.back mid.back (links_back so.turns) so.back keeps) takes);
      served_is = omega (arith, so.served_is, length-append so.turns (turn ∷ []));
      missed_is = ap (λ n. n + missed_in (due ∷ [])) so.missed_is ∙ (sym (missed-more (due_ends so.turns) due) ∙ ap missed_in (sym (map-more (λ (t : Turn L). t.due) so.turns turn)));
    }
