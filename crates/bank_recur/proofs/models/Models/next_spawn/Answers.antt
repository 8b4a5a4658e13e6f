use Rattle.std.proofs.Common.{◌≡◌, true, false, Some, sym, subst, ◌∙◌, ap, rules, w32}
use Rattle.std.proofs.lemmas.Int.{to_z-of_z}
use Rattle.std.specs.Option.{option_map}
use Rattle.std.specs.Prelude.{int_le}
use Rattle.bank_model.specs.Due.{Task}
use Rattle.bank_model.specs.Models.{next_occurrence}
use Rattle.bank_recur.specs.ModelsView.{ModelsView}
use Rattle.bank_recur.specs.Ahead.{IsAhead}
use Rattle.bank_recur.specs.Upcoming.{IsFirst}
use Rattle.bank_recur.proofs.AheadLemmas.{made_by_one}
use Rattle.bank_recur.proofs.SpawnLemmas.{early_by, first_made, none_by, none_ahead}
use Rattle.bank_recur.proofs.models.Models.next_spawn.Goals as goal

pub next_k-requires : goal.next_k-requires
next_k-requires c =
    let ahead = subst (λ (v : ModelsView). IsAhead v.series c.self.inside.upcoming) c.self.view_is c.self.invariant.2 in
    made_by_one c.in-Some.first.id c.in-Some.first.day c.args.self.now.series c.self.inside.upcoming ahead (subst (λ found. IsFirst found c.self.inside.upcoming.spawns) c.in-Some.is c.first.ensures).0

pub returns-in-Some : goal.returns-in-Some
returns-in-Some c entries holds =
    let ahead = subst (λ (v : ModelsView). IsAhead v.series c.self.inside.upcoming) c.self.view_is c.self.invariant.2 in
    let early : int_le c.in-Some.first.day.0 c.args.last.0 ≡ true = early_by _ _ c.in-Some.first.day.0 c.args.last.0 true (to_z-of_z w32 c.in-Some.first.day.0 (search rules)) (to_z-of_z w32 c.args.last.0 (search rules)) c.if-first-last.true in
    let first = first_made c.args.last c.args.self.now entries c.self.inside.upcoming ahead holds c.in-Some.first (subst (λ found. IsFirst found c.self.inside.upcoming.spawns) c.in-Some.is c.first.ensures) early in
    ap (λ occurrence. Some (c.in-Some.first.id, occurrence)) (c.next_k.ensures.represented entries holds)
    ∙ sym (ap (option_map (λ (task : Task). (task.id, next_occurrence task.id entries))) first)

pub returns-in_default : goal.returns-in_default
returns-in_default c entries holds =
    let ahead = subst (λ (v : ModelsView). IsAhead v.series c.self.inside.upcoming) c.self.view_is c.self.invariant.2 in
    let late : int_le c.in-Some.first.day.0 c.args.last.0 ≡ false = early_by _ _ c.in-Some.first.day.0 c.args.last.0 false (to_z-of_z w32 c.in-Some.first.day.0 (search rules)) (to_z-of_z w32 c.args.last.0 (search rules)) c.if-first-last.false in
    let none = none_by c.args.last c.args.self.now entries c.self.inside.upcoming ahead holds c.in-Some.first (subst (λ found. IsFirst found c.self.inside.upcoming.spawns) c.in-Some.is c.first.ensures) late in
    sym (ap (option_map (λ (task : Task). (task.id, next_occurrence task.id entries))) none)

pub returns-in_default-2 : goal.returns-in_default-2
returns-in_default-2 c entries holds =
    let ahead = subst (λ (v : ModelsView). IsAhead v.series c.self.inside.upcoming) c.self.view_is c.self.invariant.2 in
    let none = none_ahead c.args.last c.args.self.now entries c.self.inside.upcoming ahead holds (subst (λ found. IsFirst found c.self.inside.upcoming.spawns) c.in_default.is c.first.ensures) in
    sym (ap (option_map (λ (task : Task). (task.id, next_occurrence task.id entries))) none)
