use Rattle.bank_invariants.proofs.RunLaws.{IsSoundState-run}
use Rattle.bank_invariants.proofs.DueFirstLemmas.{nothing_due, spawn_due, post_due}
use Rattle.bank_invariants.proofs.laws.due.due_work_is_least.Goals as goal

pub returns-clause-none_spawns : goal.returns-clause-none_spawns
returns-clause-none_spawns c = λ setup run at within legal is. (nothing_due setup _ at (IsSoundState-run setup run within legal) is).0

pub returns-clause-none_posts : goal.returns-clause-none_posts
returns-clause-none_posts c = λ setup run at within legal is. (nothing_due setup _ at (IsSoundState-run setup run within legal) is).1

pub returns-clause-spawn : goal.returns-clause-spawn
returns-clause-spawn c = λ setup run at id occurrence within legal is. spawn_due setup _ at id occurrence (IsSoundState-run setup run within legal) is

pub returns-clause-post : goal.returns-clause-post
returns-clause-post c = λ setup run at id within legal is. post_due setup _ at id (IsSoundState-run setup run within legal) is
