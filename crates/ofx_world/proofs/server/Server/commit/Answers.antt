use Rattle.std.proofs.Common.{◌≡◌, ◌∙◌, ℕ, Vec, Global, [], false, None, Some, OnOk, IfOk, ap, sym, subst}
use Rattle.std.specs.Option.{option_map}
use Rattle.bank_engine.specs.Views.{JournalView}
use Rattle.ofx_world.specs.Server.{ServerView, committed, reply_to}
use Rattle.ofx_world.proofs.Serving.{seen, happens_as, replied_as, puts_off_as, tells_none_as}
use Rattle.ofx_world.proofs.server.Server.commit.Goals as goal
use Rattle.ofx_world.proofs.server.Server.commit.Goals.{in-Ok, in-Err-Keeper, in-Err-OutOfMemory}

pub returns-clause-committed : goal.returns-clause-committed
returns-clause-committed c =
    let shown : ServerView = seen c.commit.new.self.setup c.commit.new.self.state c.commit.new.keeper c.commit.new.self.pending in
    elim c.match-commit.branch [
      | in-Ok w ↦
          subst (λ (result : _). OnOk result (shown ≡ committed c.args.self.now c.args.at c.args.event)) (sym w.result-is)
          (happens_as w.in-Ok.reply _ _ _ c.self.inside.keeper c.commit.new.keeper c.args.self.now c.args.event c.args.at _ c.self.view_is c.requires.settled w.in-Ok.ensures.answers w.in-Ok.ensures.appends)
      | in-Err-Keeper w ↦
          subst (λ (result : _). OnOk result (shown ≡ committed c.args.self.now c.args.at c.args.event)) (sym w.result-is)
          (puts_off_as (Vec ℕ Global) _ _ c.self.inside.keeper c.commit.new.keeper c.args.self.now c.args.event c.args.at w.in-Err-Keeper.field-0 w.in-Err-Keeper.field-0-0 w.in-Err-Keeper.field-0-is c.self.view_is c.requires.settled w.in-Err-Keeper.ensures.fails w.in-Err-Keeper.ensures.appends)
      | in-Err-OutOfMemory w ↦ subst (λ (result : _). OnOk result (shown ≡ committed c.args.self.now c.args.at c.args.event)) (sym w.result-is) tt
    ]

pub returns-clause-reply : goal.returns-clause-reply
returns-clause-reply c =
    let old : JournalView =
    record { setup = c.self.inside.engine.setup; state = c.self.inside.engine.state; tables = c.self.inside.engine.tables; log = []; pending = c.self.inside.engine.pending; records = None; landed = None; unsettled = false; faults = 0 } in
    elim c.match-commit.branch [
      | in-Ok w ↦
          subst (λ (result : _). IfOk result (λ reply. option_map (λ bytes. bytes.items) reply ≡ reply_to c.args.self.now c.args.at c.args.event)) (sym w.result-is)
          (ap Some w.in-Ok.ensures.answers.line_is
          ∙ replied_as w.in-Ok.reply _ _ c.self.inside.keeper c.commit.new.keeper c.args.self.now c.args.event c.args.at _ c.self.view_is c.requires.settled w.in-Ok.ensures.answers.answers w.in-Ok.ensures.appends)
      | in-Err-Keeper w ↦
          subst (λ (result : _). IfOk result (λ reply. option_map (λ bytes. bytes.items) reply ≡ reply_to c.args.self.now c.args.at c.args.event)) (sym w.result-is)
          (tells_none_as (Vec ℕ Global) old c.self.inside.keeper c.commit.new.keeper c.args.self.now c.args.event c.args.at w.in-Err-Keeper.field-0 w.in-Err-Keeper.field-0-0 w.in-Err-Keeper.field-0-is c.self.view_is c.requires.settled w.in-Err-Keeper.ensures.appends)
      | in-Err-OutOfMemory w ↦
          subst (λ (result : _). IfOk result (λ reply. option_map (λ bytes. bytes.items) reply ≡ reply_to c.args.self.now c.args.at c.args.event)) (sym w.result-is) tt
    ]
