-- What the bank does, as a step of the world whose part it is.
use Rattle.std.proofs.Common.{◌≡◌, ◌⊎◌, inl, inr, List, ℕ, Some, Result, Ok, Err, OnOk, OnErr, ap, subst, ◌∙◌}
use Rattle.ofx_types.specs.declared.number.UserId.{UserId}
use Rattle.bank_model.specs.Rules.{due}
use Rattle.bank_model.specs.declared.event.Event.{Event}
use Rattle.event_codec.specs.Coding.{coded}
use Rattle.event_codec.specs.Records.{Codes}
use Rattle.ofx_world.specs.Kept.{IsRecorded}
use Rattle.ofx_world.specs.Server.{ServerView, Restarts, WritesLetter, due_done, settled}
use Rattle.ofx_world.specs.World.{WorldView, IsCut, LetterStep, RestartServerStep, with_server}
use Rattle.ofx_world.specs.declared.step.Step.TheVariants as steps

module _ (inside old : WorldView) (same : inside ≡ old) (server : ServerView) where
  -- A refused call leaves the bank as it was, or settled.
  pub cut_step : {T E : Type 0} (result : Result T E) → OnErr result ((server ≡ inside.server) ⊎ (server ≡ settled inside.server))
      → OnErr result (IsCut old (with_server inside server))
  cut_step (Ok done) refused = tt
  cut_step (Err fault) (inl is) = inl (ap (with_server inside) is ∙ same)
  cut_step (Err fault) (inr is) = inr (ap (with_server inside) is ∙ ap (λ (w : WorldView). with_server w (settled w.server)) same)

  pub due_step : {T E : Type 0} (result : Result T E) → OnOk result (server ≡ due_done inside.server inside.clock)
      → OnOk result (with_server inside server ≡ with_server old (due_done old.server old.clock))
  due_step (Ok done) is = ap (with_server inside) is ∙ ap (λ (w : WorldView). with_server w (due_done w.server w.clock)) same
  due_step (Err fault) is = tt

  pub due_recorded : {T E : Type 0} (result : Result T E)
      → OnOk result ((event : Event) → due inside.server.setup (settled inside.server).state inside.clock ≡ Some event → Codes (coded inside.clock event) inside.clock event)
      → OnOk result (IsRecorded old steps.Due)
  due_recorded (Ok done) codes = subst (λ (w : WorldView). IsRecorded w steps.Due) same codes
  due_recorded (Err fault) codes = tt

  pub letter_step : {T E : Type 0} (result : Result T E) (user : UserId) (subject body : List ℕ)
      → OnOk result (WritesLetter inside.server inside.clock user subject body server) → OnOk result (LetterStep old user subject body (with_server inside server))
  letter_step (Ok done) user subject body written = (
    server,
    subst (λ (w : WorldView). WritesLetter w.server w.clock user subject body server) same written,
    ap (λ (w : WorldView). with_server w server) same,
  )
  letter_step (Err fault) user subject body written = tt

  pub restart_step : {T E : Type 0} (result : Result T E) → OnOk result (Restarts inside.server server)
      → OnOk result (RestartServerStep old (with_server inside server))
  restart_step (Ok done) restarts = (
    server,
    subst (λ (w : WorldView). Restarts w.server server) same restarts,
    ap (λ (w : WorldView). with_server w server) same,
  )
  restart_step (Err fault) restarts = tt
