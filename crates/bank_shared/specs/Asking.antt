-- What a caller was answered to some asks of a poll, and the tokens that were loaded for them.
use Rattle.std.specs.Prelude.{◌≡◌, List, map, Option}
use Rattle.std.specs.Option.{option_map}
use Rattle.ofx_types.specs.declared.number.UserId.{UserId}
use Rattle.ofx_types.specs.declared.request.Ask.{Ask}
use Rattle.ofx_types.specs.declared.reply.AskReply.{AskReply}
use Rattle.bank_model.specs.declared.setup.Setup.{Setup}
use Rattle.token_board.specs.declared.view.Load.{Load}
use Rattle.bank_callers.specs.Callers.{CallerView, HasPolled}
use Rattle.bank_callers.specs.Polled.{object_asked, loads_made, answers_reported}

-- Each ask loaded the token of its object, or nothing where it has none, and the answers are by these.
pub record HasAsked (setup : Setup) (user : UserId) (all : List Ask) (replies : List AskReply) (before after : CallerView) : Type 0 where
  pub loads : List (Option Load)
  pub are_loads : map (option_map (λ (load : Load). load.object)) loads ≡ map (object_asked setup user) all
  pub answers : replies ≡ answers_reported all loads
  pub polled : HasPolled (loads_made loads) before after
