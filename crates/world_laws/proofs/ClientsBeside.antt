-- Clients beside a served bank, over its logs, its journals and its next runs.
use Rattle.std.proofs.Common.{◌≡◌, List, [], Option, Some, refl, sym, subst}
use Rattle.bank_model.specs.Log.{endings}
use Rattle.bank_model.specs.LegalLog.{ends}
use Rattle.bank_model.specs.Rules.{opening_state}
use Rattle.bank_model.specs.declared.log.LogItem.{LogItem}
use Rattle.bank_model.specs.declared.setup.Setup.{Setup}
use Rattle.ofx_world.specs.Customer.{CustomerView, MakesFile}
use Rattle.ofx_world.specs.GoingOn.{SoundWorlds, StepsKeepWorlds, BanksKeepWorlds}
use Rattle.ofx_world.specs.Server.{ServerView, settled}
use Rattle.ofx_world.specs.Sound.{IsSoundWorld}
use Rattle.world_laws.specs.BankLaws.{LogsAreRuns, JournalsAreRuns}
use Rattle.world_laws.specs.Beside.{ClientsView, GivesUp, world_of, with_client}
use Rattle.world_laws.specs.BesideLaws.{StaysRight, NewClientsAreRight, ClientsGoAlong, LogsKeepClients, JournalsKeepClients, NextRunsKeepClients, ActsAreDone}
use Rattle.world_laws.specs.ClientActs.{ActsAreSteps}
use Rattle.world_laws.specs.ServedBank.{at_rest, GoesAlong}
use Rattle.world_laws.proofs.BesideBank.{along_keeps, settled_at_rest}

stays : SoundWorlds → (server : ServerView) (clients : ClientsView) → IsSoundWorld (world_of server clients) → StaysRight server clients
stays worlds server clients sound = (sound, worlds.right (world_of server clients) sound)

pub new_clients : SoundWorlds → NewClientsAreRight
new_clients worlds setup clients customers within new saved =
    stays worlds (at_rest setup opening_state []) _ (worlds.begins setup clients _ within new (record {
      server = refl;
      customers_are = saved;
      requests = refl;
      replies = refl;
      clock = refl;
    }))

pub clients_go : SoundWorlds → StepsKeepWorlds → BanksKeepWorlds → ClientsGoAlong
clients_go worlds clients_keep banks_keep setup opening first log server before after doings run same done sound =
    stays worlds server after
    (along_keeps clients_keep banks_keep setup doings (at_rest setup opening first) server before after
    (subst (λ (items : List LogItem). GoesAlong (at_rest setup opening first) items server) (sym same) run.goes) done refl sound)

pub logs_keep : ClientsGoAlong → LogsAreRuns → LogsKeepClients
logs_keep go logs setup opening first coded log before after doings whole code same done sound =
    go setup opening first log _ before after doings (logs setup opening first coded log sound.within sound.reopened whole code) same done sound

pub journals_keep : ClientsGoAlong → JournalsAreRuns → JournalsKeepClients
journals_keep go journals setup opening first journal before after doings is tried same done sound =
    let run = journals setup opening first journal sound.within is tried in
    (run.0, run.2, go setup opening first journal.log run.0 before after doings run.1 same done sound)

pub next_runs : SoundWorlds → BanksKeepWorlds → NextRunsKeepClients
next_runs worlds banks_keep server clients quiet sound =
    stays worlds _ clients
    (subst (λ (s : ServerView). IsSoundWorld (world_of s clients)) (settled_at_rest server quiet) (banks_keep.settles (world_of server clients) sound))

pub acts_done : ActsAreSteps → ActsAreDone
acts_done acts = record {
  makes = λ setup clients index customer new wish file there made. (
    tt,
    λ server own. acts.makes (world_of server clients) index customer new wish file there
        (subst (λ (s : Setup). MakesFile s customer wish clients.clock new file) (sym own) made),
  );
  takes = λ setup clients index number customer new bytes there here accepts. (
    tt,
    λ server own. acts.takes (world_of server clients) index number customer new bytes there here accepts,
  );
  discards = λ setup clients index customer new there saves.
      subst (λ (found : Option CustomerView). GivesUp clients index found (with_client clients index new)) (sym there) (new, saves, refl);
}
