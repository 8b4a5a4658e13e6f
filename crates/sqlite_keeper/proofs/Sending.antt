-- A keeper may go to another thread: neither an open file of records nor anything else in it belongs to one.
use denote.Param.Send.{IsSend, sendable, view_send}
use denote.Param.SendFields.{declared_send}
use Rattle.std.proofs.Crossing as heap
use Rattle.std.proofs.fs.File.TheSendSync as open_file
use Rattle.std.proofs.option.Option.TheSendSync as option
use Rattle.std.proofs.string.String.TheSendSync as string
use Rattle.std.proofs.alloc.Global.TheSendSync as handle
use Rattle.sqlite.proofs.connection.Connection.TheSendSync as connection
use Rattle.sqlite.proofs.statement.Statement.TheSendSync as statement
use Rattle.sqlite.specs.contracts.Unknown as unknown
use Rattle.sqlite.below.sqlite_store.proofs.store.FileStore.TheSendSync as store
use Rattle.sqlite.below.sqlite_store.specs.contracts.store.FileStoreStore.TheImpl as store_calls
use Rattle.sqlite.below.sqlite_disk.proofs.files.Files.TheSendSync as pair
use Rattle.sqlite.below.sqlite_disk.proofs.modelled.Modelled.TheSendSync as disk
use Rattle.sqlite.below.sqlite_disk.specs.contracts.modelled.Modelled as modelled
use Rattle.sqlite.below.sqlite_disk.specs.contracts.modelled.ModelledDisk.TheImpl as disk_calls
use Rattle.sqlite.below.sqlite_disk.specs.contracts.start.UnknownStart.TheImpl as start
use Rattle.sqlite.below.sqlite_std_file.specs.contracts.host.Host as host
use Rattle.sqlite.below.sqlite_std_file.specs.contracts.host.HostCalls.TheImpl as host_calls
use Rattle.sqlite.below.sqlite_std_file.specs.contracts.record.Record as record_of_calls
use Rattle.sqlite_keeper.specs.contracts.file.RecordFile as record_file
use Rattle.sqlite_keeper.specs.contracts.named.Named as named
use Rattle.sqlite_keeper.specs.contracts.refusal.Refusal as refusal
use Rattle.sqlite_keeper.specs.contracts.keeper.SqliteKeeper as keeper
use Rattle.sqlite_keeper.specs.contracts.keeper.SqliteKeeper.TheInside as inside

calls_send : IsSend record_of_calls.the_row
calls_send = search sendable

host_send : IsSend host.the_row
host_send = declared_send host.the_type (open_file.the_send, (calls_send, tt))

file_send : IsSend record_file.the_row
file_send =
    declared_send record_file.the_type (
      connection.the_send _
          (store_calls.ghosts (modelled.the_row host.the_row unknown.the_row host_calls.ghosts start.ghosts)
          (disk_calls.ghosts host.the_row unknown.the_row host_calls.ghosts disk_calls.no_dict start.ghosts disk_calls.no_dict disk_calls.no_dict)
          store_calls.no_dict
          )
          (store.the_send _ _ (disk.the_send host.the_row unknown.the_row host_calls.ghosts start.ghosts host_send)),
      (statement.the_send, (statement.the_send, tt)),
    )

named_send : IsSend named.the_row
named_send = search sendable

refusal_send : IsSend refusal.the_row
refusal_send = search sendable

fields_send : IsSend inside.the_row
fields_send =
    declared_send inside.the_type (
      search sendable,
      (
        string.the_send _ _ handle.the_send heap.frees,
        (
          option.the_send _ file_send,
          (
            named_send,
            (
              option.the_send _ (pair.the_send _ (disk.the_send host.the_row unknown.the_row host_calls.ghosts start.ghosts host_send)),
              (
                search sendable,
                (option.the_send _ refusal_send, (search sendable, (search sendable, (search sendable, tt)))),
              ),
            ),
          ),
        ),
      ),
    )

pub keeper_send : IsSend keeper.the_row
keeper_send = view_send _ _ _ _ _ fields_send
