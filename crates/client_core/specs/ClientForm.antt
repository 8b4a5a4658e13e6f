-- A client that knows nothing yet, and one that gave a file up.
use Rattle.std.specs.Prelude.{ℕ, List, [], None}
use Rattle.client_saved.specs.declared.state.ClientState.{ClientState}

-- A new client has made no file and keeps nothing.
abbrev pub new_client : List ℕ → List ℕ → ClientState
new_client name user = record { name = name; user = user; next = 1; done = None; outstanding = None; stores = [] }

-- Whoever gives the outstanding file up keeps all else, the number of the next file too.
abbrev pub discarded : ClientState → ClientState
discarded client = record {
  name = client.name;
  user = client.user;
  next = client.next;
  done = client.done;
  outstanding = None;
  stores = client.stores;
}
