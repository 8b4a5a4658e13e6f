use Rattle.std.proofs.Common.{◌∷◌, ◌++◌, [], List, length, sym, ap, ◌∙◌, append_assoc, arith}
use Rattle.bank_ledger.specs.declared.row_change.RowChange.{RowChange}
use Rattle.bank_model.specs.declared.entry.Entry.{Entry}
use Rattle.bank_model.specs.declared.event.State.{State}
use Rattle.bank_ledger.proofs.StateParts.{state_of}
use Rattle.bank_ledger.proofs.TakingIn.{gives_next, known_next, number_next, taken_more, rest_more}
use Rattle.bank_ledger.proofs.ledger.Ledger.add_all.Goals as goal

pub add-requires-clause-gives : goal.add-requires-clause-gives
add-requires-clause-gives c =
    let all = c.loop-row_change.invariant.items ∙ c.into_iter-row_change-iterator.ensures.into_iter_gives.0 in
    let next = ap (λ (l : List RowChange). c.loop-row_change.yielded ++ l) (sym c.in-Some.ensures.steps.0) ∙ all in
    gives_next c.args.self.now.state.entries c.args.entries.items c.loop-row_change.self.state.entries c.args.row_changes.items c.loop-row_change.yielded _ c.in-Some-next.entry c.in-Some.row_change _ c.requires.given next
    (sym c.loop-row_change.invariant.rest ∙ c.in-Some-next.ensures.cases.0)
    (ap (λ (S : State). S.entries) c.loop-row_change.invariant.state)

pub add-requires-clause-number : goal.add-requires-clause-number
add-requires-clause-number c =
    number_next c.args.self.now.state.entries c.args.entries.items c.loop-row_change.self.state.entries c.loop-row_change.yielded c.in-Some-next.entry _ c.requires.numbered
    (sym c.loop-row_change.invariant.rest ∙ c.in-Some-next.ensures.cases.0)
    (ap (λ (S : State). S.entries) c.loop-row_change.invariant.state)

pub add-requires-clause-known : goal.add-requires-clause-known
add-requires-clause-known c =
    let all = c.loop-row_change.invariant.items ∙ c.into_iter-row_change-iterator.ensures.into_iter_gives.0 in
    let next = ap (λ (l : List RowChange). c.loop-row_change.yielded ++ l) (sym c.in-Some.ensures.steps.0) ∙ all in
    known_next c.args.entries.items c.args.row_changes.items c.loop-row_change.yielded _ c.in-Some-next.entry c.in-Some.row_change _ c.requires.known next
    (sym c.loop-row_change.invariant.rest ∙ c.in-Some-next.ensures.cases.0)

pub loop-row_change-preserved : goal.loop-row_change-preserved
loop-row_change-preserved c =
    let at = c.loop-row_change in
    let rest = sym at.invariant.rest ∙ c.in-Some-next.ensures.cases.0 in
    let short = ap length c.in-Some.ensures.steps.0 in
    let room = at.invariant.entries in
    let room_transfers = at.invariant.transfers in
    let room_models = at.invariant.models in
    record {
      items = append_assoc at.yielded (c.in-Some.row_change ∷ []) _ ∙ ap (λ (l : List RowChange). at.yielded ++ l) (sym c.in-Some.ensures.steps.0) ∙ at.invariant.items;
      count = let was = at.invariant.count in let gone = c.in-Some.ensures.steps.1 in omega arith;
      rest = rest_more c.args.entries.items at.yielded c.in-Some-next.entry c.in-Some.row_change _ rest;
      window = c.add.ensures.window ∙ at.invariant.window;
      state =
          c.add.ensures.state
          ∙ ap (λ (S : State). state_of (S.entries ++ c.in-Some-next.entry ∷ []) S.used S.kept S.day) at.invariant.state
          ∙ ap (λ (l : List Entry). state_of l c.args.self.now.state.used c.args.self.now.state.kept c.args.self.now.state.day) (taken_more c.args.self.now.state.entries c.args.entries.items at.yielded c.in-Some-next.entry c.in-Some.row_change _ rest);
      entries = let less = c.add.ensures.entries in omega arith;
      transfers = let less = c.add.ensures.transfers in omega arith;
      models = let less = c.add.ensures.models in omega arith;
      pairs = c.add.ensures.pairs ∙ at.invariant.pairs;
      files = c.add.ensures.files ∙ at.invariant.files;
    }
