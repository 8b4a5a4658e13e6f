use Rattle.std.proofs.Common.{◌≡◌, [], ◌∷◌, ◌++◌, List, length, length-append, map, arith, ap, sym, ◌∙◌}
use Rattle.std.proofs.lemmas.List.{map-append}
use Rattle.std.proofs.lemmas.List.Elements.{All-push, All-same}
use Rattle.ofx_types.specs.declared.number.AcctId.{AcctId}
use Rattle.ofx_types.specs.declared.number.Cents.{Cents}
use Rattle.bank_model.specs.Ledger.{balance}
use Rattle.bank_accounts.specs.AccountView.{AccountView, BookSideView}
use Rattle.bank_accounts.specs.Sides.{side_of}
use Rattle.bank_invariants.proofs.OpeningLemmas.{balance-opened}
use Rattle.bank_core.proofs.OpenedLemmas.{numbered_push}
use Rattle.bank_core.proofs.opening.opened_accounts.Goals as goal

pub loop-index-preserved : goal.loop-index-preserved
loop-index-preserved c =
    let P : AccountView → Type 0 = λ account. account.balance ≡ record { 0 = balance c.args.setup.now [] account.number } in
    let account : AccountView = c.in_ok-account.account in
    let before : List AccountView = c.loop-index.accounts.items in
    let made = c.in_ok-account.ensures.account in
    let here = balance-opened c.args.setup.now c.items-lines.result.now c.loop-index.index c.index-lines-index.result c.items-lines.ensures c.loop-index-test.true c.index-lines-index.is in
    let has : P account = made.1 ∙ here ∙ ap (λ (n : AcctId). record { 0 = balance c.args.setup.now [] n }) (sym made.0) in
    let side : c.in_ok-account.side ≡ side_of account = c.in_ok-account.ensures.book ∙ ap (λ (b : Cents). record { balance = b; table = account.table }) (sym made.1) in
    record {
      count = omega (arith, ap length c.in_ok-push.ensures.items, length-append before (account ∷ []), c.loop-index.invariant.count);
      numbered = rw c.in_ok-push.ensures.items (numbered_push before account c.loop-index.index c.loop-index.invariant.count c.loop-index.invariant.numbered (ap (λ (n : AcctId). n.0) made.0));
      balanced = All-same P c.push.new.self.items _ c.in_ok-push.ensures.items (All-push P before account c.loop-index.invariant.balanced has);
      sides =
          c.in_ok-push-2.ensures.items
          ∙ ap (λ (sides : List BookSideView). sides ++ c.in_ok-account.side ∷ []) c.loop-index.invariant.sides
          ∙ ap (λ (s : BookSideView). map side_of before ++ s ∷ []) side
          ∙ sym (map-append side_of before (account ∷ []))
          ∙ ap (map side_of) (sym c.in_ok-push.ensures.items);
    }
