use Rattle.std.proofs.Common.{◌≡◌, ◌+◌, ◌++◌, ◌∷◌, [], ◌<◌, length, true, false, arith, ap, get_or, set, ◌∙◌, subst, sym, List, Option, None, Some}
use Rattle.std.specs.List.{All}
use Rattle.std.specs.Result.{is_err}
use Rattle.std.proofs.lemmas.List.{get_or_default}
use Rattle.ofx_types.specs.declared.number.AcctId.{AcctId}
use Rattle.bank_accounts.specs.AccountView.{AccountView}
use Rattle.bank_accounts.specs.Pool.{in_pool}
use Rattle.bank_accounts.proofs.HomeLemmas.{HasCheckedOut, still_pooled, rises_next, lent_next, held_within, when_ok, when_err}
use Rattle.bank_accounts.proofs.pool.AccountPool.check_out.Goals as goal

pub check_out_one-requires-clause-pool : goal.check_out_one-requires-clause-pool
check_out_one-requires-clause-pool c =
    let number : AcctId = get_or c.args.numbers.now c.loop-number.number-index (record { 0 = 0 }) in
    still_pooled c.args.self.now c.loop-number.self c.args.held.now c.loop-number.held c.args.numbers.now c.loop-number.number-index number c.loop-number.invariant c.requires.known c.requires.rising c.loop-number-test.true
    (get_or_default c.args.numbers.now c.loop-number.number-index _ _ c.loop-number-test.true)

pub check_out_one-requires-clause-rises : goal.check_out_one-requires-clause-rises
check_out_one-requires-clause-rises c account is =
    rises_next c.args.numbers.now c.loop-number.held account c.loop-number.number-index c.requires.rising c.loop-number.invariant.so_far c.loop-number-test.true
    (is ∙ get_or_default c.args.numbers.now c.loop-number.number-index _ _ c.loop-number-test.true)

pub loop-number-preserved : goal.loop-number-preserved
loop-number-preserved c =
    let number : AcctId = get_or c.args.numbers.now c.loop-number.number-index (record { 0 = 0 }) in
    let none_failed : false ≡ is_err c.check_out_one.result = c.if-is_err.ensures.value in
    subst (λ (slots : List (Option AccountView)). HasCheckedOut c.args.self.now slots c.args.held.now c.check_out_one.new.held c.args.numbers.now (c.loop-number.number-index + 1))
    (sym (when_ok c.check_out_one.result (c.check_out_one.new.self ≡ set c.loop-number.self number.0 None) none_failed c.check_out_one.ensures.gone))
    (lent_next c.args.self.now c.loop-number.self c.args.held.now c.loop-number.held c.check_out_one.new.held c.args.numbers.now c.loop-number.number-index number c.loop-number.invariant c.requires.known c.requires.rising c.loop-number-test.true
    (get_or_default c.args.numbers.now c.loop-number.number-index _ _ c.loop-number-test.true)
    (when_ok c.check_out_one.result ((account : AccountView) → in_pool c.loop-number.self number ≡ Some account → (account.number ≡ number) × (c.check_out_one.new.held ≡ c.loop-number.held ++ account ∷ [])) none_failed c.check_out_one.ensures.checked_out))

-- Those that were checked out before memory was refused are known.
pub check_in-requires : goal.check_in-requires
check_in-requires c =
    let failed : true ≡ is_err c.check_out_one.result = c.if-is_err.ensures.value in
    let same : c.check_out_one.new.self ≡ c.loop-number.self = when_err c.check_out_one.result (c.check_out_one.new.self ≡ c.loop-number.self) failed c.check_out_one.ensures.refused in
    let held : c.check_out_one.new.held ≡ c.loop-number.held = when_err c.check_out_one.result (c.check_out_one.new.held ≡ c.loop-number.held) failed c.check_out_one.ensures.none_lent in
    let size : length c.check_out_one.new.self ≡ length c.args.self.now = ap (length {A = Option AccountView}) same ∙ c.loop-number.invariant.count in
    subst (λ (accounts : List AccountView). All (λ (account : AccountView). account.number.0 < length c.check_out_one.new.self) accounts) (sym held)
    (subst (λ (n : _). All (λ (account : AccountView). account.number.0 < n) c.loop-number.held) (sym size)
    (held_within (length c.args.self.now) c.loop-number.held c.args.numbers.now c.loop-number.number-index c.loop-number.invariant.so_far (omega (arith, c.loop-number-test.true)) c.requires.known))
