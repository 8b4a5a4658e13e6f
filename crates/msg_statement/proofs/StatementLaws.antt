-- A statement request has its form exactly where reading finds it.
use Rattle.std.proofs.Common.{◌≡◌, Option, None, Some, Result, Ok, Err, codes, refl, sym, ap, subst, ◌∙◌}
use Rattle.ofx_types.specs.Nodes.{Item}
use Rattle.ofx_types.specs.FormWords.{◌>>=◌, one, maybe, flag_in, maybe_moment_in}
use Rattle.ofx_types.specs.RequestForm.{IsPeriod, IsMaybePeriod, IsStatement}
use Rattle.ofx_types.specs.RequestReading.{account_of, trnuid_of, period_of, period_in, statement_of}
use Rattle.ofx_types.specs.declared.fault.TreeFault.{TreeFault}
use Rattle.ofx_types.specs.declared.request.Period.{Period}
use Rattle.ofx_types.specs.declared.request.Ask.{Ask}
use Rattle.ofx_tree.proofs.FormLaws.{bind_ok, bind_to, one_value, one_found, one_again, maybe_none, maybe_some, none_again, some_again, flag_in_found, flag_in_again, maybe_moment_in_found, maybe_moment_in_again}
use Rattle.msg_parts.proofs.PartLaws.{trnuid_found, trnuid_again, account_found, account_again}

-- ---- periods

pub period_found : (inctran : Item) (period : Period) → period_of inctran ≡ Ok period → IsPeriod inctran period
unfolding period_of
period_found inctran period h =
    let start = bind_ok (maybe_moment_in (codes "DTSTART") inctran) _ period h in
    let end = bind_ok (maybe_moment_in (codes "DTEND") inctran) _ period start.2 in
    let include = bind_ok (flag_in (codes "INCLUDE") inctran) _ period end.2 in
    let P : Period → Type 0 = λ p. IsPeriod inctran p in
    subst P (one_value _ _ period refl include.2) (record {
      start = maybe_moment_in_found (codes "DTSTART") inctran start.0 start.1;
      end = maybe_moment_in_found (codes "DTEND") inctran end.0 end.1;
      include = flag_in_found (codes "INCLUDE") inctran include.0 include.1;
    })

pub period_again : (inctran : Item) (period : Period) → IsPeriod inctran period → period_of inctran ≡ Ok period
unfolding period_of
period_again inctran period p =
    bind_to _ _ period.start (maybe_moment_in_again (codes "DTSTART") inctran period.start p.start)
    ∙ bind_to _ _ period.end (maybe_moment_in_again (codes "DTEND") inctran period.end p.end)
    ∙ bind_to _ _ period.include (flag_in_again (codes "INCLUDE") inctran period.include p.include)

pub maybe_period_found : (stmtrq : Item) (found : Option Item) (period : Option Period) →
    maybe (codes "INCTRAN") stmtrq ≡ Ok found → period_in found ≡ Ok period → IsMaybePeriod stmtrq period
maybe_period_found stmtrq None period h i =
    let P : Option Period → Type 0 = λ p. IsMaybePeriod stmtrq p in
    subst P (one_value _ _ period refl i) (maybe_none (codes "INCTRAN") stmtrq h)
maybe_period_found stmtrq (Some inctran) period h i =
    let read = bind_ok (period_of inctran) _ period i in
    let P : Option Period → Type 0 = λ p. IsMaybePeriod stmtrq p in
    subst P (one_value _ _ period refl read.2) (inctran, maybe_some (codes "INCTRAN") stmtrq inctran h, period_found inctran read.0 read.1)

pub maybe_period_again : (stmtrq : Item) (period : Option Period) → IsMaybePeriod stmtrq period →
    (maybe (codes "INCTRAN") stmtrq >>= period_in) ≡ Ok period
maybe_period_again stmtrq None none = bind_to _ _ None (none_again (codes "INCTRAN") stmtrq none)
maybe_period_again stmtrq (Some period) some =
    bind_to _ _ (Some some.0) (some_again (codes "INCTRAN") stmtrq some.0 some.1)
    ∙ bind_to _ _ period (period_again some.0 period some.2)

-- ---- statements

pub statement_found : (stmttrnrq : Item) (ask : Ask) → statement_of stmttrnrq ≡ Ok ask → IsStatement stmttrnrq ask
unfolding statement_of
statement_found stmttrnrq ask h =
    let trnuid = bind_ok (trnuid_of stmttrnrq) _ ask h in
    let stmtrq = bind_ok (one (codes "STMTRQ") stmttrnrq) _ ask trnuid.2 in
    let from = bind_ok (one (codes "BANKACCTFROM") stmtrq.0) _ ask stmtrq.2 in
    let account = bind_ok (account_of from.0) _ ask from.2 in
    let inctran = bind_ok (maybe (codes "INCTRAN") stmtrq.0) _ ask account.2 in
    let period = bind_ok (period_in inctran.0) _ ask inctran.2 in
    record {
      trnuid = trnuid.0;
      account = account.0;
      period = period.0;
      has_trnuid = trnuid_found stmttrnrq trnuid.0 trnuid.1;
      stmtrq = stmtrq.0;
      has_stmtrq = one_found (codes "STMTRQ") stmttrnrq stmtrq.0 stmtrq.1;
      bankacctfrom = from.0;
      has_account = one_found (codes "BANKACCTFROM") stmtrq.0 from.0 from.1;
      is_account = account_found from.0 account.0 account.1;
      is_period = maybe_period_found stmtrq.0 inctran.0 period.0 inctran.1 period.1;
      is_statement = one_value _ ask _ period.2 refl;
    }

pub bind_two : {A B C : Type 0} (r : Result A TreeFault) (f : A → Result B TreeFault) (g : B → Result C TreeFault) (y : B) → (r >>= f) ≡ Ok y →
    (r >>= λ x. f x >>= g) ≡ g y
bind_two (Ok x) f g y h = ap (λ s. s >>= g) h
bind_two (Err e) f g y h = cc

pub statement_again : (stmttrnrq : Item) (ask : Ask) → IsStatement stmttrnrq ask → statement_of stmttrnrq ≡ Ok ask
unfolding statement_of
statement_again stmttrnrq ask s =
    bind_to _ _ s.trnuid (trnuid_again stmttrnrq s.trnuid s.has_trnuid)
    ∙ bind_to _ _ s.stmtrq (one_again (codes "STMTRQ") stmttrnrq s.stmtrq s.has_stmtrq)
    ∙ bind_to _ _ s.bankacctfrom (one_again (codes "BANKACCTFROM") s.stmtrq s.bankacctfrom s.has_account)
    ∙ bind_to _ _ s.account (account_again s.bankacctfrom s.account s.is_account)
    ∙ bind_two (maybe (codes "INCTRAN") s.stmtrq) period_in _ s.period (maybe_period_again s.stmtrq s.period s.is_period)
    ∙ ap Ok (sym s.is_statement)
