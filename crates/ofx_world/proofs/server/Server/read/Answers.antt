use Rattle.std.proofs.Common.{◌≡◌, sym, ap, ◌∙◌}
use Rattle.bank_model.specs.SetupLookups.{signed_on}
use Rattle.bank_model.specs.declared.setup.Setup.{Setup}
use Rattle.ofx_world.proofs.Serving.{found_again, never_denied, no_poll_again}
use Rattle.ofx_world.proofs.server.Server.read.Goals as goal

pub unreachable-requires : goal.unreachable-requires
unreachable-requires c =
    never_denied c.args.self.now.setup c.args.bytes.now c.in-Ok.file c.requires (c.in-Ok.ensures.all c.requires.file c.requires.of_user.signed_on.spelled)
    (ap (λ (setup : Setup). signed_on setup c.in-Ok.file.user c.in-Ok.file.pass) (sym c.setup.ensures.setup) ∙ sym c.signon.ensures ∙ c.in-None.is)

pub want_of_memory-requires : goal.want_of_memory-requires
want_of_memory-requires c = c.in-Err.ensures.all c.requires.file c.requires.of_user.signed_on.spelled

pub returns-in-Some-clause-of_user : goal.returns-in-Some-clause-of_user
returns-in-Some-clause-of_user c =
    found_again c.args.self.now.setup c.args.bytes.now c.in-Some.user c.in-Ok.file c.requires (c.in-Ok.ensures.all c.requires.file c.requires.of_user.signed_on.spelled)
    (ap (λ (setup : Setup). signed_on setup c.in-Ok.file.user c.in-Ok.file.pass) (sym c.setup.ensures.setup) ∙ sym c.signon.ensures ∙ c.in-Some.is)

pub returns-in-Some-clause-no_poll : goal.returns-in-Some-clause-no_poll
returns-in-Some-clause-no_poll c =
    no_poll_again c.args.self.now.setup c.args.bytes.now c.in-Ok.file c.requires (c.in-Ok.ensures.all c.requires.file c.requires.of_user.signed_on.spelled)
