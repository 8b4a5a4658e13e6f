-- The answer to a signon has its form exactly where it is read, and its faults have offsets.
use Rattle.std.proofs.Common.{◌≡◌, ℕ, Ok, codes, refl, subst, ◌∙◌}
use Rattle.ofx_types.specs.Nodes.{Item}
use Rattle.ofx_types.specs.FormWords.{moment_in}
use Rattle.ofx_types.specs.ReplyGrammar.{IsSignonReply}
use Rattle.ofx_types.specs.ReplyReading.{status_of, signon_reply_of}
use Rattle.ofx_types.specs.declared.number.Moment.{Moment}
use Rattle.ofx_tree.specs.Located.{IsWithin, Holds, Any}
use Rattle.ofx_tree.proofs.FormLaws.{bind_ok, bind_to, one_value, moment_in_found, moment_in_again}
use Rattle.ofx_tree.proofs.FormOffsets.{bound, moment_within}
use Rattle.msg_parts.specs.StatusLaws.{StatusesAreFound, StatusFaultsHaveOffsets}

pub signon_reply_again : StatusesAreFound → (sonrs : Item) (code : ℕ) (moment : Moment) → IsSignonReply sonrs code moment → signon_reply_of sonrs ≡ Ok (code, moment)
unfolding signon_reply_of
signon_reply_again statuses sonrs code moment r =
    bind_to _ _ code ((statuses sonrs code).0 r.has_status)
    ∙ bind_to _ _ moment (moment_in_again (codes "DTSERVER") sonrs moment r.has_moment)

pub signon_reply_found : StatusesAreFound → (sonrs : Item) (code : ℕ) (moment : Moment) → signon_reply_of sonrs ≡ Ok (code, moment) → IsSignonReply sonrs code moment
unfolding signon_reply_of
signon_reply_found statuses sonrs code moment h =
    let number = bind_ok (status_of sonrs) _ (code, moment) h in
    let server = bind_ok (moment_in (codes "DTSERVER") sonrs) _ (code, moment) number.2 in
    let P : ℕ × Moment → Type 0 = λ said. IsSignonReply sonrs said.0 said.1 in
    subst P (one_value _ _ (code, moment) refl server.2) (record {
      has_status = (statuses sonrs number.0).1 number.1;
      has_moment = moment_in_found (codes "DTSERVER") sonrs server.0 server.1;
    })

pub signon_reply_within : StatusFaultsHaveOffsets → (most : ℕ) (sonrs : Item) → IsWithin most sonrs → Holds most Any (signon_reply_of sonrs)
unfolding signon_reply_of
signon_reply_within statuses most sonrs h =
    bound most Any Any (status_of sonrs) _ (statuses most sonrs h) (λ code _.
    bound most Any Any (moment_in (codes "DTSERVER") sonrs) _ (moment_within most (codes "DTSERVER") sonrs h) (λ moment _. tt))
