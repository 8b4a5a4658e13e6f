-- A status has its form exactly where it is read, and its faults have offsets.
use Rattle.std.proofs.Common.{◌≡◌, ℕ, ◌≤◌, true, nat_le, Ok, codes, refl, subst, ◌∙◌, arith}
use Rattle.std.proofs.lemmas.Grind.{common_steps}
use Rattle.ofx_types.specs.Nodes.{Item}
use Rattle.ofx_types.specs.FormWords.{one, number_in}
use Rattle.ofx_types.specs.ReplyGrammar.{IsStatus}
use Rattle.ofx_types.specs.ReplyReading.{bounded_code, code_of, status_of}
use Rattle.ofx_tree.specs.Located.{IsWithin, Holds, Any}
use Rattle.ofx_tree.proofs.FormLaws.{bind_ok, bind_to, ok_guarded, one_found, one_again, number_in_found, number_in_again}
use Rattle.ofx_tree.proofs.FormOffsets.{bound, either, one_within, number_within}

pub bounded_again : (offset code : ℕ) → code ≤ 65535 → bounded_code offset code ≡ Ok code
bounded_again offset code h = let fits : nat_le code 65535 ≡ true = grind (arith, common_steps) in rw fits refl

code_again : (parent : Item) (code : ℕ) (s : IsStatus parent code) → code_of s.status ≡ Ok code
unfolding code_of
code_again parent code s =
    bind_to _ _ code (number_in_again (codes "CODE") 5 s.status code s.has_code)
    ∙ bind_to _ _ s.has_code.child (one_again (codes "CODE") s.status s.has_code.child s.has_code.is_only)
    ∙ bounded_again s.has_code.child.node.offset code s.is_bounded

pub status_again : (parent : Item) (code : ℕ) → IsStatus parent code → status_of parent ≡ Ok code
unfolding status_of
status_again parent code s =
    bind_to _ _ s.status (one_again (codes "STATUS") parent s.status s.has_status) ∙ code_again parent code s

pub status_found : (parent : Item) (code : ℕ) → status_of parent ≡ Ok code → IsStatus parent code
unfolding status_of code_of
status_found parent code h =
    let status = bind_ok (one (codes "STATUS") parent) _ code h in
    let number = bind_ok (number_in (codes "CODE") 5 status.0) _ code status.2 in
    let child = bind_ok (one (codes "CODE") status.0) _ code number.2 in
    let bounded = ok_guarded (nat_le number.0 65535) number.0 code _ child.2 in
    let fits : number.0 ≤ 65535 = grind (arith, common_steps, bounded.0) in
    let P : ℕ → Type 0 = λ n. IsStatus parent n in
    subst P bounded.1 (record {
      status = status.0;
      has_status = one_found (codes "STATUS") parent status.0 status.1;
      has_code = number_in_found (codes "CODE") 5 status.0 number.0 number.1;
      is_bounded = fits;
    })

code_within : (most : ℕ) (status : Item) → IsWithin most status → Holds most Any (code_of status)
unfolding code_of
code_within most status h =
    bound most Any Any (number_in (codes "CODE") 5 status) _ (number_within most (codes "CODE") 5 status h) (λ code _.
    bound most (IsWithin most) Any (one (codes "CODE") status) _ (one_within most (codes "CODE") status h) (λ child c.
    either most Any (nat_le code 65535) _ _ tt c.offset))

pub status_within : (most : ℕ) (parent : Item) → IsWithin most parent → Holds most Any (status_of parent)
unfolding status_of
status_within most parent h =
    bound most (IsWithin most) Any (one (codes "STATUS") parent) _ (one_within most (codes "STATUS") parent h) (λ status s. code_within most status s)
