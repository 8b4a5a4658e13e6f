-- A signon has its form exactly where it is read, and its faults have offsets.
use Rattle.std.proofs.Common.{◌≡◌, ℕ, List, Ok, codes, refl, subst, ◌∙◌}
use Rattle.ofx_types.specs.Nodes.{Item}
use Rattle.ofx_types.specs.FormWords.{text_in}
use Rattle.ofx_types.specs.RequestForm.{IsSignon}
use Rattle.ofx_types.specs.RequestReading.{signon_of}
use Rattle.ofx_tree.specs.Located.{IsWithin, Holds, Any}
use Rattle.ofx_tree.proofs.FormLaws.{bind_ok, bind_to, one_value, text_in_found, text_in_again}
use Rattle.ofx_tree.proofs.FormOffsets.{bound, text_within}

pub signon_again : (sonrq : Item) (user pass : List ℕ) → IsSignon sonrq user pass → signon_of sonrq ≡ Ok (user, pass)
unfolding signon_of
signon_again sonrq user pass s =
    bind_to _ _ user (text_in_again (codes "USERID") 32 sonrq user s.has_user)
    ∙ bind_to _ _ pass (text_in_again (codes "USERPASS") 64 sonrq pass s.has_pass)

pub signon_found : (sonrq : Item) (user pass : List ℕ) → signon_of sonrq ≡ Ok (user, pass) → IsSignon sonrq user pass
unfolding signon_of
signon_found sonrq user pass h =
    let name = bind_ok (text_in (codes "USERID") 32 sonrq) _ (user, pass) h in
    let word = bind_ok (text_in (codes "USERPASS") 64 sonrq) _ (user, pass) name.2 in
    let P : List ℕ × List ℕ → Type 0 = λ said. IsSignon sonrq said.0 said.1 in
    subst P (one_value _ _ (user, pass) refl word.2) (record {
      has_user = text_in_found (codes "USERID") 32 sonrq name.0 name.1;
      has_pass = text_in_found (codes "USERPASS") 64 sonrq word.0 word.1;
    })

pub signon_within : (most : ℕ) (sonrq : Item) → IsWithin most sonrq → Holds most Any (signon_of sonrq)
unfolding signon_of
signon_within most sonrq h =
    bound most Any Any (text_in (codes "USERID") 32 sonrq) _ (text_within most (codes "USERID") 32 sonrq h) (λ user _.
    bound most Any Any (text_in (codes "USERPASS") 64 sonrq) _ (text_within most (codes "USERPASS") 64 sonrq h) (λ pass _. tt))
