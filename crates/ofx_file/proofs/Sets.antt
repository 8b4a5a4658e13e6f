-- Message sets as documents: they are written where something is in them, and their messages are read back.
use Rattle.std.proofs.Common.{◌≡◌, ℕ, ◌+◌, ◌-◌, ◌<◌, Bool, true, false, cond, filter, nat_eq, List, [], ◌∷◌, ◌++◌, length, map, drop, Option, None, Some, Result, Ok, codes, refl, sym, ap, subst, ◌∙◌, append_assoc, arith}
use Rattle.std.proofs.lemmas.List.{length-append, drop_at}
use Rattle.std.proofs.lemmas.Grind.{common_steps}
use Rattle.std.specs.List.{flat_map, AllByRecursion}
use Rattle.std.specs.Fmt.{decimal}
use Rattle.ofx_types.specs.Sheet.{header_line, uid_text, header_text, aggregate, aggregate_of_some, start_line}
use Rattle.ofx_types.specs.TagNames.{is_one_of}
use Rattle.ofx_types.specs.Nodes.{Item, AreNodesOf, children}
use Rattle.ofx_types.specs.FormWords.{if_any}
use Rattle.ofx_types.specs.MessageReading.{messages_in}
use Rattle.ofx_types.specs.FileForm.{HasBody}
use Rattle.ofx_types.specs.declared.fault.TreeFault.{TreeFault}
use Rattle.ofx_types.proofs.Bytes.{bytes_eq_self}
use Rattle.ofx_tree.specs.Documents.{Documents, branch, printed, AreLawful, IsBranch, branch_item, empty}
use Rattle.ofx_tree.proofs.DocumentItems.{children_of_branch}
use Rattle.ofx_tree.proofs.DocumentTrees.{documents_of_body}
use Rattle.msg_sync.specs.Listing.{forms_of, branches}
use Rattle.msg_sync.specs.SyncSteps.{is_name_of}
use Rattle.msg_sync.proofs.Forms.{wanted, branches_printed, branches_lawful, branches_read}
use Rattle.msg_sync.proofs.Skipped.{Skips, Everywhere, branch_skipped, IsNone}
use Rattle.ofx_file.proofs.InSets.{messages_are}

-- In nothing nothing is wanted.
pub no_more : (is_wanted : List ℕ → Bool) → Everywhere (IsNone is_wanted) empty
no_more is_wanted offset index = refl

-- ---- a message set that may be left out

-- It is left out where there is nothing in it.
abbrev pub maybe_set : {X : Type 0} → List ℕ → (X → List ℕ) → (X → Documents) → List X → Documents → Documents
maybe_set name name_of inner_of [] suffix = suffix
maybe_set name name_of inner_of (x ∷ xs) suffix = branch name (branches name_of inner_of (x ∷ xs)) suffix

pub set_printed : {X : Type 0} (name : List ℕ) (name_of : X → List ℕ) (inner_of : X → Documents) (text_of : X → List ℕ) →
    ((x : X) (suffix : Documents) → printed (branch (name_of x) (inner_of x) suffix) ≡ text_of x ++ printed suffix) →
    ((x : X) (rest : List ℕ) → 0 < length (text_of x ++ rest)) → (xs : List X) (suffix : Documents) →
    printed (maybe_set name name_of inner_of xs suffix) ≡ aggregate_of_some name (flat_map text_of xs) ++ printed suffix
unfolding aggregate_of_some
set_printed name name_of inner_of text_of each there [] suffix = refl
set_printed name name_of inner_of text_of each there (x ∷ xs) suffix =
    let some : nat_eq (length (flat_map text_of (x ∷ xs))) 0 ≡ false = not_none (length (flat_map text_of (x ∷ xs))) (there x (flat_map text_of xs)) in
    ap (λ (text : List ℕ). aggregate name text ++ printed suffix) (branches_printed name_of inner_of text_of each (x ∷ xs))
    ∙ ap (λ (b : Bool). cond b [] (aggregate name (flat_map text_of (x ∷ xs))) ++ printed suffix) (sym some)
  where
    not_none : (n : ℕ) → 0 < n → nat_eq n 0 ≡ false
    not_none n h = grind (arith, common_steps)

pub set_lawful : {X : Type 0} (room : ℕ) (IsSound : X → Type 0) (name : List ℕ) (name_of : X → List ℕ) (inner_of : X → Documents) → IsBranch name → 0 < room →
    ((x : X) (suffix : Documents) → IsSound x → AreLawful (room - 1) suffix → AreLawful (room - 1) (branch (name_of x) (inner_of x) suffix)) →
    (xs : List X) (suffix : Documents) → AllByRecursion IsSound xs → AreLawful room suffix → AreLawful room (maybe_set name name_of inner_of xs suffix)
set_lawful room IsSound name name_of inner_of is some each [] suffix h more = more
set_lawful room IsSound name name_of inner_of is some each (x ∷ xs) suffix h more =
    (is, some, branches_lawful (room - 1) IsSound name_of inner_of each (x ∷ xs) h, more)

pub set_skipped : {X : Type 0} (Holds : List Item → Type 0) (is_wanted : List ℕ → Bool) → Skips Holds is_wanted → (name : List ℕ) (name_of : X → List ℕ) (inner_of : X → Documents) →
    is_wanted name ≡ false → (xs : List X) (suffix : Documents) → Everywhere Holds suffix → Everywhere Holds (maybe_set name name_of inner_of xs suffix)
set_skipped Holds is_wanted skips name name_of inner_of other [] suffix h = h
set_skipped Holds is_wanted skips name name_of inner_of other (x ∷ xs) suffix h =
    branch_skipped Holds is_wanted skips name (branches name_of inner_of (x ∷ xs)) suffix other h

-- Among the items the message set is found, and these messages are read in it.
abbrev pub HasSet : {M : Type 0} → (Item → Result M TreeFault) → List ℕ → List (List ℕ) → List M → List Item → Type 0
HasSet read name names messages items =
    (found : Option Item) × (if_any (wanted (is_name_of name) items) ≡ Ok found) × (messages_in read names found ≡ Ok messages)

pub set_skips : {M : Type 0} (read : Item → Result M TreeFault) (name : List ℕ) (names : List (List ℕ)) (messages : List M) → Skips (HasSet read name names messages) (is_name_of name)
set_skips read name names messages item items other h = (h.0, rw other h.1, h.2)

pub set_back : {X M : Type 0} (IsSound : X → Type 0) (name_of : X → List ℕ) (inner_of : X → Documents) (read : Item → Result M TreeFault) (value_of : X → M) (name : List ℕ) (names : List (List ℕ)) →
    ((x : X) → IsSound x → is_one_of names (name_of x) ≡ true) →
    ((offset index : ℕ) (x : X) → IsSound x → read (branch_item offset index (name_of x) (inner_of x)) ≡ Ok (value_of x)) →
    (xs : List X) (suffix : Documents) → AllByRecursion IsSound xs → Everywhere (λ items. wanted (is_name_of name) items ≡ []) suffix →
    Everywhere (HasSet read name names (map value_of xs)) (maybe_set name name_of inner_of xs suffix)
set_back IsSound name_of inner_of read value_of name names named reads [] suffix h none offset index = (None, ap if_any (none offset index), refl)
set_back IsSound name_of inner_of read value_of name names named reads (x ∷ xs) suffix h none offset index =
    let inner = branches name_of inner_of (x ∷ xs) in
    let set = branch_item offset index name inner in
    let own : is_name_of name name ≡ true = bytes_eq_self name in (
      Some set,
      rw own (ap (λ (more : List Item). if_any (set ∷ more)) (none _ _)),
      messages_are read names (children set)
          ∙ ap (forms_of read (is_one_of names)) (children_of_branch offset index name inner)
          ∙ branches_read IsSound name_of inner_of read (is_one_of names) value_of named reads (offset + length (start_line name)) (index + 1) (x ∷ xs) h,
    )

-- ---- those of a message set

kept_next : {X : Type 0} (IsSound : X → Type 0) (b : Bool) (x : X) (xs : List X) → IsSound x → AllByRecursion IsSound xs → AllByRecursion IsSound (cond b (x ∷ xs) xs)
kept_next IsSound true x xs h i = (h, i)
kept_next IsSound false x xs h i = i

pub kept_sound : {X : Type 0} (IsSound : X → Type 0) (passes : X → Bool) (xs : List X) → AllByRecursion IsSound xs → AllByRecursion IsSound (filter passes xs)
kept_sound IsSound passes [] h = tt
kept_sound IsSound passes (x ∷ xs) (h, more) = kept_next IsSound (passes x) x (filter passes xs) h (kept_sound IsSound passes xs more)

-- what holds of each and passes
passed_next : {X : Type 0} (IsSound : X → Type 0) (passes : X → Bool) (b : Bool) (x : X) (xs : List X) → passes x ≡ b → IsSound x →
    AllByRecursion (λ (y : X). IsSound y × (passes y ≡ true)) xs → AllByRecursion (λ (y : X). IsSound y × (passes y ≡ true)) (cond b (x ∷ xs) xs)
passed_next IsSound passes true x xs is h i = ((h, is), i)
passed_next IsSound passes false x xs is h i = i

pub passed_sound : {X : Type 0} (IsSound : X → Type 0) (passes : X → Bool) (xs : List X) → AllByRecursion IsSound xs →
    AllByRecursion (λ (x : X). IsSound x × (passes x ≡ true)) (filter passes xs)
passed_sound IsSound passes [] h = tt
passed_sound IsSound passes (x ∷ xs) (h, more) = passed_next IsSound passes (passes x) x (filter passes xs) refl h (passed_sound IsSound passes xs more)

-- ---- the header in front

nine_lines : (a b c d e f g h i w : List ℕ) →
    a ++ (b ++ (c ++ (d ++ (e ++ (f ++ (g ++ (h ++ (i ++ w)))))))) ≡ (a ++ (b ++ (c ++ (d ++ (e ++ (f ++ (g ++ (h ++ i)))))))) ++ w
nine_lines a b c d e f g h i w = simp append_assoc

-- a header ends in an empty line
ends_empty : (version : ℕ) (older newer : Option (List ℕ)) → (prefix : List ℕ) × (header_text version older newer ≡ prefix ++ 13 ∷ 10 ∷ [])
unfolding header_text
ends_empty version older newer = (
  header_line (codes "OFXHEADER") (codes "100")
      ++ (header_line (codes "DATA") (codes "OFXSGML")
      ++ (header_line (codes "VERSION") (decimal version)
      ++ (header_line (codes "SECURITY") (codes "NONE")
      ++ (header_line (codes "ENCODING") (codes "USASCII")
      ++ (header_line (codes "CHARSET") (codes "1252")
      ++ (header_line (codes "COMPRESSION") (codes "NONE")
      ++ (header_line (codes "OLDFILEUID") (uid_text older) ++ header_line (codes "NEWFILEUID") (uid_text newer)))))))),
  nine_lines (header_line (codes "OFXHEADER") (codes "100")) (header_line (codes "DATA") (codes "OFXSGML")) (header_line (codes "VERSION") (decimal version))
      (header_line (codes "SECURITY") (codes "NONE")) (header_line (codes "ENCODING") (codes "USASCII")) (header_line (codes "CHARSET") (codes "1252"))
      (header_line (codes "COMPRESSION") (codes "NONE")) (header_line (codes "OLDFILEUID") (uid_text older)) (header_line (codes "NEWFILEUID") (uid_text newer)) (13 ∷ 10 ∷ []),
)

after_prefix : (prefix white body : List ℕ) → length white ≡ 2 → drop (length (prefix ++ white) - 2) ((prefix ++ white) ++ body) ≡ white ++ body
after_prefix prefix white body two =
    let size : length (prefix ++ white) - 2 ≡ length prefix = omega (arith, length-append prefix white) in
    rw (size, append_assoc prefix white body) (drop_at prefix (white ++ body) (length prefix) refl)

after_header : (text prefix body : List ℕ) → text ≡ prefix ++ 13 ∷ 10 ∷ [] → drop (length text - 2) (text ++ body) ≡ (13 ∷ 10 ∷ []) ++ body
after_header text prefix body is = rw is (after_prefix prefix (13 ∷ 10 ∷ []) body refl)

-- Documents between the tags of OFX after a header are a body.
pub written_body : (version : ℕ) (older newer : Option (List ℕ)) (inner : Documents) → AreLawful 15 inner →
    let text = header_text version older newer in
    let ofx = branch_item 2 0 (codes "OFX") inner in
    HasBody (text ++ aggregate (codes "OFX") (printed inner)) (length text - 2) (ofx.node ∷ ofx.inner) ofx
written_body version older newer inner lawful =
    let text = header_text version older newer in
    let ofx = branch_item 2 0 (codes "OFX") inner in
    let body = aggregate (codes "OFX") (printed inner) in
    let ends = ends_empty version older newer in
    let P : List ℕ → Type 0 = λ bytes. AreNodesOf bytes (ofx.node ∷ ofx.inner) in
    record {
      are_nodes = subst P (sym (after_header text ends.0 body ends.1)) (documents_of_body (13 ∷ 10 ∷ []) inner refl lawful);
      is_root = (ofx.inner, refl, refl, refl);
    }
