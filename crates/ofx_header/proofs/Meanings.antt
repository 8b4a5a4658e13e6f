-- What the values of a header stand for, against the rules and the spelling of its lines.
use Rattle.std.proofs.Common.{◌≡◌, ℕ, Bool, true, false, ◌||◌, cond, List, length, codes, Option, None, Some, is_some, is_none, nat_eq, refl, sym, ap, subst, ◌∙◌}
use Rattle.std.proofs.lemmas.Bool.Decides.{Decides-eqb}
use Rattle.std.proofs.lemmas.Slice.Eq.{bytes_eq-Decides}
use Rattle.std.specs.Str.{bytes_eq}
use Rattle.std.specs.Fmt.{decimal, digits}
use Rattle.ofx_types.specs.TextOutcome.{file_uid_fault}
use Rattle.ofx_types.specs.declared.text.TextFault.{TextFault}
use Rattle.ofx_types.specs.declared.text.TextFault.TheVariants.{Empty}
use Rattle.ofx_types.specs.HeaderForm.{is_version, is_charset, is_version_text, is_uid_value, IsUidValue}
use Rattle.ofx_types.proofs.Bytes.{bytes_eq_is, none_is}
use Rattle.ofx_header.specs.HeaderReading.{fixed_in, charset_in, version_in, uid_in}

-- ---- what a rule allows stands for something

some_where : {A : Type 0} (test : Bool) (x : A) → test ≡ is_some (cond test (Some x) None)
some_where true x = refl
some_where false x = refl

pub fixed_allowed : (value given : List ℕ) → bytes_eq given value ≡ is_some (fixed_in value given)
fixed_allowed value given = some_where (bytes_eq given value) tt

pub charset_allowed : (given : List ℕ) → is_charset given ≡ is_some (charset_in given)
charset_allowed given = some_where (is_charset given) tt

one_of_four : {A : Type 0} (a b c d : Bool) (w x y z : A) → (a || b || c || d) ≡ is_some (cond a (Some w) (cond b (Some x) (cond c (Some y) (cond d (Some z) None))))
one_of_four true b c d w x y z = refl
one_of_four false true c d w x y z = refl
one_of_four false false true d w x y z = refl
one_of_four false false false d w x y z = some_where d z

pub version_allowed : (given : List ℕ) → is_version_text given ≡ is_some (version_in given)
version_allowed given = one_of_four (bytes_eq given (codes "102")) (bytes_eq given (codes "103")) (bytes_eq given (codes "151")) (bytes_eq given (codes "160")) 102 103 151 160

one_of_two : {A : Type 0} (a b : Bool) (x y : A) → (a || b) ≡ is_some (cond a (Some x) (cond b (Some y) None))
one_of_two true b x y = refl
one_of_two false b x y = some_where b y

pub uid_allowed : (given : List ℕ) → is_uid_value given ≡ is_some (uid_in given)
uid_allowed given = one_of_two (bytes_eq given (codes "NONE")) (is_none (file_uid_fault given)) None (Some given)

-- ---- what a value stands for has that value, and only it

only : {A : Type 0} (b : Bool) (x y : A) → cond b (Some x) None ≡ Some y → (b ≡ true) × (x ≡ y)
only true x y h = (refl, cc)
only false x y h = cc

pub fixed_means : (value given : List ℕ) (x : Unit {0}) → fixed_in value given ≡ Some x → given ≡ value
fixed_means value given x h = bytes_eq_is given value (only (bytes_eq given value) tt x h).0

pub charset_means : (given : List ℕ) (x : Unit {0}) → charset_in given ≡ Some x → is_charset given ≡ true
charset_means given x h = (only (is_charset given) tt x h).0

-- a version and its text
pub record IsVersionText (given : List ℕ) (version : ℕ) : Type 0 where
  pub spelled : given ≡ decimal version
  pub is_known : is_version version ≡ true

text_102 : IsVersionText (codes "102") 102
unfolding digits
text_102 = record { spelled = refl; is_known = refl }

text_103 : IsVersionText (codes "103") 103
unfolding digits
text_103 = record { spelled = refl; is_known = refl }

text_151 : IsVersionText (codes "151") 151
unfolding digits
text_151 = record { spelled = refl; is_known = refl }

text_160 : IsVersionText (codes "160") 160
unfolding digits
text_160 = record { spelled = refl; is_known = refl }

-- a word is found, or one of those after it
word_or : (given word : List ℕ) (n version : ℕ) (found : Bool) (later : Option ℕ) → bytes_eq given word ≡ found → IsVersionText word n →
    (later ≡ Some version → IsVersionText given version) → cond found (Some n) later ≡ Some version → IsVersionText given version
word_or given word n version true later same is rest h =
    let version_is : n ≡ version = cc in rw (bytes_eq_is given word same, ← version_is) is
word_or given word n version false later same is rest h = rest h

pub version_means : (given : List ℕ) (version : ℕ) → version_in given ≡ Some version → IsVersionText given version
version_means given version h =
    word_or given (codes "102") 102 version _ _ refl text_102
    (word_or given (codes "103") 103 version _ _ refl text_103
    (word_or given (codes "151") 151 version _ _ refl text_151
    (word_or given (codes "160") 160 version _ _ refl text_160 (λ e. cc)))) h

either : {C : Type 0} (a b : Bool) → (a || b) ≡ true → (a ≡ true → C) → (b ≡ true → C) → C
either true b h first second = first refl
either false b h first second = second h

at_number : (P : ℕ → Type 0) (version n : ℕ) → P n → nat_eq version n ≡ true → P version
at_number P version n p e = subst P (sym ((Decides-eqb version n).0 e)) p

-- what holds of the four versions holds of each known one
pub of_known : (P : ℕ → Type 0) (version : ℕ) → P 102 → P 103 → P 151 → P 160 → is_version version ≡ true → P version
of_known P version p q r s h =
    either _ _ h (λ e. either _ _ e (λ f. either _ _ f (at_number P version 102 p) (at_number P version 103 q)) (at_number P version 151 r)) (at_number P version 160 s)

again_102 : version_in (decimal 102) ≡ Some 102
unfolding digits
again_102 = refl

again_103 : version_in (decimal 103) ≡ Some 103
unfolding digits
again_103 = refl

again_151 : version_in (decimal 151) ≡ Some 151
unfolding digits
again_151 = refl

again_160 : version_in (decimal 160) ≡ Some 160
unfolding digits
again_160 = refl

pub version_again : (version : ℕ) → is_version version ≡ true → version_in (decimal version) ≡ Some version
version_again version h = of_known (λ n. version_in (decimal n) ≡ Some n) version again_102 again_103 again_151 again_160 h

pub fixed_again : (value : List ℕ) → fixed_in value value ≡ Some tt
fixed_again value = rw ((bytes_eq-Decides value value).1 refl) refl

pub charset_again : (given : List ℕ) → is_charset given ≡ true → charset_in given ≡ Some tt
charset_again given h = rw h refl

uid_or : (given : List ℕ) (uid : Option (List ℕ)) (none clean : Bool) → bytes_eq given (codes "NONE") ≡ none → is_none (file_uid_fault given) ≡ clean →
    cond none (Some None) (cond clean (Some (Some given)) None) ≡ Some uid → IsUidValue given uid
uid_or given uid true clean named e h =
    let is : None ≡ uid = cc in subst (IsUidValue given) is (bytes_eq_is given (codes "NONE") named)
uid_or given uid false true named e h =
    let is : Some given ≡ uid = cc in subst (IsUidValue given) is (refl, none_is (file_uid_fault given) e)
uid_or given uid false false named e h = cc

pub uid_means : (given : List ℕ) (uid : Option (List ℕ)) → uid_in given ≡ Some uid → IsUidValue given uid
uid_means given uid h = uid_or given uid _ _ refl refl h

not_named : (empty named : Bool) (later : Option TextFault) → cond empty (Some Empty) (cond named (Some Empty) later) ≡ None → named ≡ false
not_named true named later h = cc
not_named false true later h = cc
not_named false false later h = refl

uid_itself : (uid : List ℕ) (none : Bool) (fault : Option TextFault) → none ≡ false → fault ≡ None → cond none (Some None) (cond (is_none fault) (Some (Some uid)) None) ≡ Some (Some uid)
uid_itself uid none fault named clean = rw (named, clean) refl

pub uid_again : (given : List ℕ) (uid : Option (List ℕ)) → IsUidValue given uid → uid_in given ≡ Some uid
uid_again given None h = rw h refl
uid_again given (Some uid) (same, clean) =
    ap uid_in same ∙ uid_itself uid (bytes_eq uid (codes "NONE")) (file_uid_fault uid) (not_named (nat_eq (length uid) 0) (bytes_eq uid (codes "NONE")) _ clean) clean
