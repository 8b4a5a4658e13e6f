-- Leaves that a form asks for: what is printed of a value is lawful, and reading it gives the value.
use Rattle.std.proofs.Common.{◌≡◌, ℕ, ◌<◌, ◌≤◌, ◌^◌, inr, Bool, true, false, List, [], ◌∷◌, length, reverse, position, None, Some, Ok, refl, sym, ap, subst, ◌∙◌, arith, ℤ, unsigned_abs}
use Rattle.std.proofs.lemmas.Grind.{common_steps}
use Rattle.std.proofs.lemmas.List.{reverse-append, reverse-reverse}
use Rattle.std.proofs.lemmas.Fmt.{decimal_nonempty, length-decimal-le}
use Rattle.std.specs.Prelude.{nat_lt}
use Rattle.std.specs.Int.{is_negative}
use Rattle.std.specs.Fmt.{decimal}
use Rattle.std.specs.List.{list_any}
use Rattle.ofx_types.specs.TextRules.{is_white, trim_start, trim_end, trimmed, is_refused_in_text, IsText}
use Rattle.ofx_types.specs.TextOutcome.{text_fault}
use Rattle.ofx_types.specs.ValueForm.{value_of, Represents}
use Rattle.ofx_types.specs.Calendar.{IsMoment}
use Rattle.ofx_types.specs.AmountForm.{IsAmount, amount_text}
use Rattle.ofx_types.specs.DateForm.{IsDate, moment_text}
use Rattle.ofx_types.specs.NumberReading.{number_at}
use Rattle.ofx_types.specs.Nodes.{Item}
use Rattle.ofx_types.specs.FormWords.{IsOnly, text_in, flag_word, flag_in, IsFlagIn, maybe_flag_in, amount_in, IsMomentIn, moment_in, maybe_moment_in, number_in}
use Rattle.ofx_types.specs.declared.number.Cents.{Cents}
use Rattle.ofx_types.specs.declared.number.Moment.{Moment}
use Rattle.ofx_values.proofs.PrintedLemmas.{amount_printed, moment_printed, number_printed}
use Rattle.ofx_values.proofs.ShortForms.{date_length}
use Rattle.ofx_tape.proofs.Runs.{none_from_avoids}
use Rattle.ofx_tree.specs.PrintedForm.{IsElementName, written}
use Rattle.ofx_tree.specs.Documents.{IsLeaf, leaf_item}
use Rattle.ofx_tree.proofs.FormLaws.{text_in_again, flag_in_again, maybe_flag_in_again, amount_in_again, moment_in_again, maybe_moment_in_again, number_in_again}
use Rattle.ofx_tree.proofs.Plain.{IsPlain, IsPlain-append, amount_plain, amount_some, moment_plain, decimal_plain}
use Rattle.ofx_tree.proofs.Written.{value_of-written}

-- ---- plain bytes are a text

plain_visible : (b : ℕ) → 38 < b → b < 60 → (is_white b ≡ false) × (is_refused_in_text b ≡ false)
plain_visible b low high = (grind (arith, common_steps), grind (arith, common_steps))

plain_start : (bytes : List ℕ) → IsPlain bytes → trim_start bytes ≡ bytes
plain_start [] p = refl
plain_start (b ∷ bytes) (low, high, p) = rw ((plain_visible b low high).0) refl

plain_reverse : (bytes : List ℕ) → IsPlain bytes → IsPlain (reverse bytes)
plain_reverse [] p = tt
plain_reverse (b ∷ bytes) (low, high, p) =
    rw (reverse-append (b ∷ []) bytes) (IsPlain-append (reverse bytes) (b ∷ []) (plain_reverse bytes p) (low, high, tt))

plain_trimmed : (bytes : List ℕ) → IsPlain bytes → trimmed bytes ≡ bytes
plain_trimmed bytes p =
    ap trim_end (plain_start bytes p) ∙ ap reverse (plain_start (reverse bytes) (plain_reverse bytes p)) ∙ reverse-reverse bytes

plain_allowed : (bytes : List ℕ) → IsPlain bytes → list_any is_refused_in_text bytes ≡ false
plain_allowed [] p = refl
plain_allowed (b ∷ bytes) (low, high, p) = rw ((plain_visible b low high).1, plain_allowed bytes p) refl

plain_text : (bytes : List ℕ) → IsPlain bytes → length (trimmed bytes) < 2 ^ 32 → IsText bytes
plain_text bytes p short = record {
  is_trimmed = plain_trimmed bytes p;
  is_clean = none_from_avoids is_refused_in_text bytes (plain_allowed bytes p);
  is_short = subst (λ (t : List ℕ). length t < 2 ^ 32) (plain_trimmed bytes p) short;
}

-- ---- lawful leaves

amount_is_plain : (c : ℤ) → unsigned_abs c ≤ 9999999999999 → IsPlain (amount_text c)
unfolding amount_text
amount_is_plain c h = amount_plain (is_negative c) (unsigned_abs c) (omega arith)

pub amount_leaf : (name : List ℕ) (c : ℤ) → IsElementName name → unsigned_abs c ≤ 9999999999999 → IsLeaf name (amount_text c)
amount_leaf name c named h = record {
  has_name = named;
  is_text = plain_text (amount_text c) (amount_is_plain c h) (omega (arith, (amount_printed c h).is_short));
  is_there = amount_some c;
}

moment_some : (m : ℤ) → 0 < length (moment_text m)
unfolding moment_text
moment_some m = omega arith

pub moment_leaf : (name : List ℕ) (m : ℤ) → IsElementName name → IsMoment m → IsLeaf name (moment_text m)
moment_leaf name m named h = record {
  has_name = named;
  is_text = plain_text (moment_text m) (moment_plain m h) (omega (arith, date_length (moment_text m) m (moment_printed m h)));
  is_there = moment_some m;
}

pub number_leaf : (name : List ℕ) (n : ℕ) → IsElementName name → n < 2 ^ 64 → IsLeaf name (decimal n)
number_leaf name n named h =
    let plain = decimal_plain n h in
    let short : length (trimmed (decimal n)) < 2 ^ 32 = rw (plain_trimmed (decimal n) plain) (omega (arith, length-decimal-le 20 n (omega arith) (omega arith) h)) in
    record { has_name = named; is_text = plain_text (decimal n) plain short; is_there = decimal_nonempty n h }

pub flag_leaf : (name : List ℕ) (flag : Bool) → IsElementName name → IsLeaf name (flag_word flag)
flag_leaf name true named = record { has_name = named; is_text = record { is_trimmed = refl; is_clean = refl; is_short = omega arith }; is_there = omega arith }
flag_leaf name false named = record { has_name = named; is_text = record { is_trimmed = refl; is_clean = refl; is_short = omega arith }; is_there = omega arith }

-- ---- what reading them gives

leaf_value : (name value : List ℕ) → IsLeaf name value → value_of (written value) ≡ value
leaf_value name value is = value_of-written value is.is_text.is_trimmed is.is_there

no_fault : (most : ℕ) (text : List ℕ) → length text ≤ most → position is_refused_in_text text ≡ None → text_fault is_refused_in_text most text ≡ None
no_fault most text short clean =
    let within : nat_lt most (length text) ≡ false = grind (arith, common_steps) in rw (within, clean) refl

pub holds_of_leaf : (name value : List ℕ) (most : ℕ) → IsLeaf name value → length value ≤ most → Represents most (written value) value
holds_of_leaf name value most is short = record {
  value = sym (leaf_value name value is);
  is_there = is.is_there;
  is_faultless = no_fault most value short is.is_text.is_clean;
}

pub text_of_leaf : (name value : List ℕ) (most offset index : ℕ) (parent : Item) → IsLeaf name value → length value ≤ most
    → IsOnly name parent (leaf_item offset index name value) → text_in name most parent ≡ Ok value
text_of_leaf name value most offset index parent is short only =
    text_in_again name most parent value (record {
      child = leaf_item offset index name value;
      is_only = only;
      holds = holds_of_leaf name value most is short;
    })

-- What is printed of a flag is read as that flag.
pub is_flag_of_leaf : (name : List ℕ) (flag : Bool) (offset index : ℕ) (parent : Item) → IsElementName name
    → IsOnly name parent (leaf_item offset index name (flag_word flag)) → IsFlagIn name parent flag
is_flag_of_leaf name flag offset index parent named only = record {
  child = leaf_item offset index name (flag_word flag);
  is_only = only;
  holds = leaf_value name (flag_word flag) (flag_leaf name flag named);
}

pub flag_of_leaf : (name : List ℕ) (flag : Bool) (offset index : ℕ) (parent : Item) → IsElementName name
    → IsOnly name parent (leaf_item offset index name (flag_word flag)) → flag_in name parent ≡ Ok flag
flag_of_leaf name flag offset index parent named only = flag_in_again name parent flag (is_flag_of_leaf name flag offset index parent named only)

pub maybe_flag_of_leaf : (name : List ℕ) (flag : Bool) (offset index : ℕ) (parent : Item) → IsElementName name
    → IsOnly name parent (leaf_item offset index name (flag_word flag)) → maybe_flag_in name parent ≡ Ok flag
maybe_flag_of_leaf name flag offset index parent named only =
    maybe_flag_in_again name parent flag (inr (is_flag_of_leaf name flag offset index parent named only))

pub amount_of_leaf : (name : List ℕ) (amount : Cents) (offset index : ℕ) (parent : Item) → IsElementName name → unsigned_abs amount.0 ≤ 9999999999999
    → IsOnly name parent (leaf_item offset index name (amount_text amount.0)) → amount_in name parent ≡ Ok amount
amount_of_leaf name amount offset index parent named h only =
    amount_in_again name parent amount (record {
      child = leaf_item offset index name (amount_text amount.0);
      is_only = only;
      holds = subst (λ (t : List ℕ). IsAmount t amount.0) (sym (leaf_value name (amount_text amount.0) (amount_leaf name amount.0 named h))) (amount_printed amount.0 h);
    })

is_moment_of_leaf : (name : List ℕ) (moment : Moment) (offset index : ℕ) (parent : Item) → IsElementName name → IsMoment moment.0
    → IsOnly name parent (leaf_item offset index name (moment_text moment.0)) → IsMomentIn name parent moment
is_moment_of_leaf name moment offset index parent named h only = record {
  child = leaf_item offset index name (moment_text moment.0);
  is_only = only;
  holds = subst (λ (t : List ℕ). IsDate t moment.0) (sym (leaf_value name (moment_text moment.0) (moment_leaf name moment.0 named h))) (moment_printed moment.0 h);
}

pub moment_of_leaf : (name : List ℕ) (moment : Moment) (offset index : ℕ) (parent : Item) → IsElementName name → IsMoment moment.0
    → IsOnly name parent (leaf_item offset index name (moment_text moment.0)) → moment_in name parent ≡ Ok moment
moment_of_leaf name moment offset index parent named h only =
    moment_in_again name parent moment (is_moment_of_leaf name moment offset index parent named h only)

pub maybe_moment_of_leaf : (name : List ℕ) (moment : Moment) (offset index : ℕ) (parent : Item) → IsElementName name → IsMoment moment.0
    → IsOnly name parent (leaf_item offset index name (moment_text moment.0)) → maybe_moment_in name parent ≡ Ok (Some moment)
maybe_moment_of_leaf name moment offset index parent named h only =
    maybe_moment_in_again name parent (Some moment) (is_moment_of_leaf name moment offset index parent named h only)

pub number_of_leaf : (name : List ℕ) (most number offset index : ℕ) (parent : Item) → IsElementName name → 0 < most → number < 10 ^ most → number < 2 ^ 64
    → IsOnly name parent (leaf_item offset index name (decimal number)) → number_in name most parent ≡ Ok number
number_of_leaf name most number offset index parent named some room h only =
    number_in_again name most parent number (record {
      child = leaf_item offset index name (decimal number);
      is_only = only;
      holds = ap (number_at most) (leaf_value name (decimal number) (number_leaf name number named h)) ∙ number_printed most number some room h;
    })
