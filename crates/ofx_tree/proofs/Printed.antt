-- The lines of a sheet spell elements and aggregates.
use Rattle.std.proofs.Common.{◌≡◌, ◌<◌, ◌-◌, ℕ, Bool, true, false, not, ◌||◌, ◌&&◌, List, [], ◌++◌, length, codes, nat_eq, refl, sym, inr, append_assoc, append-nil, length-append, subst, arith}
use Rattle.std.proofs.lemmas.Grind.{common_steps}
use Rattle.ofx_types.specs.Sheet.{tag, ended, escaped, end_line, start_line}
use Rattle.ofx_types.specs.Sheet as sheet
use Rattle.ofx_types.specs.TagNames.{is_one_of, element_names, aggregate_names}
use Rattle.ofx_types.specs.TagForm.{Tree, nothing, Spells, end_tag, IsElement, IsAggregate}
use Rattle.ofx_types.specs.TagForm as tags
use Rattle.ofx_tree.specs.PrintedForm.{written, ElementsReadBack, AggregatesReadBack, BodiesReadBack}
use Rattle.ofx_tree.proofs.Written.{value_of-written, written_bytes, written_black}

-- the line of an element before more bytes
pub element_line : (name value more : List ℕ) → 0 < length value → sheet.element name value ++ more ≡ tag name ++ (written value ++ more)
unfolding sheet.element
element_line name value more there =
    let full : nat_eq (length value) 0 ≡ false = grind (arith, common_steps) in rw full (simp append_assoc)

named_element : (always aggregate white : Bool) → aggregate ≡ false → white ≡ false → (always || (not aggregate && not white)) ≡ true
named_element true aggregate white a w = refl
named_element false aggregate white a w = rw (a, w) refl

pub elements : ElementsReadBack
elements size room offset name value more rest suffix named text there unclosed at spells =
    let line = element_line name value more there in
    let is : IsElement name (written value) [] more = record {
      has_name = named.has_name;
      is_one = named_element (is_one_of element_names name) (is_one_of aggregate_names name) _ named.is_free (written_black value text.is_trimmed there);
      is_value = written_bytes value text.is_clean;
      closes = inr (refl, unclosed);
    } in
    (([], more, is, at, line, spells), value_of-written value text.is_trimmed there)

-- the lines of an aggregate before more bytes
pub aggregate_lines : (name inner more : List ℕ) → sheet.aggregate name inner ++ more ≡ tag name ++ (ended [] ++ (inner ++ (end_line name ++ more)))
unfolding sheet.aggregate
aggregate_lines name inner more = simp append_assoc

end_of_lines : (name more : List ℕ) → end_line name ++ more ≡ end_tag name ++ (ended [] ++ more)
end_of_lines name more = append_assoc (end_tag name) (ended []) more

named_aggregate : (always aggregate : Bool) → always ≡ false → (always || (not aggregate && not true)) ≡ false
named_aggregate true aggregate a = a
named_aggregate false true a = refl
named_aggregate false false a = refl

pub aggregates : AggregatesReadBack
aggregates size room offset name inner more rest within suffix named space at inside spells =
    let is : IsAggregate name (ended []) (ended []) = record {
      has_name = named.has_name;
      is_one = named_aggregate (is_one_of element_names name) (is_one_of aggregate_names name) named.is_free;
      is_white = refl;
      is_white_after = refl;
    } in
    let Closed : List ℕ → Type 0 = λ bytes. Spells size (room - 1) (inner ++ (end_line name ++ more)) within bytes in
    (inner ++ (end_line name ++ more), ended [], more, is, space, at, aggregate_lines name inner more, subst Closed (end_of_lines name more) inside, spells)

body_lines : (white inner : List ℕ) (within : Tree)
    → Spells (length (white ++ sheet.aggregate (codes "OFX") inner)) 15 (inner ++ end_line (codes "OFX")) within (end_line (codes "OFX"))
    → Spells (length (white ++ sheet.aggregate (codes "OFX") inner)) 16 (sheet.aggregate (codes "OFX") inner ++ []) (tags.aggregate (length white) (codes "OFX") (ended []) within nothing) []
body_lines white inner within inside =
    aggregates _ 16 (length white) (codes "OFX") inner [] [] within nothing (record { has_name = refl; is_free = refl }) (omega arith)
    (rw append-nil (sym (length-append white (sheet.aggregate (codes "OFX") inner)))) inside refl

pub bodies : BodiesReadBack
bodies white inner within blank inside = record {
  white = white;
  offset = length white;
  text = ended [];
  inner = within;
  rest = sheet.aggregate (codes "OFX") inner;
  is_white = blank;
  spelled = refl;
  is_whole = refl;
  spells = rw append-nil at (body_lines white inner within inside);
}
