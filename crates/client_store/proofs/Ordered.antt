-- Rows in their order: what stays in order, and where no row has an id.
use Rattle.std.proofs.Common.{◌≡◌, ◌≢◌, ℕ, suc, ◌<◌, ◌≤◌, Bool, true, false, not, cond, eqb, ltb, leb, List, [], ◌∷◌, ◌++◌, fold, Option, None, Some, refl, sym, ap, ◌∙◌, subst, arith}
use Rattle.std.specs.Prelude.{◌&&◌}
use Rattle.std.proofs.lemmas.Bool.{eqb-true, ne_eqb, eqb-false, ltb-true, ltb-false, leb-true, le-leb, and_parts}
use Rattle.ofx_types.specs.declared.transfer.Family.{Family}
use Rattle.ofx_types.specs.declared.transfer.Family.TheVariants.{Intra, RecIntra, BankMail, Mail}
use Rattle.bank_model.specs.Stores.{Row, transfer_row, model_row, mail_row, id_of, is_id, has_id, is_less, is_below, put, remove_row, model_if_named}
use Rattle.client_store.specs.RowForm.{is_of, is_from, may_follow, bound_after, IsRising}

pub no_true : false ≡ true → ⊥
no_true e = cc

pub no_false : true ≡ false → ⊥
no_false e = cc

-- ---- ids against a bound

-- what is below an id hasn't got it
pub not_here : (id : ℕ) (own : Option ℕ) → is_less id own ≡ true → is_id id own ≡ false
not_here id None less = refl
not_here id (Some own) less = ne_eqb own id (λ same. let lt = ltb-true own id less in omega (arith, lt, same))

-- An id is below what may stand after it,
pub over_own : (id bound : ℕ) (own : Option ℕ) → is_id id own ≡ true → id < bound_after bound own
over_own id bound None is = absurd (no_true is)
over_own id bound (Some own) is =
    let same = eqb-true own id is in
    let less : id < suc own = omega (arith, same) in less

-- and below what may stand after a greater one.
pub over_greater : (id bound : ℕ) (own : Option ℕ) → is_less id own ≡ false → id < bound_after bound own
over_greater id bound None less = absurd (no_false less)
over_greater id bound (Some own) less =
    let le = ltb-false own id less in
    let below : id < suc own = omega (arith, le) in below

pub not_before : (id bound : ℕ) (own : Option ℕ) → is_from bound own ≡ true → id < bound → is_id id own ≡ false
not_before id bound None from lt = refl
not_before id bound (Some own) from lt = ne_eqb own id (λ same. let le = leb-true bound own from in omega (arith, lt, le, same))

pub bound_grows : (bound : ℕ) (own : Option ℕ) → is_from bound own ≡ true → bound ≤ bound_after bound own
bound_grows bound None from = let same : bound ≤ bound = omega arith in same
bound_grows bound (Some own) from =
    let le = leb-true bound own from in
    let grown : bound ≤ suc own = omega (arith, le) in grown

-- ---- the two parts of what may follow

joined : (a b : Bool) → a ≡ true → b ≡ true → (a && b) ≡ true
joined a b first second = ap (λ x. x && b) first ∙ second

pub follows_kind : (family : Family) (bound : ℕ) (row : Row) → may_follow family bound row ≡ true → is_of family row ≡ true
follows_kind family bound row follows = (and_parts (is_of family row) (is_from bound (id_of row)) follows).0

pub follows_from : (family : Family) (bound : ℕ) (row : Row) → may_follow family bound row ≡ true → is_from bound (id_of row) ≡ true
follows_from family bound row follows = (and_parts (is_of family row) (is_from bound (id_of row)) follows).1

pub follows : (family : Family) (bound : ℕ) (row : Row) → is_of family row ≡ true → is_from bound (id_of row) ≡ true → may_follow family bound row ≡ true
follows family bound row kind from = joined (is_of family row) (is_from bound (id_of row)) kind from

-- ---- rows without an id

-- no row has the id
abbrev pub Lacks : ℕ → List Row → Type 0
Lacks id [] = Unit {0}
Lacks id (row ∷ more) = (has_id id row ≡ false) × Lacks id more

pub rising_lacks : (family : Family) (bound id : ℕ) (rows : List Row) → IsRising family bound rows → id < bound → Lacks id rows
rising_lacks family bound id [] rising lt = tt
rising_lacks family bound id (row ∷ more) rising lt =
    let from = follows_from family bound row rising.0 in
    let grows = bound_grows bound (id_of row) from in
    (not_before id bound (id_of row) from lt, rising_lacks family (bound_after bound (id_of row)) id more rising.1 (omega (arith, lt, grows)))

pub lacks_stay : (id : ℕ) (rows : List Row) → Lacks id rows → remove_row id rows ≡ rows
lacks_stay id [] lacks = refl
lacks_stay id (row ∷ more) lacks =
    ap (λ b. cond (not b) (row ∷ remove_row id more) (remove_row id more)) lacks.0 ∙ ap (λ l. row ∷ l) (lacks_stay id more lacks.1)

pub other_model : (id found : ℕ) (row : Row) → has_id id row ≡ false → model_if_named id found row ≡ found
other_model id found (transfer_row row) other = ap (λ b. cond b row.model found) other
other_model id found (model_row row) other = refl
other_model id found (mail_row row) other = refl

pub lacks_model : (id found : ℕ) (rows : List Row) → Lacks id rows → fold (model_if_named id) found rows ≡ found
lacks_model id found [] lacks = refl
lacks_model id found (row ∷ more) lacks =
    ap (λ f. fold (model_if_named id) f more) (other_model id found row lacks.0) ∙ lacks_model id found more lacks.1

-- ---- what stays in order

pub lower : (family : Family) (low bound : ℕ) (rows : List Row) → IsRising family bound rows → low ≤ bound → IsRising family low rows
lower family low bound [] rising le = tt
lower family low bound (row ∷ more) rising le = (
  follows family low row (follows_kind family bound row rising.0) (from_lower (id_of row) (follows_from family bound row rising.0)),
  lower family (bound_after low (id_of row)) (bound_after bound (id_of row)) more rising.1 (after_lower (id_of row)),
)
  where
    from_lower : (own : Option ℕ) → is_from bound own ≡ true → is_from low own ≡ true
    from_lower None from = refl
    from_lower (Some own) from = le-leb low own (let at = leb-true bound own from in omega (arith, at, le))

    after_lower : (own : Option ℕ) → bound_after low own ≤ bound_after bound own
    after_lower None = le
    after_lower (Some own) = let same : suc own ≤ suc own = omega arith in same

if_kept : (family : Family) (bound id : ℕ) (row : Row) (more : List Row) → may_follow family bound row ≡ true
    → IsRising family (bound_after bound (id_of row)) (remove_row id more) → (b : Bool)
    → IsRising family bound (cond (not b) (row ∷ remove_row id more) (remove_row id more))
if_kept family bound id row more may rest false = (may, rest)
if_kept family bound id row more may rest true =
    lower family bound (bound_after bound (id_of row)) (remove_row id more) rest (bound_grows bound (id_of row) (follows_from family bound row may))

pub out_rising : (family : Family) (bound id : ℕ) (rows : List Row) → IsRising family bound rows → IsRising family bound (remove_row id rows)
out_rising family bound id [] rising = tt
out_rising family bound id (row ∷ more) rising =
    if_kept family bound id row more rising.0 (out_rising family (bound_after bound (id_of row)) id more rising.1) (has_id id row)

module _ (family : Family) (id : ℕ) (row : Row) (kind : is_of family row ≡ true) (is : id_of row ≡ Some id) where
  follows_at : (bound : ℕ) → bound ≤ id → may_follow family bound row ≡ true
  follows_at bound le = follows family bound row kind (ap (is_from bound) is ∙ le-leb bound id le)

  after_row : (bound : ℕ) → bound_after bound (id_of row) ≡ suc id
  after_row bound = ap (bound_after bound) is

  replaced : (bound : ℕ) (own : Option ℕ) → is_id id own ≡ true → bound_after bound own ≡ suc id
  replaced bound None here = absurd (no_true here)
  replaced bound (Some own) here = ap (λ (n : ℕ). suc n) (eqb-true own id here)

  above_first : (bound : ℕ) (own : Option ℕ) → bound ≤ id → is_less id own ≡ true → bound_after bound own ≤ id
  above_first bound None le below = le
  above_first bound (Some own) le below =
      let lt = ltb-true own id below in
      let above : suc own ≤ id = omega (arith, lt) in above

  from_over : (own : Option ℕ) → is_id id own ≡ false → is_less id own ≡ false → is_from (suc id) own ≡ true
  from_over None here below = refl
  from_over (Some own) here below =
      let other = eqb-false own id here in
      let above = ltb-false own id below in
      le-leb (suc id) own (omega (arith, other, above))

  after_over : (bound : ℕ) (own : Option ℕ) (more : List Row) → is_less id own ≡ false → IsRising family (bound_after bound own) more
      → IsRising family (bound_after (suc id) own) more
  after_over bound None more below rest = absurd (no_false below)
  after_over bound (Some own) more below rest = rest

  put_before : (bound : ℕ) (first : Row) (more : List Row) → bound ≤ id → IsRising family bound (first ∷ more)
      → (bound_after bound (id_of first) ≤ id → IsRising family (bound_after bound (id_of first)) (put id row more))
      → (here below : Bool) → has_id id first ≡ here → is_below id first ≡ below
      → IsRising family bound (cond here (row ∷ more) (cond below (first ∷ put id row more) (row ∷ first ∷ more)))
  put_before bound first more le rising deeper true below is_here is_there = (
    follows_at bound le,
    subst (λ n. IsRising family n more) (replaced bound (id_of first) is_here ∙ sym (after_row bound)) rising.1,
  )
  put_before bound first more le rising deeper false true is_here is_there = (rising.0, deeper (above_first bound (id_of first) le is_there))
  put_before bound first more le rising deeper false false is_here is_there = (
    follows_at bound le,
    subst (λ n. IsRising family n (first ∷ more)) (sym (after_row bound)) (
      follows family (suc id) first (follows_kind family bound first rising.0) (from_over (id_of first) is_here is_there),
      after_over bound (id_of first) more is_there rising.1,
    ),
  )

  pub put_rising : (bound : ℕ) (rows : List Row) → bound ≤ id → IsRising family bound rows → IsRising family bound (put id row rows)
  unfolding put
  put_rising bound [] le rising = (follows_at bound le, tt)
  put_rising bound (first ∷ more) le rising =
      put_before bound first more le rising (λ above. put_rising (bound_after bound (id_of first)) more above rising.1)
      (has_id id first) (is_below id first) refl refl
