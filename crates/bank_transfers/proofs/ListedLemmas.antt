-- Keys that list rows: with one row less or more, and what the order of the keys tells of the rows.
use Rattle.std.proofs.Common.{◌≡◌, ℕ, zero, suc, ◌<◌, ◌≤◌, Bool, true, false, not, cond, eqb, ◌&&◌, ◌||◌, List, [], ◌∷◌, filter, length, get_or, take, drop, Option, None, Some, refl, sym, ap, ◌∙◌, subst, arith}
use Rattle.std.proofs.lemmas.Bool.{eqb-true, eq-eqb, cond-true, cond-false}
use Rattle.std.specs.List.Sorted.{IsStrictlySortedBy}
use Rattle.std.specs.Option.{IfSome}
use Rattle.std.specs.Ordering.{eq_by_cmp, is_eq, ordering_then, int_cmp, nat_cmp}
use Rattle.std.specs.declared.cmp.Ordering.TheVariants.{Less, Equal, Greater}
use Rattle.std.proofs.lemmas.Map.Lookups.{exact_unsigned}
use Rattle.std.specs.declared.cmp.Ordering.{Ordering}
use Rattle.ofx_types.specs.declared.transfer.TransferRow.{TransferRow}
use Rattle.bank_transfers.specs.declared.waiting.DueTask.{DueTask}
use Rattle.bank_transfers.specs.declared.waiting.Made.{Made}
use Rattle.bank_transfers.specs.Order.{has, is_key, Lists}
use Rattle.bank_transfers.specs.TransfersView.{row_at}
use Rattle.bank_transfers.specs.Waiting.{task_order, made_order, task_key, made_key, AreListed}

-- ---- a list that a search parts in two

module _ {X : Type 0} (p : X → Bool) where
  pub first_part : (xs : List X) (i : ℕ) → ((k : ℕ) (d : X) → k < i → k < length xs → p (get_or xs k d) ≡ true) → ((k : ℕ) (d : X) → i ≤ k → k < length xs → p (get_or xs k d) ≡ false) → take i xs ≡ filter p xs
  first_part [] zero low high = refl
  first_part [] (suc i) low high = refl
  first_part (x ∷ xs) zero low high =
      first_part xs zero (λ k d less within. absurd (omega arith)) (λ k d more within. high (suc k) d (omega arith) (omega arith))
      ∙ sym (cond-false (p x) (x ∷ filter p xs) (filter p xs) (high 0 x (omega arith) (omega arith)))
  first_part (x ∷ xs) (suc i) low high =
      ap (λ (l : List X). x ∷ l) (first_part xs i (λ k d less within. low (suc k) d (omega arith) (omega arith)) (λ k d more within. high (suc k) d (omega arith) (omega arith)))
      ∙ sym (cond-true (p x) (x ∷ filter p xs) (filter p xs) (low 0 x (omega arith) (omega arith)))

  pub second_part : (xs : List X) (i : ℕ) → ((k : ℕ) (d : X) → k < i → k < length xs → p (get_or xs k d) ≡ true) → ((k : ℕ) (d : X) → i ≤ k → k < length xs → p (get_or xs k d) ≡ false) → drop i xs ≡ filter (λ x. not (p x)) xs
  second_part [] zero low high = refl
  second_part [] (suc i) low high = refl
  second_part (x ∷ xs) zero low high =
      ap (λ (l : List X). x ∷ l) (second_part xs zero (λ k d less within. absurd (omega arith)) (λ k d more within. high (suc k) d (omega arith) (omega arith)))
      ∙ sym (cond-true (not (p x)) (x ∷ filter (λ y. not (p y)) xs) (filter (λ y. not (p y)) xs) (ap not (high 0 x (omega arith) (omega arith))))
  second_part (x ∷ xs) (suc i) low high =
      second_part xs i (λ k d less within. low (suc k) d (omega arith) (omega arith)) (λ k d more within. high (suc k) d (omega arith) (omega arith))
      ∙ sym (cond-false (not (p x)) (x ∷ filter (λ y. not (p y)) xs) (filter (λ y. not (p y)) xs) (ap not (low 0 x (omega arith) (omega arith))))

-- ---- one row less or more

and_not : (e : Bool) → (e && not e) ≡ false
and_not true = refl
and_not false = refl

and_true : (h : Bool) → (h && true) ≡ h
and_true true = refl
and_true false = refl

or_false : (e : Bool) → (e || false) ≡ e
or_false true = refl
or_false false = refl

unless : (b : Bool) → (b ≡ true → ⊥) → b ≡ false
unless true never = absurd (never refl)
unless false never = refl

module _ {K : Type 0} (R : K → K → Ordering) (id_of : K → ℕ) (key_of : TransferRow → K) (same : (k l : K) → eq_by_cmp R k l ≡ true → id_of k ≡ id_of l) (its : (row : TransferRow) → id_of (key_of row) ≡ row.id) where
  -- the key of another row
  other_key : (k : K) (row : TransferRow) → eqb row.id (id_of k) ≡ false → eq_by_cmp R k (key_of row) ≡ false
  other_key k row apart = unless (eq_by_cmp R k (key_of row)) (λ is. let yes : eqb row.id (id_of k) ≡ true = eq-eqb row.id (id_of k) (sym (its row) ∙ sym (same k (key_of row) is)) in let no : true ≡ false = sym yes ∙ apart in cc)

  pub lists_same : (keys : List K) (found after : ℕ → Option TransferRow) → Lists R id_of key_of keys found → ((q : ℕ) → after q ≡ found q) → Lists R id_of key_of keys after
  lists_same keys found after lists is = record { sorted = lists.sorted; are = λ k. lists.are k ∙ ap (is_key R key_of k) (sym (is (id_of k))) }

  pub lists_less : (keys less : List K) (found after : ℕ → Option TransferRow) (row : TransferRow) → Lists R id_of key_of keys found → found row.id ≡ Some row → ((q : ℕ) → after q ≡ cond (eqb row.id q) None (found q)) → IsStrictlySortedBy R less → ((k : K) → has R less k ≡ (has R keys k && not (eq_by_cmp R k (key_of row)))) → Lists R id_of key_of less after
  lists_less keys less found after row lists there out sorted has_less = record {
    sorted = sorted;
    are = λ k. has_less k ∙ ap (λ b. b && not (eq_by_cmp R k (key_of row))) (lists.are k) ∙ parts k (eqb row.id (id_of k)) refl ∙ ap (is_key R key_of k) (sym (out (id_of k)));
  }
    where
      parts : (k : K) (b : Bool) → eqb row.id (id_of k) ≡ b → (is_key R key_of k (found (id_of k)) && not (eq_by_cmp R k (key_of row))) ≡ is_key R key_of k (cond (eqb row.id (id_of k)) None (found (id_of k)))
      parts k true is =
          ap (λ (f : Option TransferRow). is_key R key_of k f && not (eq_by_cmp R k (key_of row))) (ap found (sym (eqb-true row.id (id_of k) is)) ∙ there)
          ∙ and_not (eq_by_cmp R k (key_of row))
          ∙ sym (ap (λ b. is_key R key_of k (cond b None (found (id_of k)))) is)
      parts k false is =
          ap (λ b. is_key R key_of k (found (id_of k)) && not b) (other_key k row is) ∙ and_true (is_key R key_of k (found (id_of k)))
          ∙ sym (ap (λ b. is_key R key_of k (cond b None (found (id_of k)))) is)

  pub lists_more : (keys more : List K) (found after : ℕ → Option TransferRow) (row : TransferRow) → Lists R id_of key_of keys found → found row.id ≡ None → ((q : ℕ) → after q ≡ cond (eqb row.id q) (Some row) (found q)) → IsStrictlySortedBy R more → ((k : K) → has R more k ≡ (eq_by_cmp R k (key_of row) || has R keys k)) → Lists R id_of key_of more after
  lists_more keys more found after row lists new put sorted has_more = record {
    sorted = sorted;
    are = λ k. has_more k ∙ ap (λ b. eq_by_cmp R k (key_of row) || b) (lists.are k) ∙ parts k (eqb row.id (id_of k)) refl ∙ ap (is_key R key_of k) (sym (put (id_of k)));
  }
    where
      parts : (k : K) (b : Bool) → eqb row.id (id_of k) ≡ b → (eq_by_cmp R k (key_of row) || is_key R key_of k (found (id_of k))) ≡ is_key R key_of k (cond (eqb row.id (id_of k)) (Some row) (found (id_of k)))
      parts k true is =
          ap (λ (f : Option TransferRow). eq_by_cmp R k (key_of row) || is_key R key_of k f) (ap found (sym (eqb-true row.id (id_of k) is)) ∙ new)
          ∙ or_false (eq_by_cmp R k (key_of row))
          ∙ sym (ap (λ b. is_key R key_of k (cond b (Some row) (found (id_of k)))) is)
      parts k false is =
          ap (λ b. b || is_key R key_of k (found (id_of k))) (other_key k row is)
          ∙ sym (ap (λ b. is_key R key_of k (cond b (Some row) (found (id_of k)))) is)

-- ---- the orders

second_equal : (a b : Ordering) → is_eq (ordering_then a b) ≡ true → is_eq b ≡ true
second_equal Less b is = cc
second_equal Equal b is = is
second_equal Greater b is = cc

equal_is : (r : Ordering) → is_eq r ≡ true → r ≡ Equal
equal_is Less is = cc
equal_is Equal is = refl
equal_is Greater is = cc

same_number : (a b : Ordering) (m n : ℕ) → b ≡ nat_cmp m n → is_eq (ordering_then a b) ≡ true → m ≡ n
same_number a b m n cmp is = exact_unsigned m n (sym cmp ∙ equal_is b (second_equal a b is))

task_same : (k l : DueTask) → eq_by_cmp task_order k l ≡ true → k.id.0 ≡ l.id.0
task_same k l is = sym (same_number (int_cmp l.day.0.0 k.day.0.0) (nat_cmp l.id.0 k.id.0) l.id.0 k.id.0 refl is)

made_same : (k l : Made) → eq_by_cmp made_order k l ≡ true → k.id ≡ l.id
made_same k l is = same_number (nat_cmp l.model.0 k.model.0) (nat_cmp k.id l.id) k.id l.id refl is

-- ---- what lists rows

keyed_less : (found after : Option TransferRow) (id : ℕ) (b : Bool) → IfSome found (λ (row : TransferRow). row.id ≡ id) → after ≡ cond b None found → IfSome after (λ (row : TransferRow). row.id ≡ id)
keyed_less found after id true keyed is = subst (λ (f : Option TransferRow). IfSome f (λ (row : TransferRow). row.id ≡ id)) (sym is) tt
keyed_less found after id false keyed is = subst (λ (f : Option TransferRow). IfSome f (λ (row : TransferRow). row.id ≡ id)) (sym is) keyed

keyed_more : (found after : Option TransferRow) (id : ℕ) (row : TransferRow) (b : Bool) → eqb row.id id ≡ b → IfSome found (λ (r : TransferRow). r.id ≡ id) → after ≡ cond b (Some row) found → IfSome after (λ (r : TransferRow). r.id ≡ id)
keyed_more found after id row true same keyed is = subst (λ (f : Option TransferRow). IfSome f (λ (r : TransferRow). r.id ≡ id)) (sym is) (eqb-true row.id id same)
keyed_more found after id row false same keyed is = subst (λ (f : Option TransferRow). IfSome f (λ (r : TransferRow). r.id ≡ id)) (sym is) keyed

module _ (rows after : List (ℕ × TransferRow)) (tasks : List DueTask) (made : List Made) (listed : AreListed rows tasks made) where
  pub listed_same : ((q : ℕ) → row_at after q ≡ row_at rows q) → AreListed after tasks made
  listed_same is = record {
    keyed = λ id. subst (λ (f : Option TransferRow). IfSome f (λ (row : TransferRow). row.id ≡ id)) (sym (is id)) (listed.keyed id);
    by_day = lists_same task_order (λ (task : DueTask). task.id.0) task_key task_same (λ row. refl) tasks (row_at rows) (row_at after) listed.by_day is;
    by_model = lists_same made_order (λ (one : Made). one.id) made_key made_same (λ row. refl) made (row_at rows) (row_at after) listed.by_model is;
  }

  pub listed_less : (row : TransferRow) (less : List DueTask) (fewer : List Made) → row_at rows row.id ≡ Some row → ((q : ℕ) → row_at after q ≡ cond (eqb row.id q) None (row_at rows q))
      → IsStrictlySortedBy task_order less → ((k : DueTask) → has task_order less k ≡ (has task_order tasks k && not (eq_by_cmp task_order k (task_key row))))
      → IsStrictlySortedBy made_order fewer → ((k : Made) → has made_order fewer k ≡ (has made_order made k && not (eq_by_cmp made_order k (made_key row)))) → AreListed after less fewer
  listed_less row less fewer there out tasks_sorted tasks_less made_sorted made_less = record {
    keyed = λ id. keyed_less (row_at rows id) (row_at after id) id (eqb row.id id) (listed.keyed id) (out id);
    by_day = lists_less task_order (λ (task : DueTask). task.id.0) task_key task_same (λ r. refl) tasks less (row_at rows) (row_at after) row listed.by_day there out tasks_sorted tasks_less;
    by_model = lists_less made_order (λ (one : Made). one.id) made_key made_same (λ r. refl) made fewer (row_at rows) (row_at after) row listed.by_model there out made_sorted made_less;
  }

  pub listed_more : (row : TransferRow) (more : List DueTask) (others : List Made) → row_at rows row.id ≡ None → ((q : ℕ) → row_at after q ≡ cond (eqb row.id q) (Some row) (row_at rows q))
      → IsStrictlySortedBy task_order more → ((k : DueTask) → has task_order more k ≡ (eq_by_cmp task_order k (task_key row) || has task_order tasks k))
      → IsStrictlySortedBy made_order others → ((k : Made) → has made_order others k ≡ (eq_by_cmp made_order k (made_key row) || has made_order made k)) → AreListed after more others
  listed_more row more others new put tasks_sorted tasks_more made_sorted made_more = record {
    keyed = λ id. keyed_more (row_at rows id) (row_at after id) id row (eqb row.id id) refl (listed.keyed id) (put id);
    by_day = lists_more task_order (λ (task : DueTask). task.id.0) task_key task_same (λ r. refl) tasks more (row_at rows) (row_at after) row listed.by_day new put tasks_sorted tasks_more;
    by_model = lists_more made_order (λ (one : Made). one.id) made_key made_same (λ r. refl) made others (row_at rows) (row_at after) row listed.by_model new put made_sorted made_more;
  }

-- nothing lists no rows
pub listed_none : (rows : List (ℕ × TransferRow)) (tasks : List DueTask) (made : List Made) → rows ≡ [] → tasks ≡ [] → made ≡ [] → AreListed rows tasks made
unfolding IsStrictlySortedBy
listed_none rows tasks made no_rows no_tasks no_made =
    rw (no_rows, no_tasks, no_made) (record {
      keyed = λ id. tt;
      by_day = record { sorted = tt; are = λ k. refl };
      by_model = record { sorted = tt; are = λ k. refl };
    })
