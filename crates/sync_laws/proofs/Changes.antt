-- What replies bring to the rows of an object.
use Rattle.std.proofs.Common.{◌≡◌, ℕ, Bool, true, false, cond, eqb, List, [], ◌∷◌, ◌++◌, map, fold, Option, None, Some, refl, sym, ap, ◌∙◌}
use Rattle.std.specs.Prelude.{option_to_list}
use Rattle.std.specs.List.{flat_map}
use Rattle.std.specs.Option.{option_map}
use Rattle.std.proofs.lemmas.Grind.{flat_map-append}
use Rattle.std.proofs.lemmas.List.Sums.{fold-append}
use Rattle.ofx_types.specs.declared.transfer.Change.{Change}
use Rattle.ofx_types.specs.declared.transfer.Change.TheVariants.{NewTransfer, SetTransfer, DropTransfer, NewModel, SetModel, DropModel, NewMail}
use Rattle.ofx_types.specs.declared.transfer.DeedReply.{DeedReply}
use Rattle.ofx_types.specs.declared.transfer.Family.{Family}
use Rattle.ofx_types.specs.declared.transfer.Family.TheVariants as families
use Rattle.ofx_types.specs.Wire.{wire_change, wire}
use Rattle.bank_model.specs.declared.entry.Entry.{Entry}
use Rattle.bank_model.specs.Sync.{reply_with_change, reply_of_entry}
use Rattle.bank_model.specs.Stores.{Row, changed, change_done, applied}

abbrev pub fold_entries : Family → List Row → List Entry → List Row
fold_entries family rows entries = fold (λ (held : List Row) (entry : Entry). changed family held entry.change) rows entries

pub fold_entries-append : (family : Family) (rows : List Row) (xs ys : List Entry) → fold_entries family rows (xs ++ ys) ≡ fold_entries family (fold_entries family rows xs) ys
fold_entries-append family rows xs ys = fold-append (λ (held : List Row) (entry : Entry). changed family held entry.change) rows xs ys

-- what the wire leaves out isn't looked at
wire_same : (family : Family) (rows : List Row) (change : Change) → changed family rows (wire_change change) ≡ changed family rows change
unfolding changed
wire_same family rows (NewTransfer row) = refl
wire_same families.Intra rows (SetTransfer row) = refl
wire_same families.RecIntra rows (SetTransfer row) = refl
wire_same families.BankMail rows (SetTransfer row) = refl
wire_same families.Mail rows (SetTransfer row) = refl
wire_same family rows (DropTransfer id) = refl
wire_same family rows (NewModel row) = refl
wire_same family rows (SetModel row pending) = refl
wire_same family rows (DropModel id pending) = refl
wire_same family rows (NewMail row) = refl

wired_option : (family : Family) (rows : List Row) (change : Option Change) → fold (changed family) rows (option_to_list (option_map wire_change change)) ≡ fold (changed family) rows (option_to_list change)
wired_option family rows None = refl
wired_option family rows (Some change) = wire_same family rows change

wired_done : (family : Family) (rows : List Row) (change : Option Change) (done : Bool) → fold (changed family) rows (cond done (option_to_list (option_map wire_change change)) []) ≡ fold (changed family) rows (cond done (option_to_list change) [])
wired_done family rows change true = wired_option family rows change
wired_done family rows change false = refl

pub applied_wired : (family : Family) (rows : List Row) (replies : List DeedReply) → applied family rows (map wire replies) ≡ applied family rows replies
applied_wired family rows [] = refl
applied_wired family rows (reply ∷ more) =
    fold-append (changed family) rows (change_done (wire reply)) (flat_map change_done (map wire more))
    ∙ ap (λ held. fold (changed family) held (flat_map change_done (map wire more))) (wired_done family rows reply.change (eqb reply.code 0))
    ∙ applied_wired family (fold (changed family) rows (change_done reply)) more
    ∙ sym (fold-append (changed family) rows (change_done reply) (flat_map change_done more))

pub applied-append : (family : Family) (rows : List Row) (first last : List DeedReply) → applied family rows (first ++ last) ≡ applied family (applied family rows first) last
applied-append family rows first last =
    ap (fold (changed family) rows) (flat_map-append change_done first last)
    ∙ fold-append (changed family) rows (flat_map change_done first) (flat_map change_done last)

-- the family that a reply names isn't looked at
pub applied_entries : (family reported : Family) (rows : List Row) (entries : List Entry) → applied family rows (map (reply_of_entry reported) entries) ≡ fold_entries family rows entries
applied_entries family reported rows [] = refl
applied_entries family reported rows (entry ∷ more) = applied_entries family reported (changed family rows entry.change) more

pub applied_changes : (family reported : Family) (trnuid : List ℕ) (rows : List Row) (changes : List Change) → applied family rows (map (reply_with_change reported trnuid) changes) ≡ fold (changed family) rows changes
applied_changes family reported trnuid rows [] = refl
applied_changes family reported trnuid rows (change ∷ more) = applied_changes family reported trnuid (changed family rows change) more
