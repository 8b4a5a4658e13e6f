-- What holds of a reader between two tags, and what reading a tag answers.
use Rattle.std.specs.Prelude.{◌≡◌, ℕ, ◌+◌, ◌≤◌, ◌<◌, ◌==◌, ◌&&◌, Bool, true, false, not, List, [], ◌++◌, length, take, reverse, map, codes, Option, None, option_map, Result, Ok, Err}
use Rattle.std.specs.Borrow.{Bor}
use Rattle.std.specs.Str.{bytes_eq}
use Rattle.ofx_types.specs.Sheet.{tag}
use Rattle.ofx_types.specs.TagNames.{is_name}
use Rattle.ofx_types.specs.Nodes.{TagNode}
use Rattle.ofx_types.specs.declared.fault.TapeFault.{TapeFault}
use Rattle.ofx_types.specs.declared.fault.TapeFault.TheVariants.{Tag, Mismatch}
use Rattle.ofx_tape.specs.NodeView.{node_view}
use Rattle.ofx_tape.specs.OpenAggregates.{is_at_tag, IsReading}
use Rattle.ofx_tape.specs.TapeOutcome.{IsTapeRefusal}
use Rattle.ofx_tape.specs.declared.reader.Reader.{Reader}

abbrev pub nodes_in : Reader → List TagNode
nodes_in r = map node_view r.nodes.items

-- the indices of the open aggregates' nodes, the innermost first
abbrev pub indices_in : Reader → List ℕ
indices_in r = reverse (take r.depth r.open)

abbrev pub element_in : Reader → Option (List ℕ)
element_in r = option_map (λ name. name.now) r.element

-- A reader has read its body up to this rest, which is empty or begins with a `<`.
pub record IsRead (r : Reader) (rest : List ℕ) : Type 0 where
  pub names : List (List ℕ)
  pub reading : IsReading r.body.now 0 (nodes_in r) names (indices_in r) r.has_ended (element_in r) rest
  pub is_deep : r.depth ≤ 16
  pub is_within : length rest ≤ length r.body.now
  pub is_at_tag : is_at_tag rest ≡ true

-- A reader that has read nothing.
pub record IsFresh (body : List ℕ) (r : Reader) : Type 0 where
  pub is_of_body : r.body.now ≡ body
  pub no_nodes : nodes_in r ≡ []
  pub none_open : r.depth ≡ 0
  pub not_ended : r.has_ended ≡ false
  pub no_element : element_in r ≡ None

-- What is read goes on to a later tag, or the fault is that of the body.
abbrev pub Advances : Reader → Reader → List ℕ → Result (Bor (List ℕ)) TapeFault → Type 0
Advances old new rest (Ok next) = (new.body ≡ old.body) × IsRead new next.now × (length next.now < length rest)
Advances old new rest (Err fault) = IsTapeRefusal old.body.now fault

-- The rest begins with a tag of this name.
pub record IsTagAt (spelled : List ℕ → List ℕ) (r : Reader) (rest name suffix : List ℕ) : Type 0 where
  pub read : IsRead r rest
  pub has_name : is_name name ≡ true
  pub split : rest ≡ spelled name ++ suffix

-- It begins with a start tag inside OFX, or with that of OFX.
pub record IsStartAt (r : Reader) (rest name suffix : List ℕ) : Type 0 where
  pub at : IsTagAt tag r rest name suffix
  pub is_open : r.has_ended ≡ false
  pub is_right : ((r.depth == 0) && not (bytes_eq name (codes "OFX"))) ≡ false

-- An end tag where no aggregate is open is no first tag, and closes none after the end of OFX.
abbrev pub IsFaultOfEnd : Bool → ℕ → List ℕ → TapeFault → Type 0
IsFaultOfEnd true size rest fault = (offset : ℕ) × (fault ≡ Mismatch offset) × (offset + length rest ≡ size)
IsFaultOfEnd false size rest fault = (offset : ℕ) × (fault ≡ Tag offset) × (offset + length rest ≡ size)
