-- What reading a file answers, of requests and of replies: what the bytes spell, or their one fault.
use Rattle.std.specs.Prelude.{◌≡◌, ℕ, ◌≤◌, ◌⊎◌, List, length, drop, Result, Ok, Err}
use Rattle.ofx_types.specs.HeaderForm.{SpellsHeader}
use Rattle.ofx_types.specs.Nodes.{TagNode, AreNodesOf}
use Rattle.ofx_types.specs.FileForm.{IsHeaderFault, IsSyntaxFault}
use Rattle.ofx_types.specs.declared.fault.FileFault.{FileFault}
use Rattle.ofx_types.specs.declared.fault.FileFault.TheVariants.{Header, Syntax, Form, OutOfMemory}
use Rattle.ofx_header.specs.declared.values.Header as headers
use Rattle.ofx_tape.specs.Slices.{AreSlices}

-- ---- header and tags

-- The bytes begin with this header, of this size, and the tags after it have these nodes.
pub record HasTags (bytes : List ℕ) (said : headers.Header) (size : ℕ) (nodes : List TagNode) : Type 0 where
  pub header : SpellsHeader bytes said.version said.older said.newer size
  pub is_inside : size ≤ length bytes
  pub are_nodes : AreNodesOf (drop size bytes) nodes
  pub slices : AreSlices (drop size bytes) nodes

-- A refusal is the fault of the header or of the tags, or want of memory.
abbrev pub IsTagsRefusal : List ℕ → FileFault → Type 0
IsTagsRefusal bytes (Header at) = IsHeaderFault bytes at
IsTagsRefusal bytes (Syntax at) = IsSyntaxFault bytes at
IsTagsRefusal bytes (Form at) = ⊥
IsTagsRefusal bytes OutOfMemory = Unit {0}

abbrev pub ReadsTags : List ℕ → Result (headers.Header × ℕ × List TagNode) FileFault → Type 0
ReadsTags bytes (Ok found) = HasTags bytes found.0 found.1 found.2
ReadsTags bytes (Err fault) = IsTagsRefusal bytes fault

-- ---- the whole file

-- A refusal is the fault of the bytes, or want of memory.
abbrev pub IsRefusal : (List ℕ → FileFault → Type 0) → List ℕ → FileFault → Type 0
IsRefusal IsFault bytes (Header at) = IsFault bytes (Header at)
IsRefusal IsFault bytes (Syntax at) = IsFault bytes (Syntax at)
IsRefusal IsFault bytes (Form at) = IsFault bytes (Form at)
IsRefusal IsFault bytes OutOfMemory = Unit {0}

-- Bytes that spell a file are read, unless memory is refused.
abbrev pub IsReadAs : {F : Type 0} → F → Result F FileFault → Type 0
IsReadAs file (Ok found) = found ≡ file
IsReadAs file (Err fault) = fault ≡ OutOfMemory

abbrev pub AreReadAll : {F : Type 0} → (List ℕ → F → Type 0) → List ℕ → Result F FileFault → Type 0
AreReadAll {F = F} Spells bytes answer = (file : F) → Spells bytes file → IsReadAs file answer

-- A fault of bytes is what is answered for them, unless memory is refused.
abbrev pub IsRefusedAs : {F : Type 0} → FileFault → Result F FileFault → Type 0
IsRefusedAs fault (Ok found) = ⊥
IsRefusedAs fault (Err OutOfMemory) = Unit {0}
IsRefusedAs fault (Err other) = other ≡ fault

abbrev pub AreRefusedAll : {F : Type 0} → (List ℕ → FileFault → Type 0) → List ℕ → Result F FileFault → Type 0
AreRefusedAll IsFault bytes answer = (fault : FileFault) → IsFault bytes fault → IsRefusedAs fault answer

-- Any bytes spell a file or have a fault.
abbrev pub AreJudged : {F : Type 0} → (List ℕ → F → Type 0) → (List ℕ → FileFault → Type 0) → Type 0
AreJudged {F = F} Spells IsFault = (bytes : List ℕ) → ((file : F) × Spells bytes file) ⊎ ((fault : FileFault) × IsFault bytes fault)
