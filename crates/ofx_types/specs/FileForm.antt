-- A whole request file and a whole reply file as bytes, and why bytes are none.
use Rattle.std.specs.Prelude.{◌≡◌, ℕ, ◌+◌, List, drop, Option, None, Some, Result, Err}
use Rattle.ofx_types.specs.HeaderForm.{SpellsHeader, header_fault}
use Rattle.ofx_types.specs.TagFault.{tag_fault}
use Rattle.ofx_types.specs.Nodes.{TagNode, Item, AreNodesOf, IsRoot}
use Rattle.ofx_types.specs.MessageForm.{IsRequest, IsReply}
use Rattle.ofx_types.specs.MessageReading.{request_of, reply_of}
use Rattle.ofx_types.specs.declared.fault.HeaderFault.{HeaderFault}
use Rattle.ofx_types.specs.declared.fault.HeaderFault.TheVariants as headers
use Rattle.ofx_types.specs.declared.fault.TapeFault.{TapeFault}
use Rattle.ofx_types.specs.declared.fault.TapeFault.TheVariants as tags
use Rattle.ofx_types.specs.declared.fault.TreeFault.{TreeFault}
use Rattle.ofx_types.specs.declared.fault.TreeFault.TheVariants as forms
use Rattle.ofx_types.specs.declared.fault.FileFault.{FileFault}
use Rattle.ofx_types.specs.declared.fault.FileFault.TheVariants.{Header, Syntax, Form, OutOfMemory}
use Rattle.ofx_types.specs.declared.request.RequestFile.{RequestFile}
use Rattle.ofx_types.specs.declared.reply.ReplyFile.{ReplyFile}

-- The bytes from offset `size` on, which are the body, have these nodes, of which the root is OFX.
pub record HasBody (bytes : List ℕ) (size : ℕ) (nodes : List TagNode) (ofx : Item) : Type 0 where
  pub are_nodes : AreNodesOf (drop size bytes) nodes
  pub is_root : IsRoot nodes ofx

-- The bytes spell a request file: a header, and after it the nodes of a request.
pub record SpellsFile (bytes : List ℕ) (file : RequestFile) : Type 0 where
  pub size : ℕ
  pub nodes : List TagNode
  pub ofx : Item
  pub header : SpellsHeader bytes file.version file.older file.newer size
  pub body : HasBody bytes size nodes ofx
  pub form : IsRequest ofx file.user file.pass file.asks

-- The bytes spell a reply file. Its OLDFILEUID may be any.
pub record SpellsReply (bytes : List ℕ) (reply : ReplyFile) : Type 0 where
  pub size : ℕ
  pub nodes : List TagNode
  pub ofx : Item
  pub older : Option (List ℕ)
  pub header : SpellsHeader bytes reply.version older reply.newer size
  pub body : HasBody bytes size nodes ofx
  pub form : IsReply ofx reply.signon reply.moment reply.replies

-- the offset of a fault of the header, from the first byte
abbrev pub header_offset : HeaderFault → ℕ
header_offset (headers.Line number at) = at
header_offset (headers.Value number at) = at
header_offset (headers.Cut at) = at

-- the offset of a fault of the tags, from the body's first byte; want of memory has none
abbrev pub tag_offset : TapeFault → Option ℕ
tag_offset (tags.Tag at) = Some at
tag_offset (tags.Mismatch at) = Some at
tag_offset (tags.Depth at) = Some at
tag_offset (tags.Cut at) = Some at
tag_offset tags.OutOfMemory = None

-- the offset of a fault of the forms, from the body's first byte; want of memory has none
abbrev pub form_offset : TreeFault → Option ℕ
form_offset (forms.Missing at) = Some at
form_offset (forms.Repeated at) = Some at
form_offset (forms.Value at) = Some at
form_offset forms.OutOfMemory = None

-- The bytes begin with a header of this size.
pub record HasHeader (bytes : List ℕ) (size : ℕ) : Type 0 where
  pub version : ℕ
  pub older : Option (List ℕ)
  pub newer : Option (List ℕ)
  pub spelled : SpellsHeader bytes version older newer size

-- the fault of the header
abbrev pub IsHeaderFault : List ℕ → ℕ → Type 0
IsHeaderFault bytes at = (fault : HeaderFault) × (header_fault bytes ≡ Some fault) × (at ≡ header_offset fault)

-- after a header, the leftmost fault of the tags
pub record IsSyntaxFault (bytes : List ℕ) (at : ℕ) : Type 0 where
  pub size : ℕ
  pub fault : TapeFault
  pub offset : ℕ
  pub header : HasHeader bytes size
  pub is_fault : tag_fault (drop size bytes) ≡ Some fault
  pub has_offset : tag_offset fault ≡ Some offset
  pub at_is : at ≡ size + offset

-- after a header and in tags without a fault, the first fault of the forms
pub record IsFormFault {P : Type 0} (parts_of : Item → Result P TreeFault) (bytes : List ℕ) (at : ℕ) : Type 0 where
  pub size : ℕ
  pub nodes : List TagNode
  pub ofx : Item
  pub fault : TreeFault
  pub offset : ℕ
  pub header : HasHeader bytes size
  pub body : HasBody bytes size nodes ofx
  pub is_fault : parts_of ofx ≡ Err fault
  pub has_offset : form_offset fault ≡ Some offset
  pub at_is : at ≡ size + offset

-- Why the bytes spell no file whose parts are read so: a kind and an offset.
abbrev pub IsFaultIn : {P : Type 0} → (Item → Result P TreeFault) → List ℕ → FileFault → Type 0
IsFaultIn parts_of bytes (Header at) = IsHeaderFault bytes at
IsFaultIn parts_of bytes (Syntax at) = IsSyntaxFault bytes at
IsFaultIn parts_of bytes (Form at) = IsFormFault parts_of bytes at
IsFaultIn parts_of bytes OutOfMemory = ⊥

-- Why the bytes spell no request file, and why they spell no reply file.
abbrev pub IsFaultOf : List ℕ → FileFault → Type 0
IsFaultOf bytes fault = IsFaultIn request_of bytes fault

abbrev pub IsReplyFaultOf : List ℕ → FileFault → Type 0
IsReplyFaultOf bytes fault = IsFaultIn reply_of bytes fault

-- No bytes spell two files, bytes that spell one have no fault, and no bytes have two faults.
abbrev pub OneSpelled : {F : Type 0} → (List ℕ → F → Type 0) → Type 0
OneSpelled {F} Spells = (bytes : List ℕ) (a b : F) → Spells bytes a → Spells bytes b → a ≡ b

abbrev pub NothingSpelled : {F : Type 0} → (List ℕ → F → Type 0) → (List ℕ → FileFault → Type 0) → Type 0
NothingSpelled {F} Spells IsFault = (bytes : List ℕ) (file : F) (fault : FileFault) → Spells bytes file → IsFault bytes fault → ⊥

abbrev pub OneFaultOf : (List ℕ → FileFault → Type 0) → Type 0
OneFaultOf IsFault = (bytes : List ℕ) (a b : FileFault) → IsFault bytes a → IsFault bytes b → a ≡ b

abbrev pub OneFile : Type 0
OneFile = OneSpelled SpellsFile

abbrev pub FaultsSpellNothing : Type 0
FaultsSpellNothing = NothingSpelled SpellsFile IsFaultOf

abbrev pub OneFault : Type 0
OneFault = OneFaultOf IsFaultOf

-- Of replies the same.
abbrev pub OneReply : Type 0
OneReply = OneSpelled SpellsReply

abbrev pub FaultsSpellNoReply : Type 0
FaultsSpellNoReply = NothingSpelled SpellsReply IsReplyFaultOf

abbrev pub OneReplyFault : Type 0
OneReplyFault = OneFaultOf IsReplyFaultOf
