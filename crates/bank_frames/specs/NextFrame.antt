-- What comes next of an input, whose bytes are those that are ahead, and then those that the source has left.
use Rattle.std.specs.Prelude.{◌≡◌, ◌≢◌, ℕ, ◌+◌, ◌-◌, ◌<◌, ◌≤◌, List, [], ◌++◌, length, take, drop, Option}
use Rattle.std.specs.Option.{IfSome}
use Rattle.std.specs.Io.KnownBytes.{IsAtEnd, prepend_known}
use Rattle.bank_frames.specs.Frames.{Content, request, due_work, BeginsNoFrame}
use Rattle.bank_frames.specs.FrameHead.{BeginsFrame, BeginsDue}
use Rattle.bank_frames.specs.declared.frame_head.FrameSize.{FrameSize}
use Rattle.bank_frames.specs.declared.frames.Frame.{Frame}
use Rattle.bank_frames.specs.declared.frames.Frame.TheVariants.{File, Due}
use Rattle.bank_frames.specs.declared.frames.Prefix.{Prefix}
use Rattle.bank_frames.specs.declared.frames.Prefix.TheVariants as prefixes
use Rattle.bank_frames.specs.declared.frames.Next.{Next}
use Rattle.bank_frames.specs.declared.frames.Next.TheVariants as nexts

-- All bytes of a file's frame come first.
pub record HoldsFile (bytes : List ℕ) (size : FrameSize) : Type 0 where
  pub begins : BeginsFrame bytes size
  pub whole : size.head + size.file ≤ length bytes

-- All bytes of the frame come first.
abbrev pub HoldsFrame : List ℕ → Frame → Type 0
HoldsFrame bytes (File size) = HoldsFile bytes size
HoldsFrame bytes Due = BeginsDue bytes

-- how many bytes it has
abbrev pub size_of : Frame → ℕ
size_of (File size) = size.head + size.file
size_of Due = 4

-- what it holds
abbrev pub file_in : List ℕ → FrameSize → List ℕ
file_in bytes size = take (size.head + size.file - size.head) (drop size.head bytes)

abbrev pub content_in : List ℕ → Frame → Content
content_in bytes (File size) = request (file_in bytes size)
content_in bytes Due = due_work

-- A frame as a whole; too few bytes to fill the room, of which no frame is made if none follow; or no frame, whatever
-- follows.
abbrev pub ShowsPrefix : List ℕ → Prefix → Type 0
ShowsPrefix bytes (prefixes.Whole frame) = HoldsFrame bytes frame
ShowsPrefix bytes prefixes.Unfinished = (length bytes < 524288) × BeginsNoFrame bytes
ShowsPrefix bytes prefixes.NoFrame = (bytes ≢ []) × ((more : List ℕ) → BeginsNoFrame (bytes ++ more))

-- The last bytes of an input are none, or some.
abbrev pub IsLast : List ℕ → Next → Type 0
IsLast rest (nexts.Frame frame) = ⊥
IsLast rest nexts.End = rest ≡ []
IsLast rest nexts.NoFrame = rest ≢ []

-- Bytes are left, and begin no frame.
abbrev pub IsNoFrame : List ℕ → Type 0
IsNoFrame rest = (rest ≢ []) × BeginsNoFrame rest

-- What comes next: a frame that is ahead; nothing; or bytes that begin no frame.
abbrev pub IsNext : List ℕ → Option (List ℕ) → Next → Type 0
IsNext ahead left (nexts.Frame frame) = HoldsFrame ahead frame
IsNext ahead left nexts.End = IsAtEnd (prepend_known ahead left)
IsNext ahead left nexts.NoFrame = IfSome (prepend_known ahead left) IsNoFrame
