-- What is still to come begins with what is ahead.
use Rattle.std.proofs.Common.{◌≡◌, ◌≢◌, ℕ, List, [], ◌∷◌, ◌++◌, Option, None, Some, IfSome, refl}
use Rattle.std.specs.Io.KnownBytes.{prepend_known}
use Rattle.bank_frames.specs.Frames.{BeginsNoFrame}
use Rattle.bank_frames.specs.NextFrame.{IsNoFrame}

prefix_empty : (prefix rest : List ℕ) → prefix ++ rest ≡ [] → prefix ≡ []
prefix_empty [] rest e = refl
prefix_empty (x ∷ prefix) rest e = cc

-- no frame begins what is ahead, whatever follows
pub no_frame_ahead : (ahead : List ℕ) (left : Option (List ℕ)) → ahead ≢ [] → ((more : List ℕ) → BeginsNoFrame (ahead ++ more)) → IfSome (prepend_known ahead left) IsNoFrame
no_frame_ahead ahead None some none = tt
no_frame_ahead ahead (Some xs) some none = (λ empty. some (prefix_empty ahead xs empty), none xs)
