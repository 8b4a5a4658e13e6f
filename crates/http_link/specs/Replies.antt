-- Replies as bytes.
use Rattle.std.specs.Prelude.{ℕ, Bool, List, [], ◌∷◌, ◌++◌, length, codes}
use Rattle.http_front.specs.HeadText.{reply_head}
use Rattle.http_link.specs.declared.refusal.Refusal.{Refusal}
use Rattle.http_link.specs.declared.refusal.Refusal.TheVariants.{BadHead, NotPost, NotFound, NoLength, TooLarge}

-- a reply: its head, with the code, the length of the body and whether the connection ends, and the body
abbrev pub reply_of : ℕ → List ℕ → Bool → List ℕ
reply_of code body closes = reply_head code (length body) closes ++ body

-- a line of text
abbrev pub line : List ℕ → List ℕ
line text = text ++ 10 ∷ []

-- the code and the body for each refusal of a head
abbrev pub refusal_code : Refusal → ℕ
refusal_code BadHead = 400
refusal_code NotPost = 405
refusal_code NotFound = 404
refusal_code NoLength = 411
refusal_code TooLarge = 413

abbrev pub refusal_body : Refusal → List ℕ
refusal_body BadHead = line (codes "bad head")
refusal_body NotPost = line (codes "post only")
refusal_body NotFound = line (codes "not found")
refusal_body NoLength = line (codes "length needed")
refusal_body TooLarge = line (codes "too large")
