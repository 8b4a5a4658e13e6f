-- What is written in parts.
use Rattle.std.proofs.Common.{◌≡◌, ℕ, ◌+◌, ◌-◌, List, ◌++◌, length, take, drop, Option, sym, ap, ◌∙◌, length-drop}
use Rattle.std.specs.Io.KnownBytes.{Appends}
use Rattle.std.proofs.KnownBytes.{Appends-trans}
use Rattle.std.proofs.lemmas.List.{take_rest}
use Rattle.std.proofs.Math.Seq.{take-add}

-- the bytes after a place, as a slice gives them
pub rest_length : (done : ℕ) (bytes : List ℕ) → length (take (length bytes - done) (drop done bytes)) ≡ length bytes - done
rest_length done bytes = ap length (take_rest bytes done) ∙ length-drop done bytes

-- a front is written, and then more of the bytes
pub written_more : (before mid after : Option (List ℕ)) (done count : ℕ) (bytes : List ℕ) → Appends before mid (take done bytes) → Appends mid after (take count (take (length bytes - done) (drop done bytes))) → Appends before after (take (done + count) bytes)
written_more before mid after done count bytes prefix more =
    let joined : take done bytes ++ take count (take (length bytes - done) (drop done bytes)) ≡ take (done + count) bytes =
    ap (λ (l : List ℕ). take done bytes ++ take count l) (take_rest bytes done) ∙ sym (take-add done count bytes) in
    rw (sym joined) (Appends-trans before mid after _ _ prefix more)
