-- Bytes that end within a request target, read from their front.
use Rattle.std.specs.Prelude.{◌≡◌, ℕ, Bool, ◌==◌, List, ◌∷◌, ◌++◌}
use Rattle.httparse.specs.Grammar.{is_uri_byte, AllPass, IsToken, LineEnd, print_end, print_blank}

-- the space after a method
abbrev pub is_space : ℕ → Bool
is_space b = b == 32

-- no empty line is at the start
abbrev pub BeginsNoLine : List ℕ → Type 0
BeginsNoLine text = (end : LineEnd) (rest : List ℕ) → ¬ (text ≡ print_end end ++ rest)

-- the text is what follows all empty lines at the start of the bytes
abbrev pub HoldsAfterBlank : List ℕ → List ℕ → Type 0
HoldsAfterBlank bytes text = (blank : List LineEnd) × (bytes ≡ print_blank blank ++ text)

-- the text is a method, a space, and then only bytes of a target
abbrev pub OpensTarget : List ℕ → Type 0
OpensTarget text = (method : List ℕ) × (target : List ℕ) × IsToken method × AllPass is_uri_byte target × (text ≡ method ++ 32 ∷ target)
