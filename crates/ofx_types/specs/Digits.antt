-- Signs, and numbers of a fixed count of digits.
use Rattle.std.specs.Prelude.{◌≡◌, ℕ, ◌+◌, ◌/◌, ◌%◌, ◌⊎◌, Bool, true, false, if◌then◌else◌, ℤ, pos, neg_ℤ, List, [], ◌∷◌, ◌++◌}

-- A sign is `+` or `-` or nothing, which is as good as `+`.
abbrev pub IsSign : List ℕ → Bool → Type 0
IsSign text negative =
    ((text ≡ []) × (negative ≡ false)) ⊎ (((text ≡ 43 ∷ []) × (negative ≡ false)) ⊎ ((text ≡ 45 ∷ []) × (negative ≡ true)))

-- a magnitude under its sign
abbrev pub signed : Bool → ℕ → ℤ
signed negative magnitude = if negative then neg_ℤ (pos magnitude) else pos magnitude

-- two digits: a number below 100
abbrev pub two_digits : ℕ → List ℕ
two_digits n = (48 + n / 10) ∷ (48 + n % 10) ∷ []

-- three digits: a number below 1,000
abbrev pub three_digits : ℕ → List ℕ
three_digits n = (48 + n / 100) ∷ two_digits (n % 100)

-- four digits: a number below 10,000
abbrev pub four_digits : ℕ → List ℕ
four_digits n = two_digits (n / 100) ++ two_digits (n % 100)
