-- Numbers among the arguments.
use Rattle.std.specs.Prelude.{◌≡◌, ℕ, ◌≤◌, List}
use Rattle.std.specs.Fmt.{decimal}

-- A number within its bounds, in decimal digits without a leading zero.
pub record IsNumber (least most : ℕ) (argument : List ℕ) (n : ℕ) : Type 0 where
  pub from : least ≤ n
  pub to : n ≤ most
  pub spelled : argument ≡ decimal n
