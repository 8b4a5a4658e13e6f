-- The arguments of the command lines that have a form.
use Rattle.std.specs.Prelude.{◌≡◌, ℕ, ◌<◌, ◌≤◌, ◌^◌, List, [], ◌∷◌, length, codes, Option, None, Some}
use Rattle.std.specs.Fmt.{decimal}
use Rattle.ofx_types.specs.DateForm.{IsDate}
use Rattle.ofx_types.specs.declared.number.Moment.{Moment}
use Rattle.bank_model.specs.Sound.{IsTextWithin}

-- `--at` and a date, or nothing: then each frame has the moment that the clock shows.
abbrev pub IsMomentOption : List (List ℕ) → Option Moment → Type 0
IsMomentOption arguments None = arguments ≡ []
IsMomentOption arguments (Some at) = (date : List ℕ) × (arguments ≡ codes "--at" ∷ date ∷ []) × IsDate date at.0

-- The arguments `answer`, the path of the setup, where the records are kept, and perhaps a moment.
pub record AreArguments (arguments : List (List ℕ)) (at : Option Moment) : Type 0 where
  pub setup : List ℕ
  pub records : List ℕ
  pub rest : List (List ℕ)
  pub spelled : arguments ≡ codes "answer" ∷ setup ∷ records ∷ rest
  pub moment : IsMomentOption rest at

-- The arguments `check`, the path of the setup, and perhaps where the records are kept.
pub record AreCheckArguments (arguments : List (List ℕ)) : Type 0 where
  pub setup : List ℕ
  pub rest : List (List ℕ)
  pub spelled : arguments ≡ codes "check" ∷ setup ∷ rest
  pub few : length rest ≤ 1

-- The arguments `due`, the path of the setup and where the records are kept, with no moment.
pub record AreDueArguments (arguments : List (List ℕ)) : Type 0 where
  pub setup : List ℕ
  pub records : List ℕ
  pub spelled : arguments ≡ codes "due" ∷ setup ∷ records ∷ []

-- The arguments `mail`, the path of the setup, where the records are kept, any word as the name of a user, and a subject of 1
-- to 64 bytes.
pub record AreMailArguments (arguments : List (List ℕ)) (name subject : List ℕ) : Type 0 where
  pub setup : List ℕ
  pub records : List ℕ
  pub spelled : arguments ≡ codes "mail" ∷ setup ∷ records ∷ name ∷ subject ∷ []
  pub subject_fits : IsTextWithin 64 subject

-- Arguments that ask for a letter, whoever it is for.
abbrev pub AskForLetter : List (List ℕ) → Type 0
AskForLetter arguments = (name : List ℕ) × (subject : List ℕ) × AreMailArguments arguments name subject

-- The arguments `rehearse` and a number of eight bytes, the seed, without a sign or a leading zero.
pub record AreSeedArguments (arguments : List (List ℕ)) (seed : ℕ) : Type 0 where
  pub spelled : arguments ≡ codes "rehearse" ∷ decimal seed ∷ []
  pub fits : seed < 2 ^ 64
