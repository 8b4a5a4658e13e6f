-- Rehearsals: the arguments that ask for one, the lines that are written for it, and how that ends.
use Rattle.std.specs.Prelude.{◌≡◌, ℕ, ◌⊎◌, List, [], ◌∷◌, ◌++◌, codes, Option, ⊤}
use Rattle.std.specs.Fmt.{decimal}
use Rattle.std.specs.Io.KnownBytes.{Appends, Keeps}
use Rattle.ofx_ports.specs.Faults.{Rose}
use Rattle.ofx_ports.specs.Writes.{AppendsPart}
use Rattle.ofx_types.specs.AmountForm.{amount_text}
use Rattle.ofx_types.specs.declared.told.Told.{Told}
use Rattle.bank_opening.specs.Reports.{reported}
use Rattle.bank_arguments.specs.Arguments.{AreSeedArguments}
use Rattle.bank_arguments.specs.declared.command.Command.{Command}
use Rattle.bank_arguments.specs.declared.command.Command.TheVariants.{Answer, Check, Due, Mail, Rehearse, Serve}
use Rattle.bank_session.specs.Arguments.{IsUsage}
use Rattle.ofx_types.specs.declared.told.Note.TheVariants.{Plain}
use Rattle.ofx_world.specs.Rehearsal.{IsRehearsed}
use Rattle.ofx_world.specs.declared.rehearsal.summary.Summary.{Summary}

-- Arguments of no command have no form.
pub record HaveNoForm (arguments : List (List ℕ)) : Type 0 where
  pub usage : IsUsage arguments
  pub unrehearsed : (seed : ℕ) → AreSeedArguments arguments seed → ⊥

-- A command that is neither a run over a bank's records nor a rehearsal.
abbrev pub RunsElsewhere : Command → Type 0
RunsElsewhere (Answer found) = ⊥
RunsElsewhere Check = ⊤
RunsElsewhere Due = ⊥
RunsElsewhere (Mail letter) = ⊥
RunsElsewhere (Rehearse seed) = ⊥
RunsElsewhere (Serve plan) = ⊤

-- ---- lines

-- a name, a space, what it is, and LF
abbrev pub line : List ℕ → List ℕ → List ℕ
line name what = name ++ 32 ∷ what ++ 10 ∷ []

abbrev pub number_line : List ℕ → ℕ → List ℕ
number_line name number = line name (decimal number)

-- The seed, the files made, the events, the entries, the sum of all balances and the stores that are lost, a line each.
unfoldable pub rehearsal_text : ℕ → Summary → List ℕ
rehearsal_text seed came =
    number_line (codes "rehearse") seed ++ number_line (codes "files") came.files ++ number_line (codes "events") came.events
    ++ number_line (codes "entries") came.entries ++ line (codes "sum") (amount_text came.sum.0)
    ++ number_line (codes "lost") came.lost

-- ---- the end

-- The lines of the seed's rehearsal are written. Where a write fails a prefix of them is, and where memory is refused nothing is.
pub record IsWritten (seed : ℕ) (before after : Option (List ℕ)) : Type 0 where
  pub came : Summary
  pub rehearsed : IsRehearsed seed came
  pub written : Appends before after (rehearsal_text seed came)

pub record IsPartWritten (seed : ℕ) (before after : Option (List ℕ)) (faults faults' : ℕ) : Type 0 where
  pub came : Summary
  pub rehearsed : IsRehearsed seed came
  pub part : AppendsPart before after (rehearsal_text seed came)
  pub cause : Rose faults faults'

-- The status is 0 where the lines are written, 6 where a write failed, and 7 where memory was refused, with no note.
abbrev pub EndsSo : ℕ → Option (List ℕ) → Option (List ℕ) → ℕ → ℕ → Told → Type 0
EndsSo seed before after faults faults' what =
    ((what ≡ reported 0 Plain) × IsWritten seed before after)
    ⊎ (((what ≡ reported 6 Plain) × IsPartWritten seed before after faults faults')
    ⊎ ((what ≡ reported 7 Plain) × Keeps before after))
