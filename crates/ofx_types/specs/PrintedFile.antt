-- The printed form of a request file.
use Rattle.std.specs.Prelude.{ℕ, Bool, false, not, List, ◌++◌, filter, codes}
use Rattle.std.specs.List.{flat_map}
use Rattle.ofx_types.specs.Sheet.{aggregate, aggregate_of_some, header_text}
use Rattle.ofx_types.specs.RequestText.{signon_request, statement_request}
use Rattle.ofx_types.specs.DeedForm.{family_of}
use Rattle.ofx_types.specs.DeedText.{deed_text}
use Rattle.ofx_types.specs.SyncForm.{object_family, is_mail_family}
use Rattle.ofx_types.specs.PrintedSync.{sync_text}
use Rattle.ofx_types.specs.declared.number.Moment.{Moment}
use Rattle.ofx_types.specs.declared.request.Ask.{Ask}
use Rattle.ofx_types.specs.declared.request.Ask.TheVariants.{Statement, One, Sync}
use Rattle.ofx_types.specs.declared.request.RequestFile.{RequestFile}

unfoldable pub ask_text : Ask → List ℕ
ask_text (Statement trnuid account period) = statement_request trnuid account period
ask_text (One trnuid deed) = deed_text trnuid deed
ask_text (Sync ask) = sync_text ask

-- Mail is in a message set of its own.
abbrev pub is_mail_ask : Ask → Bool
is_mail_ask (Statement trnuid account period) = false
is_mail_ask (One trnuid deed) = is_mail_family (family_of deed)
is_mail_ask (Sync ask) = is_mail_family (object_family ask.object)

-- A file that was made at a moment.
unfoldable pub file_text : RequestFile → Moment → List ℕ
file_text file at = header_text file.version file.older file.newer
    ++ aggregate (codes "OFX")
    (aggregate (codes "SIGNONMSGSRQV1") (signon_request file.user file.pass at)
    ++ (aggregate_of_some (codes "BANKMSGSRQV1") (flat_map ask_text (filter (λ (ask : Ask). not (is_mail_ask ask)) file.asks))
    ++ aggregate_of_some (codes "EMAILMSGSRQV1") (flat_map ask_text (filter is_mail_ask file.asks))))
