-- The printed form of requests: the signon and the statement request.
use Rattle.std.specs.Prelude.{ℕ, List, [], ◌++◌, codes, Option, None, Some}
use Rattle.ofx_types.specs.Sheet.{element, aggregate}
use Rattle.ofx_types.specs.DateForm.{moment_text}
use Rattle.ofx_types.specs.FormWords.{flag_word}
use Rattle.ofx_types.specs.CommonText.{account_from}
use Rattle.ofx_types.specs.declared.account.AcctName.{AcctName}
use Rattle.ofx_types.specs.declared.number.Moment.{Moment}
use Rattle.ofx_types.specs.declared.request.Period.{Period}

-- The signon says when the file was made and by what.
unfoldable pub signon_request : List ℕ → List ℕ → Moment → List ℕ
signon_request user pass at = aggregate (codes "SONRQ")
    (element (codes "DTCLIENT") (moment_text at.0)
    ++ (element (codes "USERID") user
    ++ (element (codes "USERPASS") pass
    ++ (element (codes "LANGUAGE") (codes "ENG")
    ++ (element (codes "APPID") (codes "OFXC") ++ element (codes "APPVER") (codes "0100"))))))

-- A moment that may be left out.
unfoldable pub maybe_moment : List ℕ → Option Moment → List ℕ
maybe_moment name None = []
maybe_moment name (Some moment) = element name (moment_text moment.0)

-- The period, where one is asked for.
unfoldable pub period_request : Option Period → List ℕ
period_request None = []
period_request (Some period) = aggregate (codes "INCTRAN")
    (maybe_moment (codes "DTSTART") period.start
    ++ (maybe_moment (codes "DTEND") period.end ++ element (codes "INCLUDE") (flag_word period.include)))

unfoldable pub statement_request : List ℕ → AcctName → Option Period → List ℕ
statement_request trnuid account period = aggregate (codes "STMTTRNRQ")
    (element (codes "TRNUID") trnuid
    ++ aggregate (codes "STMTRQ") (account_from account ++ period_request period))
