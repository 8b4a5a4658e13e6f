-- Names of tags: what a name is, and which names are always elements or always aggregates.
use Rattle.std.specs.Prelude.{ℕ, Bool, ◌&&◌, ◌||◌, ◌==◌, nat_le, not, List, [], ◌∷◌, length, codes}
use Rattle.std.specs.List.{list_any, list_all}
use Rattle.std.specs.Str.{bytes_eq}
use Rattle.ofx_types.specs.TextRules.{is_white}

abbrev pub is_between : ℕ → ℕ → ℕ → Bool
is_between low high b = nat_le low b && nat_le b high

-- A name is made of letters and digits of ASCII, `.`, `_` and `-`.
abbrev pub is_name_byte : ℕ → Bool
is_name_byte b = is_between 65 90 b || is_between 97 122 b || is_between 48 57 b || (b == 46) || (b == 95) || (b == 45)

-- It has 1 to 32 bytes.
abbrev pub is_name : List ℕ → Bool
is_name name = nat_le 1 (length name) && nat_le (length name) 32 && list_all is_name_byte name

abbrev pub is_one_of : List (List ℕ) → List ℕ → Bool
is_one_of names name = list_any (λ other. bytes_eq name other) names

-- The names that are always elements: each leaf of the forms, and leaves that other programs are known to send.
abbrev pub element_names : List (List ℕ)
element_names =
    codes "DTCLIENT" ∷ codes "USERID" ∷ codes "USERPASS" ∷ codes "LANGUAGE" ∷ codes "USERKEY" ∷ codes "GENUSERKEY"
    ∷ codes "ORG" ∷ codes "FID" ∷ codes "APPID" ∷ codes "APPVER" ∷ codes "CLTCOOKIE" ∷ codes "TAN" ∷ codes "TRNUID"
    ∷ codes "CODE" ∷ codes "SEVERITY" ∷ codes "MESSAGE" ∷ codes "DTSERVER" ∷ codes "TSKEYEXPIRE" ∷ codes "DTPROFUP"
    ∷ codes "DTACCTUP" ∷ codes "SESSCOOKIE" ∷ codes "BANKID" ∷ codes "BRANCHID" ∷ codes "ACCTID" ∷ codes "ACCTTYPE"
    ∷ codes "ACCTKEY" ∷ codes "DTSTART" ∷ codes "DTEND" ∷ codes "INCLUDE" ∷ codes "CURDEF" ∷ codes "TRNTYPE"
    ∷ codes "DTPOSTED" ∷ codes "DTUSER" ∷ codes "DTAVAIL" ∷ codes "TRNAMT" ∷ codes "FITID" ∷ codes "NAME" ∷ codes "MEMO"
    ∷ codes "BALAMT" ∷ codes "DTASOF" ∷ codes "DTDUE" ∷ codes "SRVRTID" ∷ codes "RECSRVRTID" ∷ codes "DTXFERPRJ"
    ∷ codes "XFERPRCCODE" ∷ codes "DTXFERPRC" ∷ codes "NINSTS" ∷ codes "FREQ" ∷ codes "MODPENDING" ∷ codes "CANPENDING"
    ∷ codes "TOKEN" ∷ codes "TOKENONLY" ∷ codes "REFRESH" ∷ codes "REJECTIFMISSING" ∷ codes "LOSTSYNC"
    ∷ codes "DTCREATED" ∷ codes "FROM" ∷ codes "TO" ∷ codes "SUBJECT" ∷ codes "MSGBODY" ∷ codes "INCIMAGES"
    ∷ codes "USEHTML" ∷ []

-- The names that are always aggregates: OFX, FI, STATUS, and each name of the forms that has children.
abbrev pub aggregate_names : List (List ℕ)
aggregate_names =
    codes "OFX" ∷ codes "FI" ∷ codes "STATUS"
    ∷ codes "SIGNONMSGSRQV1" ∷ codes "BANKMSGSRQV1" ∷ codes "EMAILMSGSRQV1" ∷ codes "SONRQ"
    ∷ codes "STMTTRNRQ" ∷ codes "STMTRQ" ∷ codes "INCTRAN" ∷ codes "BANKACCTFROM" ∷ codes "BANKACCTTO"
    ∷ codes "INTRATRNRQ" ∷ codes "INTRARQ" ∷ codes "INTRAMODRQ" ∷ codes "INTRACANRQ" ∷ codes "XFERINFO"
    ∷ codes "RECINTRATRNRQ" ∷ codes "RECINTRARQ" ∷ codes "RECINTRAMODRQ" ∷ codes "RECINTRACANRQ" ∷ codes "RECURRINST"
    ∷ codes "BANKMAILTRNRQ" ∷ codes "BANKMAILRQ" ∷ codes "MAILTRNRQ" ∷ codes "MAILRQ" ∷ codes "MAIL"
    ∷ codes "INTRASYNCRQ" ∷ codes "RECINTRASYNCRQ" ∷ codes "BANKMAILSYNCRQ" ∷ codes "MAILSYNCRQ"
    ∷ codes "SIGNONMSGSRSV1" ∷ codes "BANKMSGSRSV1" ∷ codes "EMAILMSGSRSV1" ∷ codes "SONRS"
    ∷ codes "STMTTRNRS" ∷ codes "STMTRS" ∷ codes "BANKTRANLIST" ∷ codes "STMTTRN" ∷ codes "LEDGERBAL" ∷ codes "AVAILBAL"
    ∷ codes "INTRATRNRS" ∷ codes "INTRARS" ∷ codes "INTRAMODRS" ∷ codes "INTRACANRS" ∷ codes "XFERPRCSTS"
    ∷ codes "RECINTRATRNRS" ∷ codes "RECINTRARS" ∷ codes "RECINTRAMODRS" ∷ codes "RECINTRACANRS"
    ∷ codes "BANKMAILTRNRS" ∷ codes "BANKMAILRS" ∷ codes "MAILTRNRS" ∷ codes "MAILRS"
    ∷ codes "INTRASYNCRS" ∷ codes "RECINTRASYNCRS" ∷ codes "BANKMAILSYNCRS" ∷ codes "MAILSYNCRS" ∷ []

-- Any other name is an element's where text that isn't white space comes after its start tag.
abbrev pub is_element : List ℕ → List ℕ → Bool
is_element name text =
    is_one_of element_names name || (not (is_one_of aggregate_names name) && not (list_all is_white text))
