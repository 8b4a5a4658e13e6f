-- Used uids and kept replies.
use Rattle.std.specs.Prelude.{ℕ, Bool, not, ◌&&◌, ◌==◌, List, filter, Option}
use Rattle.std.specs.Option.{option_map}
use Rattle.std.specs.List.{find, list_any}
use Rattle.std.specs.Str.{bytes_eq}
use Rattle.ofx_types.specs.declared.number.UserId.{UserId}
use Rattle.bank_model.specs.declared.once.UsedPair.{UsedPair}
use Rattle.bank_model.specs.declared.once.KeptReply.{KeptReply}

-- A uid is used up for one user: another user's may be the same.
abbrev pub is_pair : UserId → List ℕ → UsedPair → Bool
is_pair user trnuid pair = pair.user.0 == user.0 && bytes_eq pair.trnuid trnuid

abbrev pub is_used : UserId → List ℕ → List UsedPair → Bool
is_used user trnuid used = list_any (is_pair user trnuid) used

-- A file's name is a user's too.
abbrev pub is_named : UserId → List ℕ → KeptReply → Bool
is_named user file kept = kept.user.0 == user.0 && bytes_eq kept.file file

-- the bytes that are kept for a user's file
abbrev pub reply_kept : UserId → List ℕ → List KeptReply → Option (List ℕ)
reply_kept user file kept = option_map (λ (reply : KeptReply). reply.reply) (find (is_named user file) kept)

-- what stays kept when a name is released
abbrev pub released : UserId → List ℕ → List KeptReply → List KeptReply
released user file kept = filter (λ (reply : KeptReply). not (is_named user file reply)) kept
