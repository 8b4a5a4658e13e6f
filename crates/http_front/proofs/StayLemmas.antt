-- Bytes that are bad stay so.
use Rattle.std.proofs.Common.{◌≡◌, ℕ, ◌<◌, ◌≤◌, ◌⊎◌, inl, inr, List, ◌++◌, length, take, drop, sym, ap, ◌∙◌, arith, length-append, append-nil}
use Rattle.std.proofs.lemmas.Bool.{cases_lt}
use Rattle.std.proofs.lemmas.List.{take-append-le, take-append-drop}
use Rattle.std.proofs.Math.Seq.{take-append_seam}
use Rattle.httparse.specs.Grammar.{RequestHead, print_request, HasNoRequest, ResponseHead, print_response, HasNoResponse}
use Rattle.httparse.proofs.GrammarLemmas.{request_prefix_free, response_prefix_free}
use Rattle.http_front.specs.Heads.{BeginsNoRequest, AwaitsRequest, BeginsNoResponse, AwaitsResponse}

-- what is at the prefix of the bytes and more, against the bytes alone: it ends in them, or they end in it
pub record EndsWithin (bytes text : List ℕ) : Type 0 where
  pub rest : List ℕ
  pub split : bytes ≡ text ++ rest

pub record GoesOn (bytes text : List ℕ) : Type 0 where
  pub shorter : length bytes < length text
  pub more : List ℕ
  pub split : bytes ++ more ≡ text

parted : (bytes more text rest : List ℕ) → bytes ++ more ≡ text ++ rest → EndsWithin bytes text ⊎ GoesOn bytes text
parted bytes more text rest e = by (cases_lt (length bytes) (length text))
  where
    by : (length bytes < length text) ⊎ (length text ≤ length bytes) → EndsWithin bytes text ⊎ GoesOn bytes text
    by (inr longer) =
        let prefix : text ≡ take (length text) bytes =
        sym (take-append_seam text rest) ∙ ap (λ (l : List ℕ). take (length text) l) (sym e) ∙ take-append-le (length text) bytes more longer in
        inl (record { rest = drop (length text) bytes; split = sym (take-append-drop (length text) bytes) ∙ ap (λ (l : List ℕ). l ++ drop (length text) bytes) (sym prefix) })
    by (inl shorter) =
        let prefix : bytes ≡ take (length bytes) text =
        sym (take-append_seam bytes more) ∙ ap (λ (l : List ℕ). take (length bytes) l) e ∙ take-append-le (length bytes) text rest (omega arith) in
        inr (record { shorter = shorter; more = drop (length bytes) text; split = ap (λ (l : List ℕ). l ++ drop (length bytes) text) prefix ∙ take-append-drop (length bytes) text })

pub bad_request : (bytes more : List ℕ) → BeginsNoRequest bytes → ¬ (AwaitsRequest bytes) → BeginsNoRequest (bytes ++ more)
bad_request bytes more none not_awaited h rest (reads, taken) = by (parted bytes more (print_request h) rest reads.1)
  where
    whole : GoesOn bytes (print_request h) → HasNoRequest bytes
    whole on k after here =
        let same = (request_prefix_free bytes more k h after rest here reads).0 in
        let size : length (print_request k) ≡ length (print_request h) = ap (λ (g : RequestHead). length (print_request g)) same in
        omega (arith, size, ap length here.1, length-append (print_request k) after, on.shorter)

    by : EndsWithin bytes (print_request h) ⊎ GoesOn bytes (print_request h) → ⊥
    by (inl in_) = none h in_.rest ((reads.0, in_.split), taken)
    by (inr on) =
        not_awaited (record {
          short = omega (arith, on.shorter, taken.0);
          none = whole on;
          may = inl (on.more, h, (reads.0, on.split ∙ sym (append-nil (print_request h))));
        })

pub bad_response : (bytes more : List ℕ) → BeginsNoResponse bytes → ¬ (AwaitsResponse bytes) → BeginsNoResponse (bytes ++ more)
bad_response bytes more none not_awaited h rest (reads, taken) = by (parted bytes more (print_response h) rest reads.1)
  where
    whole : GoesOn bytes (print_response h) → HasNoResponse bytes
    whole on k after here =
        let same = (response_prefix_free bytes more k h after rest here reads).0 in
        let size : length (print_response k) ≡ length (print_response h) = ap (λ (g : ResponseHead). length (print_response g)) same in
        omega (arith, size, ap length here.1, length-append (print_response k) after, on.shorter)

    by : EndsWithin bytes (print_response h) ⊎ GoesOn bytes (print_response h) → ⊥
    by (inl in_) = none h in_.rest ((reads.0, in_.split), taken)
    by (inr on) =
        not_awaited (record {
          short = omega (arith, on.shorter, taken.0);
          none = whole on;
          may = (on.more, h, (reads.0, on.split ∙ sym (append-nil (print_response h))));
        })
