-- Heads and bodies of replies in bytes that grow or are cut.
use Rattle.std.proofs.Common.{◌≡◌, ℕ, ◌+◌, ◌-◌, ◌<◌, ◌≤◌, List, ◌++◌, length, take, drop, Option, Some, inr, refl, sym, ap, ◌∙◌, subst, arith, append_assoc, length-append, length-drop, length-take-le, drop_at}
use Rattle.std.proofs.Math.Seq.{take-append-add}
use Rattle.std.specs.Io.KnownBytes.{IsAtEnd}
use Rattle.httparse.specs.Grammar.{print_response}
use Rattle.http_front.specs.declared.head.ReplyHead.{ReplyHead}
use Rattle.http_link.specs.Incoming.{HasNoBody}
use Rattle.http_link.specs.Responses.{HasReplyHead, LacksReplyBody, HoldsReply, HasNoReply, call_fault}
use Rattle.http_link.specs.declared.response.Response.{Response}
use Rattle.http_link.specs.declared.served.ServeError.{ServeError}
use Rattle.http_link.specs.declared.served.ServeError.TheVariants.{ReadFault, WriteFault, Cut, OutOfMemory}

-- a head's bytes and what follows them
parts : (bytes : List ℕ) (head : ReplyHead) (rest : List ℕ) → (has : HasReplyHead bytes head rest) → (bytes ≡ print_response has.h ++ rest) × (head.size ≡ length (print_response has.h))
parts bytes head rest has = (has.begins.0.1, ap (λ (h : ReplyHead). h.size) has.reported_is)

-- a head stays when more bytes come
pub reply_head-more : (bytes more : List ℕ) (head : ReplyHead) (rest : List ℕ) → HasReplyHead bytes head rest → HasReplyHead (bytes ++ more) head (rest ++ more)
reply_head-more bytes more head rest has = record {
  h = has.h;
  begins = ((has.begins.0.0, ap (λ (l : List ℕ). l ++ more) has.begins.0.1 ∙ append_assoc (print_response has.h) rest more), has.begins.1);
  reported_is = has.reported_is;
}

-- and when bytes after it are cut
head-cut : (bytes : List ℕ) (head : ReplyHead) (rest : List ℕ) (size : ℕ) → HasReplyHead bytes head rest → head.size ≤ size
    → HasReplyHead (take size bytes) head (take (size - head.size) (drop head.size bytes))
head-cut bytes head rest size has low =
    let p = parts bytes head rest has in
    let text = print_response has.h in
    let over = size - head.size in
    let whole : size ≡ length text + over = omega (arith, low, p.1) in
    let body : drop head.size bytes ≡ rest = ap (drop head.size) p.0 ∙ drop_at text rest head.size (sym p.1) in
    let cut : take size bytes ≡ text ++ take over rest = ap (take size) p.0 ∙ (ap (λ (n : ℕ). take n (text ++ rest)) whole ∙ take-append-add text rest over) in
    record {
      h = has.h;
      begins = ((has.begins.0.0, cut ∙ ap (λ (l : List ℕ). text ++ take over l) (sym body)), has.begins.1);
      reported_is = has.reported_is;
    }

pub whole_reply : (bytes : List ℕ) (head : ReplyHead) (rest : List ℕ) (size : ℕ) → HasReplyHead bytes head rest → head.size ≤ size
    → size - head.size ≤ 67108864 → head.length ≡ Some (size - head.size) → size ≤ length bytes
    → HoldsReply bytes (record { code = head.code; head = head.size; size = size })
whole_reply bytes head rest size has low small reported within =
    let counted : length (take (size - head.size) (drop head.size bytes)) ≡ size - head.size =
    length-take-le (size - head.size) (drop head.size bytes) (omega (arith, length-drop head.size bytes, within)) in
    record {
      head = head;
      code_is = refl;
      head_is = refl;
      after_head = low;
      within = within;
      whole = record {
        has_head = head-cut bytes head rest size has low;
        length_is = reported ∙ ap Some (sym counted);
        small = omega (arith, counted, small);
      };
    }

-- a body is lacking
lacks_body : (bytes : List ℕ) (head : ReplyHead) (rest : List ℕ) (size : ℕ) → HasReplyHead bytes head rest → head.size ≤ size
    → size - head.size ≤ 67108864 → head.length ≡ Some (size - head.size) → length bytes < size → LacksReplyBody bytes
lacks_body bytes head rest size has low small reported short =
    let p = parts bytes head rest has in
    let counted : length bytes ≡ head.size + length rest = ap length p.0 ∙ (length-append (print_response has.h) rest ∙ ap (λ (n : ℕ). n + length rest) (sym p.1)) in
    record {
      head = head;
      came = rest;
      size = size - head.size;
      has_head = has;
      length_is = reported;
      small = small;
      short = omega (arith, counted, short, low);
    }

-- why no whole body came is why no reply came
pub no_reply : (bytes : List ℕ) (head : ReplyHead) (rest : List ℕ) (size : ℕ) (left : Option (List ℕ)) (before now : ℕ) (fault : ServeError) → HasReplyHead bytes head rest
    → head.size ≤ size → size - head.size ≤ 67108864 → head.length ≡ Some (size - head.size) → HasNoBody size bytes left before now fault
    → HasNoReply bytes left before now (call_fault fault)
no_reply bytes head rest size left before now ReadFault has low small reported is = (inr (lacks_body bytes head rest size has low small reported is.0), is.1)
no_reply bytes head rest size left before now WriteFault has low small reported is = absurd is
no_reply bytes head rest size left before now (Cut count) has low small reported is =
    (is.0, inr (lacks_body bytes head rest size has low small reported is.1), is.2)
no_reply bytes head rest size left before now OutOfMemory has low small reported is = tt
