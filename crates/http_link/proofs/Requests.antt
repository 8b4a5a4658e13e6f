-- Heads and bodies in bytes that grow or are cut.
use Rattle.std.proofs.Common.{◌≡◌, ◌≢◌, ℕ, ◌+◌, ◌-◌, ◌<◌, ◌≤◌, List, ◌∷◌, ◌++◌, length, take, drop, Option, None, Some, Ok, Err, inl, inr, refl, sym, ap, ◌∙◌, arith, append_assoc, append-nil, length-append, length-drop, length-take-le, take_all, drop_at}
use Rattle.std.proofs.Math.Seq.{take-append-add}
use Rattle.std.specs.Io.KnownBytes.{IsAtEnd}
use Rattle.httparse.specs.Grammar.{print_request}
use Rattle.http_front.specs.Heads.{AwaitsRequest}
use Rattle.http_front.specs.declared.head.Head.{Head}
use Rattle.ofx_ports.specs.Faults.{Rose}
use Rattle.http_link.specs.Requests.{HasHead, head_refusal, IsWhole, LacksBody, IsUnfinished}
use Rattle.http_link.specs.Incoming.{GrowsOn, HoldsWhole, HasNoNext, HasNoBody}
use Rattle.http_link.specs.declared.served.ServeError.{ServeError}
use Rattle.http_link.specs.declared.served.ServeError.TheVariants.{ReadFault, WriteFault, Cut, OutOfMemory}

-- a head's bytes and what follows them
parts : (bytes : List ℕ) (head : Head) (rest : List ℕ) → (has : HasHead bytes head rest) → (bytes ≡ print_request has.h ++ rest) × (head.size ≡ length (print_request has.h))
parts bytes head rest has = (has.begins.0.1, ap (λ (h : Head). h.size) has.reported_is)

-- a head stays when more bytes come
pub head-more : (bytes more : List ℕ) (head : Head) (rest : List ℕ) → HasHead bytes head rest → HasHead (bytes ++ more) head (rest ++ more)
head-more bytes more head rest has = record {
  h = has.h;
  begins = ((has.begins.0.0, ap (λ (l : List ℕ). l ++ more) has.begins.0.1 ∙ append_assoc (print_request has.h) rest more), has.begins.1);
  reported_is = has.reported_is;
}

-- and when bytes after it are cut
pub head-cut : (bytes : List ℕ) (head : Head) (rest : List ℕ) (size : ℕ) → HasHead bytes head rest → head.size ≤ size
    → HasHead (take size bytes) head (take (size - head.size) (drop head.size bytes))
head-cut bytes head rest size has low =
    let p = parts bytes head rest has in
    let text = print_request has.h in
    let over = size - head.size in
    let whole : size ≡ length text + over = omega (arith, low, p.1) in
    let body : drop head.size bytes ≡ rest = ap (drop head.size) p.0 ∙ drop_at text rest head.size (sym p.1) in
    let cut : take size bytes ≡ text ++ take over rest = ap (take size) p.0 ∙ (ap (λ (n : ℕ). take n (text ++ rest)) whole ∙ take-append-add text rest over) in
    record {
      h = has.h;
      begins = ((has.begins.0.0, cut ∙ ap (λ (l : List ℕ). text ++ take over l) (sym body)), has.begins.1);
      reported_is = has.reported_is;
    }

-- ---- refusals

-- ---- bodies

pub whole_request : (bytes : List ℕ) (head : Head) (rest : List ℕ) (size : ℕ) → HasHead bytes head rest → head_refusal head ≡ None → head.size ≤ size
    → size - head.size ≤ 262144 → head.length ≡ Some (size - head.size) → size ≤ length bytes → HoldsWhole bytes head size
whole_request bytes head rest size has unrefused low small reported within =
    let counted : length (take (size - head.size) (drop head.size bytes)) ≡ size - head.size =
    length-take-le (size - head.size) (drop head.size bytes) (omega (arith, length-drop head.size bytes, within)) in
    record {
      within = within;
      after_head = low;
      small = small;
      whole = record {
        has_head = head-cut bytes head rest size has low;
        unrefused = unrefused;
        length_is = reported ∙ ap Some (sym counted);
      };
    }

-- a body is lacking
pub lacks_body : (bytes : List ℕ) (head : Head) (rest : List ℕ) (size : ℕ) → HasHead bytes head rest → head_refusal head ≡ None → head.size ≤ size
    → head.length ≡ Some (size - head.size) → length bytes < size → LacksBody bytes
lacks_body bytes head rest size has unrefused low reported short =
    let p = parts bytes head rest has in
    let counted : length bytes ≡ head.size + length rest = ap length p.0 ∙ (length-append (print_request has.h) rest ∙ ap (λ (n : ℕ). n + length rest) (sym p.1)) in
    record {
      head = head;
      came = rest;
      size = size - head.size;
      has_head = has;
      unrefused = unrefused;
      length_is = reported;
      short = omega (arith, counted, short, low);
    }

-- why no whole body came is why no request came
pub no_request : (bytes : List ℕ) (head : Head) (rest : List ℕ) (size : ℕ) (left : Option (List ℕ)) (before now : ℕ) (fault : ServeError) → HasHead bytes head rest
    → head_refusal head ≡ None → head.size ≤ size → head.length ≡ Some (size - head.size) → 0 < head.size → HasNoBody size bytes left before now fault
    → HasNoNext bytes left before now fault
no_request bytes head rest size left before now ReadFault has unrefused low reported some is =
    (inr (lacks_body bytes head rest size has unrefused low reported is.0), is.1)
no_request bytes head rest size left before now WriteFault has unrefused low reported some is = absurd is
no_request bytes head rest size left before now (Cut count) has unrefused low reported some is =
    let p = parts bytes head rest has in
    let counted : length bytes ≡ head.size + length rest = ap length p.0 ∙ (length-append (print_request has.h) rest ∙ ap (λ (n : ℕ). n + length rest) (sym p.1)) in
    (is.0, omega (arith, is.0, counted, some), inr (lacks_body bytes head rest size has unrefused low reported is.1), is.2)
no_request bytes head rest size left before now OutOfMemory has unrefused low reported some is = tt
