-- What is written in parts.
use Rattle.std.proofs.Common.{ℕ, ◌+◌, ◌≤◌, List, ◌++◌, length, take, Option, Result, Ok, Err, OnErr, sym, subst, arith, length-append}
use Rattle.std.specs.Io.KnownBytes.{Appends}
use Rattle.std.proofs.KnownBytes.{Appends-trans}
use Rattle.std.proofs.Math.Seq.{take-append-add}
use Rattle.ofx_ports.specs.Writes.{AppendsPart}

-- the first of two texts and a prefix of the second are a prefix of both
pub prefix_of_second : (before mid after : Option (List ℕ)) (first second : List ℕ) → Appends before mid first → AppendsPart mid after second → AppendsPart before after (first ++ second)
prefix_of_second before mid after first second whole part = record {
  count = length first + part.count;
  within = omega (arith, part.within, length-append first second);
  appended = subst (Appends before after) (sym (take-append-add first second part.count)) (Appends-trans before mid after first (take part.count second) whole part.appended);
}

-- where the second of two texts wasn't written whole, a prefix of both is
pub part_after : {E : Type 0} (result : Result (Unit {0}) E) (before mid after : Option (List ℕ)) (first second : List ℕ) → Appends before mid first
    → OnErr result (AppendsPart mid after second) → OnErr result (AppendsPart before after (first ++ second))
part_after (Ok done) before mid after first second whole part = part
part_after (Err fault) before mid after first second whole part = prefix_of_second before mid after first second whole part
