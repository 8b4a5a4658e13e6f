use Rattle.std.proofs.Common.{◌≡◌, ℕ, ◌<◌, ◌≢◌, ◌∙◌, length, get_or, arith, get_or-set_other, get_or-set_same, below_more}
use Rattle.std.proofs.Math.ListN.{set, length-set}
use Rattle.scram_sha256.proofs.Xor.{xor_from}
use Rattle.scram_sha256.proofs.salted.xored.Goals as goal

pub loop-i-preserved : goal.loop-i-preserved
loop-i-preserved c = record {
  long = simp length-set c.loop-i.invariant.long;
  so_far = below_more _ _
      (λ k h. let ne : k ≢ c.loop-i.i = omega arith in rw get_or-set_other (c.loop-i.invariant.so_far k h))
      (let lt : c.loop-i.i < length c.loop-i.both = omega (arith, c.loop-i.invariant.long) in rw get_or-set_same);
}

pub returns : goal.returns
returns c = xor_from c.loop-i.both c.args.one.now c.args.other.now (omega arith) (omega (arith, c.loop-i.invariant.long))
    (λ k lt. c.loop-i.invariant.so_far k (omega arith))
