-- A write that fails and lands has put all of its bytes.
use Rattle.std.proofs.Common.{[], ◌∷◌, ◌∙◌, length, Some, inl, inr, refl, ap, arith, rules}
use Rattle.disk_keeper.specs.Disk.{write_of}
use Rattle.disk_keeper.specs.Memory.{MemState, reported_by}
use Rattle.disk_keeper.proofs.memory.MemDiskDisk.write_at.Goals as goal

pub returns-then-is_lost-clause-tries : goal.returns-then-is_lost-clause-tries
returns-then-is_lost-clause-tries c = inr (inl (search rules, search rules, search rules))

pub returns-then-fails-clause-broken : goal.returns-then-fails-clause-broken
returns-then-fails-clause-broken c =
    let put = write_of c.args.at c.args.bytes.now in (
      put ∷ [],
      inr (c.args.bytes.now, omega arith, refl),
      ap reported_by c.self-2.view_is
          ∙ ap reported_by c.in-Ok.ensures.put
          ∙ ap (λ (s : MemState). Some (record { found = s.found; changes = put ∷ s.changes })) c.self.view_is,
    )

pub returns-then-fails-clause-tries : goal.returns-then-fails-clause-tries
returns-then-fails-clause-tries c = inr (inr (inl (search rules, search rules, search rules)))
