use Rattle.file_register.proofs.Taking.{agreed_old, agreed_found, adds_ranked}
use Rattle.file_register.proofs.gathering.take_line.Goals.{in-Ok, in-Err}
use Rattle.file_register.proofs.gathering.take_line.Goals as goal

pub returns-in-Some : goal.returns-in-Some
returns-in-Some c = agreed_old c.args.old.now c.args.fresh.now.keys c.args.line c.in-Some.kept.now c.agree.result c.in-Some.ensures.found c.agree.ensures

pub returns-in-Some-get : goal.returns-in-Some-get
returns-in-Some-get c =
    agreed_found c.args.old.now c.args.fresh.now.keys c.args.line c.new-ranked.result c.in-Some-get.kept.now c.line.result.now c.into_line.result c.agree-in-Some-get.result
    c.new-ranked.ensures c.in-Some-get.ensures.key c.in-Some-get.ensures.same_key c.line.ensures c.into_line.ensures c.agree-in-Some-get.ensures

pub returns : goal.returns
returns c = elim c.match-insert.branch [
  | in-Ok w ↦
      rw w.result-is (adds_ranked c.args.old.now c.args.fresh.now.keys c.args.line c.new-ranked.result c.insert.new.self.keys
      c.new-ranked.ensures c.in_default.ensures.absent c.in_default-get.ensures.key w.in-Ok.ensures.keys)
  | in-Err w ↦ rw w.result-is tt
]
