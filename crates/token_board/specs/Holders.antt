-- What the seats of a writer, a pass and a note always are.
use Rattle.std.specs.Prelude.{◌≡◌, ℕ, ◌+◌, ◌%◌, ◌^◌, Bool, true, false, List, [], length, drop}
use Rattle.atomic_table.specs.Table.{Me}
use Rattle.atomic_table.specs.Seated.{TableId}
use Rattle.bank_model.specs.Log.{endings}
use Rattle.token_board.specs.declared.view.View.{View}
use Rattle.token_board.specs.Tokens.{AreEndings}

-- A board has a word for its count of endings and one for each object.
pub record IsBoard (words : ℕ) (start : List ℕ) : Type 0 where
  pub size : words ≡ length start + 1

-- The writer counts the endings modulo 2^64, and claims no others.
pub record IsWriter (ended : ℕ) (me : Me (Unit {0}) View) : Type 0 where
  pub writes : me.0.writes ≡ true
  pub counted : ended ≡ length (endings me.0.seen) % 2 ^ 64
  pub claimed : AreEndings me.0.seen me.0.owned
  pub slots : me.1 ≡ []

-- A pass doesn't write. Its endings are among those that it has seen.
pub record IsPass (me : Me (Unit {0}) View) : Type 0 where
  pub writes : me.0.writes ≡ false
  pub mine : AreEndings me.0.seen me.0.owned
  pub slots : me.1 ≡ []

-- Neither does a note. What it claims are endings of its log.
pub record IsNote (me : Me (Unit {0}) View) : Type 0 where
  pub writes : me.0.writes ≡ false
  pub claimed : AreEndings me.0.seen me.0.owned
  pub slots : me.1 ≡ []
