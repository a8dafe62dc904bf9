-- Texts in a lent buffer.
use Rattle.std.specs.Prelude.{◌≡◌, ℕ, ◌+◌, List, ◌++◌, length, take, drop}
use Rattle.std.specs.Borrow.{MutBor}
use Rattle.answers.specs.declared.text.Line.{Line}

-- the text stands in the buffer from `at` to `end`, and every other byte is as it was
pub record Placed (text : List ℕ) (at : ℕ) (before after : List ℕ) (end : ℕ) : Type 0 where
  pub ends : end ≡ at + length text
  pub bytes : after ≡ take at before ++ (text ++ drop (at + length text) before)

-- the line stands in that buffer, and has no byte yet
pub record Begun (buffer : MutBor (List ℕ)) (line : Line) : Type 0 where
  pub same_reference : line.buffer.ghost_name ≡ buffer.ghost_name
  pub bytes : line.buffer.now ≡ buffer.now
  pub empty : line.len ≡ 0

-- the text stands after what the line had, in the same buffer
pub record Appended (text : List ℕ) (before after : Line) : Type 0 where
  pub same_reference : after.buffer.ghost_name ≡ before.buffer.ghost_name
  pub placed : Placed text before.len before.buffer.now after.buffer.now after.len
