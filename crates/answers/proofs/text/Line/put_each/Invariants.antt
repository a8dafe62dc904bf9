use Rattle.std.proofs.Common.{◌+◌, ◌*◌, ◌≤◌, take}
use Rattle.answers.specs.Places.{Appended}
use Rattle.answers.specs.Lines.{each}
use Rattle.answers.proofs.text.Line.put_each.Given as goal

abbrev pub invariant-loop-x : goal.invariant-loop-x
invariant-loop-x g l = record {
  placed : Appended (each 32 g.N.Number.text (take l.x-index l.numbers)) l.initial.self l.self;
  room : l.self.len ≤ l.initial.self.len + (g.N.Number.most + 1) * l.x-index;
}
