use Rattle.std.proofs.Common.{◌≡◌, ◌-◌, ◌<◌, ltb, length, get_or}
use Rattle.moves.specs.Places.{place_pair}
use Rattle.moves.proofs.Pairs.{rows}
use Rattle.moves.proofs.interchange.places.Given as goal

abbrev pub invariant-loop-u : goal.invariant-loop-u
invariant-loop-u l =
    (l.left < length (rows ltb l.units l.u (l.units - l.u)))
    × (get_or (rows ltb l.units l.u (l.units - l.u)) l.left (0, 0) ≡ place_pair ltb l.units l.number)
