-- `quotient::nodes::key_of` meets its contract: the children before k are the digits.
use Rattle.std.proofs.Common.{◌≡◌, ◌*◌, ◌<◌, ◌^◌}
use Rattle.packed.specs.Packed.{digits}
use Rattle.quotient.specs.Nodes.{place_digit}
use Rattle.quotient.proofs.nodes.key_of.Given as goal

abbrev pub invariant-loop-k : goal.invariant-loop-k
invariant-loop-k l =
    (l.key ≡ digits (place_digit l.named.n l.named.subtrees.now.children l.j) 0 l.k 0) × (l.key < 2 ^ (8 * l.k))
