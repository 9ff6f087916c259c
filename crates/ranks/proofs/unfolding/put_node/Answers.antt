-- `ranks::unfolding::put_node` meets its contract: the bytes of the label are stored one after the other.
use mathlib.Core.Path.{ap}
use Prim.Native.Nat.{◌*◌, ◌+◌}
use lib.ListN.{set}
use Rattle.format.specs.Format.{label_bytes, node_bytes}
use Rattle.format.proofs.Labels.{label-stored}
use Rattle.ranks.proofs.unfolding.put_node.Goals as goal

pub returns : goal.returns
returns c =
    let first = node_bytes * c.args.node in
    ap (λ l. set l (first + label_bytes) c.args.arity) (label-stored c.args.bytes.now first c.args.label c.requires.label_le_max_label c.to_be_bytes.ensures)
