-- `partition::all_apart` meets its contract: parts begin with the classes and stay sound, and stable parts decide.
use Prim.Native.Nat.{◌-◌}
use Rattle.fields.specs.View.{viewed}
use Rattle.partition.specs.Parts.{Grouped, Parts, leaders}
use Rattle.partition.proofs.all_apart.Given as goal

abbrev pub invariant-loop : goal.invariant-loop
invariant-loop l = Grouped l.n l.parts × Parts (viewed l.classes l.transitions l.n l.count) l.parts

abbrev pub decreases-loop : goal.decreases-loop
decreases-loop l = l.n - leaders l.parts l.n
