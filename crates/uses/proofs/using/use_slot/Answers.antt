-- States that are used alike agree on each transition, the one looked at included.
use native.Mathlib.Omega.{arith}
use mathlib.Core.Path.{◌∙◌, ap}
use Prim.Native.Nat.{◌-◌, ℕ}
use lib.ListN.{get_or}
use Rattle.std.proofs.lemmas.Option.{IfSome_then}
use Rattle.automata.specs.Alike.{frames_of, uses_agree}
use Rattle.subtrees.specs.Store.{tree_numbered}
use Rattle.uses.proofs.Both.{first-only, no-parents, state-read}
use Rattle.uses.proofs.Exact.{uses-exact}
use Rattle.uses.proofs.using.use_slot.Goals as goal

pub transition_slot-requires : goal.transition_slot-requires
transition_slot-requires c = record {
  framed = record {
    first = c.requires.parents_within;
    second = no-parents c.args.used.now.nodes c.requires.parents_within;
  };
  i_lt_count = omega (arith, c.if-number-eq0.false, c.if-number-used.false);
}

pub returns : goal.returns
returns c = record {
  place_lt_max_arity = IfSome_then c.transition_slot.result c.transition_slot.ensures (λ z used. used.place);
  slot_takes = λ A t ts holds. IfSome_then c.transition_slot.result c.transition_slot.ensures (λ z used q agree.
      used.takes q (uses-exact c.args.used.now.searchable c.args.used.now.over holds c.args.j 0
      (frames_of t (tree_numbered ts c.args.j))
      (first-only t ts c.args.used.now.subtrees.now.count c.args.j c.requires.le_j c.requires.j_le_m)
      (get_or c.args.used.now.subtrees.now.states (c.from.result - 1) 0) q
      ∙ ap (λ (x : ℕ). uses_agree A t (frames_of t (tree_numbered ts c.args.j)) x q)
      (state-read holds c.args.j c.requires.le_j c.requires.j_le_m c.from.ensures) ∙ agree));
}
