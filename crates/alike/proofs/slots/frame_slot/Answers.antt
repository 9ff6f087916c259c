-- `alike::slots::frame_slot` meets its contract: 0 stands at place k among the states of the other children.
use mathlib.Core.Path.{refl}
use native.Mathlib.Omega.{arith}
use Rattle.alike.proofs.FrameNames.{frame-children}
use Rattle.alike.proofs.FrameSlots.{frame-slot}
use Rattle.alike.proofs.NodeNames.{children-more}
use Rattle.alike.proofs.slots.frame_slot.Goals as goal

pub children_of-numbers-requires : goal.children_of-numbers-requires
children_of-numbers-requires c =
    let narrow = c.requires.shaped.narrow c.args.i (omega arith) in
    record {
      i_lt_max_nodes = omega (arith, c.requires.shaped.few);
      arity_le_max_arity = omega (arith, c.from-arity.ensures, narrow);
    }

pub states_of-qs-requires : goal.states_of-qs-requires
states_of-qs-requires c =
    children-more c.requires.shaped.few
    (frame-children c.args.subtrees.now.arities c.args.subtrees.now.children c.args.i c.from-arity.ensures c.children_of-numbers.ensures
    c.requires.shaped c.requires.i_lt_m)

pub bounds-qs-k : goal.bounds-qs-k
bounds-qs-k c = omega (arith, c.states_of-qs.ensures.size, c.requires.shaped.narrow c.args.i (omega arith))

pub meta_of-meta-requires : goal.meta_of-meta-requires
meta_of-meta-requires c = omega (arith, c.from-arity.ensures, c.requires.shaped.narrow c.args.i (omega arith))

pub returns : goal.returns
returns c =
    frame-slot c.args.subtrees.now.arities c.args.subtrees.now.children c.args.i c.from-arity.ensures
    c.children_of-numbers.ensures c.args.subtrees.now.states c.states_of-qs.ensures c.requires.shaped c.args.k
    c.requires.i_lt_m c.requires.k_bound c.requires.name_some _ c.meta_of-meta.ensures c.pack-args.ensures.value refl
    c.from-name.ensures
