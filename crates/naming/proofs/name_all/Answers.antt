use native.Mathlib.Omega.{arith}
use Rattle.naming.proofs.Giving.{given-bounded, given-next, given-start}
use Rattle.naming.proofs.Searching.{given-searched}
use Rattle.naming.proofs.name_all.Goals as goal

pub loop-j-init : goal.loop-j-init
loop-j-init c = given-start (omega arith) (omega arith)

pub name_subtree-name-requires : goal.name_subtree-name-requires
name_subtree-name-requires c =
    let now = c.loop-j in
    record {
      table_len = c.requires;
      shared = now.invariant.shares;
      spans_of = c.note_parents-parents.ensures;
      le_j = omega (arith, c.loop-j-test.true);
      j_le_m = now.invariant.within;
    }

pub mark_shared-requires : goal.mark_shared-requires
mark_shared-requires c =
    let now = c.loop-j in
    record {
      j_le_m = now.invariant.within;
      name_bound = c.name_subtree-name.ensures.upper_bound;
      shared_len = now.invariant.marks;
    }

pub bounds-names-j : goal.bounds-names-j
bounds-names-j c =
    let inv = c.loop-j.invariant in
    omega (arith, inv.within, inv.size, c.loop-j-test.true, c.args.setting.now.shaped.few)

pub loop-j-preserved : goal.loop-j-preserved
loop-j-preserved c =
    given-next c.loop-j.invariant (omega (arith, c.loop-j-test.true)) c.args.setting.now.shaped.few
    c.name_subtree-name.ensures.upper_bound c.mark_shared.ensures.shared_len_2
    c.mark_shared.ensures.marked c.name_subtree-name.ensures.chosen

pub returns : goal.returns
returns c =
    let now = c.loop-j in
    record {
      bounded = given-bounded now.invariant (omega (arith, c.loop-j-test.false));
      searched = λ A t ts S K O. given-searched now.invariant (omega (arith, c.loop-j-test.false)) K O;
    }
