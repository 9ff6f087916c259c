use native.Mathlib.Omega.{arith}
use lib.Dec.{ltb}
use borrow.Author.Tests.{ltb-false}
use Rattle.lists.proofs.Tests.{or-none-left, or-none-right}
use Rattle.uses.proofs.walking.place_agrees_in_step.Invariants.{standing, standing-end}
use Rattle.uses.proofs.walking.place_agrees_in_step.Goals as goal

pub next_with-i-requires : goal.next_with-i-requires
next_with-i-requires c = record {
  to_in_bounds = omega (arith, c.requires.walkable.searchable.padded.runs.inside, c.requires.walkable.inside);
  k_lt_max_arity = c.requires.walkable.place;
  from_le_to = c.requires.from_le_to;
}

pub next_with-x-requires : goal.next_with-x-requires
next_with-x-requires c = record {
  to_in_bounds = omega (arith, c.requires.walkable.searchable.padded.runs.inside, c.requires.walkable.inside);
  k_lt_max_arity = c.requires.walkable.place;
  from_le_to = c.requires.from_le_to;
}

pub loop-i-init : goal.loop-i-init
loop-i-init c =
    standing c.requires.walked c.next_with-i.ensures c.next_with-x.ensures

pub step-requires : goal.step-requires
step-requires c =
    let z = c.loop-i.invariant in
    record {
      framed = c.requires.framed;
      walkable = c.requires.walkable;
      at_use = z.first;
      at_use_2 = z.second;
    }

pub next_with-i-requires-in-loop-i : goal.next_with-i-requires-in-loop-i
next_with-i-requires-in-loop-i c = record {
  to_in_bounds = omega (arith, c.requires.walkable.searchable.padded.runs.inside, c.requires.walkable.inside);
  k_lt_max_arity = c.requires.walkable.place;
  from_le_to = c.in-Some.ensures.first-inside;
}

pub next_with-x-requires-in-loop-i : goal.next_with-x-requires-in-loop-i
next_with-x-requires-in-loop-i c = record {
  to_in_bounds = omega (arith, c.requires.walkable.searchable.padded.runs.inside, c.requires.walkable.inside);
  k_lt_max_arity = c.requires.walkable.place;
  from_le_to = c.in-Some.ensures.second-inside;
}

pub loop-i-smaller : goal.loop-i-smaller
loop-i-smaller c =
    let further = c.in-Some.ensures.further in
    omega (
      arith,
      further,
      c.next_with-i-in-loop-i.ensures.on,
      c.next_with-i-in-loop-i.ensures.found.inside,
      c.next_with-x-in-loop-i.ensures.on,
      c.next_with-x-in-loop-i.ensures.found.inside,
      c.loop-i.invariant.first.inside,
      c.loop-i.invariant.second.inside,
    )

pub loop-i-preserved : goal.loop-i-preserved
loop-i-preserved c =
    standing (c.in-Some.ensures.walked c.loop-i.invariant.walked) c.next_with-i-in-loop-i.ensures
    c.next_with-x-in-loop-i.ensures

pub returns : goal.returns
returns c =
    let to = c.args.to in
    let first = ltb c.loop-i.i to in
    let second = ltb c.loop-i.x to in
    let left = c.loop-i-test.false in
    λ _. standing-end c.loop-i.invariant (ltb-false c.loop-i.i to (or-none-left first second left))
    (ltb-false c.loop-i.x to (or-none-right first second left))
