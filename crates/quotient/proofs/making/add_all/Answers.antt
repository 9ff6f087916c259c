-- `quotient::making::add_all` meets its contract: the entries are those of the transitions between names, and there is
-- room for them.
use Rattle.std.proofs.Common.{rules}
use native.Mathlib.Omega.{arith}
use mathlib.Core.Path.{◌∙◌}
use Rattle.automata.specs.Quotient.{quotient_list}
use Rattle.subtrees.specs.Store.{bottom_up}
use Rattle.quotient.proofs.Appending.{appended-room, appended_then}
use Rattle.quotient.proofs.Linking.{all-length, all-link, entries-held}
use Rattle.quotient.specs.Nodes.{EachNode, key_of, meta_of}
use Rattle.quotient.proofs.making.add_all.Goals as goal
use Rattle.quotient.proofs.making.add_all.Goals.{After-number_each-2}

-- the subtrees have their two numbers
numbers-made : (c : After-number_each-2) →
    EachNode (meta_of c.args.named.now.subtrees.now.labels c.args.named.now.subtrees.now.arities)
    c.args.named.now.subtrees.now.count c.number_each.new.numbers ×
    EachNode (key_of c.args.named.now.n c.args.named.now.subtrees.now.children) c.args.named.now.subtrees.now.count
    c.number_each-2.new.numbers
numbers-made c =
    let g = c.args.named.now in (
      c.number_each.ensures (meta_of g.subtrees.now.labels g.subtrees.now.arities) (λ j h x e. search rules),
      c.number_each-2.ensures (key_of g.n g.subtrees.now.children) (λ j h x e. search rules),
    )

pub invariant_of-names : goal.invariant_of-names
invariant_of-names c =
    let numbers = numbers-made (goal.at.invariant_of-names c).After-number_each-2 in
    record {
      rises = c.requires.few_chosen.4.chained.rises;
      each_meta = numbers.0;
      each_key = numbers.1;
    }

pub choose_all-requires : goal.choose_all-requires
choose_all-requires c =
    let numbers = numbers-made (goal.at.choose_all-requires c).After-number_each-2 in
    record {
      holds_padded = c.requires.holds_padded;
      odd_marked = c.mark_odd.ensures;
      room = record {
        few = c.requires.room.few;
        args-size = c.requires.room.args-size;
        within = omega (
          arith,
          all-length c.requires.few_chosen.4 numbers.0 numbers.1 c.requires.holds_padded.runs
              (λ i. omega (arith, c.type_inv.transitions i)),
          c.requires.few_chosen.5,
        );
      };
    }

pub add_lost-requires : goal.add_lost-requires
add_lost-requires c =
    let numbers = numbers-made (goal.at.add_lost-requires c).After-number_each-2 in
    let made = c.choose_all.ensures.appended in
    appended-room made c.requires.room (omega (
      arith,
      made.count,
      all-length c.requires.few_chosen.4 numbers.0 numbers.1 c.requires.holds_padded.runs
          (λ i. omega (arith, c.type_inv.transitions i)),
      c.requires.few_chosen.5,
    ))

pub returns : goal.returns
returns c =
    let numbers = numbers-made (goal.at.returns c).After-number_each-2 in
    let all = appended_then c.choose_all.ensures.appended c.add_lost.ensures.appended in
    let chosen = c.choose_all.ensures.same_arrays in
    let added = c.add_lost.ensures.same_arrays in
    record {
      same_arrays = (added.0 ∙ chosen.0, added.1 ∙ chosen.1);
      room_2 = appended-room all c.requires.room (omega (
        arith,
        c.requires.none,
        c.choose_all.ensures.appended.count,
        c.add_lost.ensures.appended.count,
        all-length c.requires.few_chosen.4 numbers.0 numbers.1 c.requires.holds_padded.runs
            (λ i. omega (arith, c.type_inv.transitions i)),
        c.requires.few_chosen.5,
      ));
      holds_entries = λ A t ν o C.
          entries-held (quotient_list A t (bottom_up t) ν) c.requires.none
          (all-link C numbers.0 numbers.1 c.requires.holds_padded.runs (λ i. omega (arith, c.type_inv.transitions i)))
          all;
    }
