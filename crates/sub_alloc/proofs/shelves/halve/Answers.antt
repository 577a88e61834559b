use Rattle.std.proofs.Common.{◌≡◌, ◌+◌, ◌-◌, ◌<◌, ◌^◌, ℕ, length, refl, ap, ◌∙◌, arith, [], ◌∷◌, ◌++◌}
use Rattle.std.proofs.lemmas.Nat.{pow_below}
use Rattle.std.proofs.lemmas.List.{length-set}
use Rattle.index_list.specs.Listing.{Listing, list_with, nodes_on, pushed}
use Rattle.sub_alloc.proofs.Looks.{halved_next, nowhere_next, shifted}
use Rattle.sub_alloc.proofs.shelves.halve.Goals as goal

pub push_back-requires-clause-node_in : goal.push_back-requires-clause-node_in
push_back-requires-clause-node_in c =
    let k = c.loop-class.class - 1 in
    let p = pow_below (c.loop-class.class - 1) c.args.from (omega arith) in
    let s = shifted (c.loop-class.class - 1) (omega arith) in
    omega (arith, p, s, c.loop-class.invariant.nodes)

pub loop-class-preserved : goal.loop-class-preserved
loop-class-preserved c =
    let inv = c.loop-class.invariant in
    let t = c.loop-class.free in
    let above : c.args.to < c.loop-class.class = omega arith in
    let s = shifted (c.loop-class.class - 1) (omega arith) in
    let is : c.push_back.new.self ≡ pushed (c.loop-class.class - 1) (c.args.place + 2 ^ (c.loop-class.class - 1)) c.loop-class.free =
    c.push_back.ensures ∙ ap (λ (n : ℕ). pushed (c.loop-class.class - 1) (c.args.place + n) c.loop-class.free) s
    in
    record {
      down = omega arith;
      up = omega arith;
      nodes = ap (λ (u : Listing). u.nodes) is ∙ inv.nodes;
      lists = ap (λ (u : Listing). length u.lists) is ∙ length-set t.lists (c.loop-class.class - 1) (nodes_on (c.loop-class.class - 1) t ++ (c.args.place + 2 ^ (c.loop-class.class - 1)) ∷ []) ∙ inv.lists;
      nowhere = λ k l.
          ap (list_with (c.args.place + 2 ^ k)) is
          ∙ nowhere_next (c.loop-class.class - 1) c.args.place t (λ e m. inv.nowhere e (omega (arith, m, above))) k l;
      same = halved_next c.args.to c.loop-class.class (c.loop-class.class - 1) c.args.place t c.push_back.new.self above refl is ∙ inv.same;
    }
